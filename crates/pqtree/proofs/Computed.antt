-- What of the change a program need not compute: trees that stay whole, and the sequence in a middle.
use Rattle.std.proofs.Common.{◌≡◌, ℕ, Bool, true, false, cond, refl, ap, ◌∙◌, arith}
use Rattle.finds.specs.Trees.{Tree, any, Trees, none, more, Goods}
use Rattle.finds.specs.Branches.{◌+++◌}
use Rattle.pqtree.specs.Status.{part, full, status, far, sorted, few}
use Rattle.pqtree.specs.Opening.{Opening, stuck, laid, ◌⊞◌, group, open_up, open_all, open_row}
use Rattle.pqtree.specs.Change.{as_row, cut_middle}
use Rattle.pqtree.proofs.Status.{same_refl, lacks_far}
use Rattle.pqtree.proofs.Chosen.{Are, far_count}
use Rattle.pqtree.proofs.Opening.{open_whole, open_all_plus}

module _ (k : ℕ → Bool) where
  -- Branches that are not partial stay whole.
  pub open_all_whole : (b c : Bool) (ts : Trees) → Are k (far c) ts → open_all k b ts ≡ laid ts
  open_all_whole b c none a = refl
  open_all_whole b c (more t ts) a = rw (open_whole k b c t a.0) (rw (open_all_whole b c ts a.1))

  -- Branches that lack b make no difference to the sequence of what comes behind them.
  pub sorted_past : (b : Bool) (x y : Trees) → Are k (far b) x → sorted k b (x +++ y) ≡ sorted k b y
  sorted_past b none y a = refl
  sorted_past b (more t x) y a = rw a.0 (rw (same_refl (far b)) (sorted_past b x y a.1))

  -- Partial branches come in sequence just if there is at most one.
  pub sorted_parts : (b : Bool) (ps : Trees) → Are k part ps → sorted k b ps ≡ few ps
  sorted_parts b none a = refl
  sorted_parts true (more p none) a = rw a.0
  sorted_parts false (more p none) a = rw a.0
  sorted_parts true (more p (more q ps)) a = rw a.0 (rw a.1.0)
  sorted_parts false (more p (more q ps)) a = rw a.0 (rw a.1.0)

  -- A group of branches that lack b lacks it.
  pub group_far : (b : Bool) (ts : Trees) → Goods ts → Are k (far b) ts → Are k (far b) (group ts)
  group_far b none h a = tt
  group_far b (more t none) h a = a
  group_far b (more t (more u us)) h a = (lacks_far k b (any (more t (more u us))) (omega arith, h) (far_count k b (more t (more u us)) a), tt)

  -- The row of a middle: the first partial branch laid open, the full ones as one branch, and at most one partial branch more laid open the other way.
  pub cut_middle_is : (p : Tree) (ps fs : Trees) → status k p ≡ part → Are k part ps → Goods fs → Are k full fs →
      cut_middle k (more p ps) fs ≡ as_row (open_up k true p ⊞ cond (few ps) (laid (group fs) ⊞ open_all k false ps) stuck)
  cut_middle_is p ps fs e a h c = rw e (ap (λ (z : Opening). as_row (open_up k true p ⊞ z)) rest)
    where
      g : Are k full (group fs)
      g = group_far false fs h c

      in_sequence : sorted k false (group fs +++ ps) ≡ few ps
      in_sequence = sorted_past false (group fs) ps g ∙ sorted_parts false ps a

      opened : open_all k false (group fs +++ ps) ≡ laid (group fs) ⊞ open_all k false ps
      opened = open_all_plus k false (group fs) ps ∙ ap (λ (z : Opening). z ⊞ open_all k false ps) (open_all_whole false false (group fs) g)

      rest : open_row k false (group fs +++ ps) ≡ cond (few ps) (laid (group fs) ⊞ open_all k false ps) stuck
      rest = rw (in_sequence, opened)
