-- The shares that a program counts are the statuses of trees.
use Rattle.std.proofs.Common.{◌≡◌, ℕ, zero, suc, ◌+◌, ◌-◌, ◌/◌, ◌^◌, ◌<◌, ◌≤◌, Bool, true, false, cond, not, ◌&&◌, eqb, ◌⊎◌, List, [], ◌∷◌, get_or, filter, sym, refl, ap, ◌∙◌, inl, inr, pow-suc, arith}
use lib.Bits.{bit_and}
use lib.Count.{ones}
use Rattle.std.proofs.lemmas.Bool.Decides.{eqb_tells}
use Rattle.finds.specs.Trees.{Tree, Trees, none, more}
use Rattle.finds.specs.Counts.{hit, count_t}
use Rattle.finds.specs.Sets.{bit, has}
use Rattle.finds.proofs.Size.{size_count}
use Rattle.pqtree.specs.Status.{Status, part, status_of, status, far, same, keep, sel, all_are, sorted}
use Rattle.pqtree.proofs.Status.{lacks_far}
use Rattle.trees.specs.Cells.{size, set_of, Part, Parts, Sound, Sounds}
use Rattle.trees.specs.Masks.{Mask}
use Rattle.trees.specs.Rows.{seen}
use Rattle.trees.specs.declared.rows.View.{View}
use Rattle.finds.proofs.Bits.{bit_low}
use Rattle.trees.proofs.Sets.{set_count, set_size, sounds_first, sounds_rest}
use Rattle.changes.specs.declared.shares.Share.{Share}
use Rattle.changes.specs.declared.shares.Share.TheVariants.{Empty, Partial, Full}
use Rattle.changes.specs.Shares.{share, alike, has_share, goes_on, in_order}
use Rattle.trees.proofs.Cells.{body_set}

-- Graves with the kind and without it are all graves.
pub count_size : (k : ℕ → Bool) (b : Bool) (t : Tree) → count_t k b t + count_t k (not b) t ≡ size t
count_size k true t = size_count k t
count_size k false t = omega (arith, size_count k t)

-- Each set is a mask: of the graves that it has.
pub mask_has : (m : ℕ) → Mask (has m) true m
mask_has m g l = go (bit g m) (bit_low g m)
  where
    go : (x : ℕ) → x ≤ 1 → x ≡ hit (eqb x 1) true
    go zero h = refl
    go (suc zero) h = refl
    go (suc (suc x)) h = absurd (omega arith)

-- The complement of a set is the mask of the graves that it lacks.
bit_not : (d g m : ℕ) → m < 2 ^ d → g < d → bit g (2 ^ d - 1 - m) + bit g m ≡ 1
bit_not zero g m h l = absurd (omega arith)
bit_not (suc d) zero m h l = let e = pow-suc 2 d in omega arith
bit_not (suc d) (suc g) m h l =
    let e = pow-suc 2 d in
    let f : (2 ^ suc d - 1 - m) / 2 ≡ 2 ^ d - 1 - m / 2 = omega arith in
    ap (λ (z : ℕ). bit g z + bit g (m / 2)) f ∙ bit_not d g (m / 2) (omega arith) (omega arith)

pub mask_not : (m : ℕ) → m < 2 ^ 64 → Mask (has m) false (2 ^ 64 - 1 - m)
mask_not m h g l = go (bit g m) (bit g (2 ^ 64 - 1 - m)) (bit_not 64 g m h l)
  where
    go : (x y : ℕ) → y + x ≡ 1 → y ≡ hit (eqb x 1) false
    go zero y e = omega arith
    go (suc zero) y e = omega arith
    go (suc (suc x)) y e = absurd (omega arith)

-- The status that a share of the mask for b stands for.
abbrev pub told : Bool → Share → Status
told b Empty = far b
told b Partial = part
told b Full = far (not b)

part_status : (n m : ℕ) → (n ≡ 0 → ⊥) → (m ≡ 0 → ⊥) → status_of n m ≡ part
part_status zero m p q = absurd (p refl)
part_status (suc n) zero p q = absurd (q refl)
part_status (suc n) (suc m) p q = refl

both_part : (k : ℕ → Bool) (b : Bool) (t : Tree) → (count_t k b t ≡ 0 → ⊥) → (count_t k (not b) t ≡ 0 → ⊥) → status k t ≡ part
both_part k true t p q = part_status (count_t k true t) (count_t k false t) p q
both_part k false t p q = part_status (count_t k true t) (count_t k false t) q p

module _ (k : ℕ → Bool) (b : Bool) (m : ℕ) (w : Mask k b m) where
  pub share_tells : (t : Tree) → Sound t → status k t ≡ told b (share (set_of t) m)
  share_tells t s = go (eqb_tells c 0) (eqb_tells c n)
    where
      c : ℕ
      c = ones (bit_and (set_of t) m)

      n : ℕ
      n = ones (set_of t)

      counted : c ≡ count_t k b t
      counted = set_count k b t m s w

      sized : n ≡ count_t k b t + count_t k (not b) t
      sized = set_size t s ∙ sym (count_size k b t)

      go : ((eqb c 0 ≡ true) × (c ≡ 0)) ⊎ ((eqb c 0 ≡ false) × (c ≡ 0 → ⊥)) → ((eqb c n ≡ true) × (c ≡ n)) ⊎ ((eqb c n ≡ false) × (c ≡ n → ⊥)) →
          status k t ≡ told b (share (set_of t) m)
      go (inl (e, z)) y = rw e (lacks_far k b t s.good (sym counted ∙ z))
      go (inr (e, z)) (inl (f, y)) = rw (e, f) (lacks_far k (not b) t s.good (omega (arith, counted, sized)))
      go (inr (e, z)) (inr (f, y)) = rw (e, f) (both_part k b t (λ x. z (counted ∙ x)) (λ x. y (omega (arith, counted, sized))))

  -- Two shares are alike if the statuses are the same.
  alike_same : (c : Bool) (x y : Share) → same (told c x) (told c y) ≡ alike x y
  alike_same true Empty Empty = refl
  alike_same true Empty Partial = refl
  alike_same true Empty Full = refl
  alike_same true Partial Empty = refl
  alike_same true Partial Partial = refl
  alike_same true Partial Full = refl
  alike_same true Full Empty = refl
  alike_same true Full Partial = refl
  alike_same true Full Full = refl
  alike_same false Empty Empty = refl
  alike_same false Empty Partial = refl
  alike_same false Empty Full = refl
  alike_same false Partial Empty = refl
  alike_same false Partial Partial = refl
  alike_same false Partial Full = refl
  alike_same false Full Empty = refl
  alike_same false Full Partial = refl
  alike_same false Full Full = refl

  module _ (v : View) (n : ℕ) where
    -- The cell's share tells the status of the tree that stands there.
    pub cell_tells : (c : ℕ) (t : Tree) → Part (seen v) n c t → Sound t → status k t ≡ told b (share (get_or v.sets.now c 0) m)
    cell_tells c t p s = rw (body_set (seen v) c t p.0) (share_tells t s)

    -- Cells picked by their share are the roots of the branches of that status.
    pub picked : (want : Share) (cs : List ℕ) (ts : Trees) → Parts (seen v) n cs ts → Sounds ts → Parts (seen v) n (filter (has_share v.sets.now m want) cs) (sel k (told b want) ts)
    picked want [] none p s = tt
    picked want [] (more t ts) p s = absurd p
    picked want (c ∷ cs) none p s = absurd p
    picked want (c ∷ cs) (more t ts) p s =
        rw (cell_tells c t p.0 (sounds_first t ts s), alike_same b (share (get_or v.sets.now c 0) m) want)
        (go (alike (share (get_or v.sets.now c 0) m) want) (picked want cs ts p.1 (sounds_rest t ts s)))
      where
        go : (x : Bool) → Parts (seen v) n (filter (has_share v.sets.now m want) cs) (sel k (told b want) ts) →
            Parts (seen v) n (cond x (c ∷ filter (has_share v.sets.now m want) cs) (filter (has_share v.sets.now m want) cs)) (keep x t (sel k (told b want) ts))
        go true q = (p.0, q)
        go false q = q

    -- Cells come in sequence just if the branches do; past the empty ones, if all are full.
    pub ordered : (cs : List ℕ) (ts : Trees) → Parts (seen v) n cs ts → Sounds ts →
        (in_order v.sets.now m false cs ≡ sorted k b ts) × (in_order v.sets.now m true cs ≡ all_are k (far (not b)) ts)
    ordered [] none p s = (refl, refl)
    ordered [] (more t ts) p s = absurd p
    ordered (c ∷ cs) none p s = absurd p
    ordered (c ∷ cs) (more t ts) p s =
        rw (cell_tells c t p.0 (sounds_first t ts s)) (go b (share (get_or v.sets.now c 0) m) (ordered cs ts p.1 (sounds_rest t ts s)))
      where
        go : (b : Bool) (x : Share) → (in_order v.sets.now m false cs ≡ sorted k b ts) × (in_order v.sets.now m true cs ≡ all_are k (far (not b)) ts) →
            (goes_on x false (λ q. in_order v.sets.now m q cs) ≡ cond (same (told b x) (far b)) (sorted k b ts) (all_are k (far (not b)) ts))
            × (goes_on x true (λ q. in_order v.sets.now m q cs) ≡ same (told b x) (far (not b)) && all_are k (far (not b)) ts)
        go true Empty h = (h.0, refl)
        go true Partial h = (h.1, refl)
        go true Full h = (h.1, h.1)
        go false Empty h = (h.0, refl)
        go false Partial h = (h.1, refl)
        go false Full h = (h.1, h.1)
