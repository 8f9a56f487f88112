-- Loops over the branches of a part.
use Rattle.std.proofs.Common.{◌≡◌, ℕ, suc, ◌+◌, ◌≤◌, Option, Some, None, sym, ap, ◌∙◌, subst, arith}
use Rattle.finds.specs.Branches.{◌+++◌}
use Rattle.finds.specs.Trees.{Tree, Trees, none, more}
use lib.Count.{ones}
use Rattle.trees.specs.Cells.{nodes, all_nodes, size, set_of, kids, Part, Sound, Sounds}
use Rattle.trees.specs.Rows.{seen}
use Rattle.trees.specs.Subtrees.{Is, set_at, Within, Begins, Ahead, Steps, Yields}
use Rattle.trees.specs.Walks.{BranchWith}
use Rattle.trees.specs.declared.rows.View.{View}
use Rattle.trees.specs.declared.subtree.Branches.{Branches}
use Rattle.trees.specs.declared.subtree.Subtree.{Subtree}
use Rattle.trees.proofs.Cells.{body_set}
use Rattle.trees.proofs.Sets.{sound_kids, sounds_cut, sounds_first}
use Rattle.trees.proofs.Walking.{Come, Next, Walked, walk_start, walk_next, walk_more, walk_end, with_part}
use Rattle.trees.proofs.Standing.{part_size}

-- What lies in the cells of a part lies in those of a part beside it.
pub beside : {s b : Subtree} (u : Tree) → Within s b → Part (seen s.rows) s.count b.root u → Is b u
beside {s} {b} u w p = subst (λ (v : View). Part (seen v) b.count b.root u) (sym w.rows) (subst (λ (n : ℕ). Part (seen s.rows) n b.root u) (sym w.count) p)

pub set_is : (s : Subtree) (u : Tree) → Is s u → set_at s ≡ set_of u
set_is s u p = body_set (seen s.rows) s.root u p.0

-- The walk b over the branches of s has come so far that P holds of the branches done and those left.
pub record Going (s : Subtree) (b : Branches) (P : Tree → Trees → Trees → Type 0) : Type 0 where
  pub rows : b.rows ≡ s.rows
  pub count : b.count ≡ s.count
  pub end : (t : Tree) → Is s t → b.end ≡ s.root + nodes t
  pub walked : Walked (seen s.rows) s.count s.root b.at P

pub going_start : {s : Subtree} {b b' : Branches} (P : Tree → Trees → Trees → Type 0) → Begins s b → b' ≡ b → ((t : Tree) → Is s t → P t none (kids t)) → Going s b' P
going_start {s} {b} {b'} P h e f = subst (λ (x : Branches). Going s x P) (sym e) (record {
  rows = h.rows;
  count = h.count;
  end = h.end;
  walked = λ t p. subst (λ (x : ℕ). Come s.root x t (P t)) (sym h.at) (walk_start s.root t (P t) (f t p));
})

-- The next branch x of the tree t.
pub record Branch (s x : Subtree) (t : Tree) (P : Trees → Trees → Type 0) : Type 0 where
  pub done : Trees
  pub it : Tree
  pub rest : Trees
  pub is : kids t ≡ done +++ more it rest
  pub at : x.root ≡ suc s.root + all_nodes done
  pub part : Is x it
  pub so : P done (more it rest)

-- The branch that a step yields was the next.
pub ahead : {b b' : Branches} {x : Subtree} → Steps b x b' → Ahead b x
ahead h = record { some = h.some; rows = h.rows; count = h.count; root = h.root }

-- A walk with a branch ahead goes on by one.
pub goes_on : {b b' : Branches} {x : Subtree} → Ahead b x → (o : Option Subtree) → Yields b o b' → (s : Subtree) × Steps b s b'
goes_on h None y = absurd (omega (arith, h.some, y.0))
goes_on h (Some s) y = (s, y)

-- Two that are next on the same walk have the same graves.
pub same_ahead : {b : Branches} {x y : Subtree} → Ahead b x → Ahead b y → set_at x ≡ set_at y
same_ahead {b} {x} {y} h k = ap (λ (v : View). (seen v).set x.root) (h.rows ∙ sym k.rows) ∙ ap (λ (i : ℕ). (seen y.rows).set i) (h.root ∙ sym k.root)

ahead_within : {s x : Subtree} {b : Branches} {P : Tree → Trees → Trees → Type 0} → Going s b P → Ahead b x → Within s x
ahead_within g h = record { rows = h.rows ∙ g.rows; count = h.count ∙ g.count }

pub going_within : {s x : Subtree} {b b' : Branches} {P : Tree → Trees → Trees → Type 0} → Going s b P → Steps b x b' → Within s x
going_within g h = ahead_within g (ahead h)

next_of : {s x : Subtree} {b : Branches} {P : Tree → Trees → Trees → Type 0} → Going s b P → Ahead b x → (t : Tree) → Is s t → Next (seen s.rows) s.count s.root x.root t (P t)
next_of {s} {x} {b} {P} g h t p =
    subst (λ (c : ℕ). Next (seen s.rows) s.count s.root c t (P t)) (sym h.root) (walk_next p (g.walked t p) (g.end t p) h.some)

pub going_ahead : {s x : Subtree} {b : Branches} {P : Tree → Trees → Trees → Type 0} → Going s b P → Ahead b x → (t : Tree) → Is s t → Branch s x t (P t)
going_ahead g h t p = let n = next_of g h t p in record { done = n.done; it = n.it; rest = n.rest; is = n.is; at = n.at; part = beside n.it (ahead_within g h) n.part; so = n.so }

pub going_next : {s x : Subtree} {b b' : Branches} {P : Tree → Trees → Trees → Type 0} → Going s b P → Steps b x b' → (t : Tree) → Is s t → Branch s x t (P t)
going_next g h = going_ahead g (ahead h)

-- A branch of a sound tree is sound.
pub branch_sound : {s x : Subtree} {t : Tree} {P : Trees → Trees → Type 0} → Sound t → (b : Branch s x t P) → Sound b.it
branch_sound {s} {x} {t} {P} h b = sounds_first b.it b.rest (sounds_cut b.done (more b.it b.rest) (subst Sounds b.is (sound_kids t h))).1

pub going_more : {s x : Subtree} {b b' : Branches} {P : Tree → Trees → Trees → Type 0} (Q : Tree → Trees → Trees → Type 0) → Going s b P → Steps b x b' →
    ((t : Tree) → Is s t → (n : Branch s x t (P t)) → Q t (n.done +++ more n.it none) n.rest) → Going s b' Q
unfolding next_of going_ahead going_next
going_more {s} {x} {b} {b'} {P} Q g h f = record {
  rows = h.rows_after ∙ g.rows;
  count = h.count_after ∙ g.count;
  end = λ t p. h.end_after ∙ g.end t p;
  walked = λ t p. let n = next_of g (ahead h) t p in walk_more (Q t) b'.at n (h.at_after n.it (beside n.it (going_within g h) n.part)) (f t p (going_next g h t p));
}

-- At the end all branches are done.
pub going_end : {s : Subtree} {b : Branches} {P : Tree → Trees → Trees → Type 0} → Going s b P → b.end ≤ b.at → (t : Tree) → Is s t → P t (kids t) none
going_end g l t p = walk_end (g.walked t p) (g.end t p) l

-- ---- the branch that has a grave

pub branch_is : {s b : Subtree} {g : ℕ} {t : Tree} → Within s b → (w : BranchWith s.root g t b.root) → Is s t → Is b w.it
branch_is {s} {b} i w p = beside w.it i (with_part (seen s.rows) s.count w p)

-- How many graves a part has.
pub size_is : (s : Subtree) (u : Tree) → Is s u → Sound u → ones (set_at s) ≡ size u
size_is s u p h = part_size (seen s.rows) s.count s.root u p h
