-- Changing a tree for one kind more, at the smallest part that holds all graves of the kind.
use Rattle.std.specs.Prelude.{ℕ, zero, suc, Bool, true, false}
use Rattle.finds.specs.Trees.{Tree, grave, any, row, Trees, none, more}
use Rattle.finds.specs.Branches.{◌+++◌}
use Rattle.finds.specs.Counts.{count_t}
use Rattle.pqtree.specs.Status.{Status, bare, part, full, status, sel, heavy}
use Rattle.pqtree.specs.Opening.{Opening, stuck, laid, ◌⊞◌, group, open_up, open_row}

-- What comes of a change: the kind is torn in each order, or there is this tree.
pub data Outcome : Type 0 where
  torn : Outcome
  made : Tree → Outcome

-- The opening as the branches of a row.
abbrev pub as_row : Opening → Outcome
as_row stuck = torn
as_row (laid us) = made (row us)

-- The opening as branches that may stand in any order.
abbrev pub as_any : Opening → Outcome
as_any stuck = torn
as_any (laid us) = made (any us)

-- x for a bare tree, and y for any other.
abbrev pub if_bare : Status → Opening → Opening → Opening
if_bare bare x y = x
if_bare part x y = y
if_bare full x y = y

-- A row of which two branches or more have the kind: bare ones as they are, the first one with the kind laid open from empty to full, the rest from full to empty.
abbrev pub row_cut : (ℕ → Bool) → Trees → Opening
row_cut k none = stuck
row_cut k (more t ts) = if_bare (status k t) (laid (more t none) ⊞ row_cut k ts) (open_up k true t ⊞ open_row k false ts)

-- The partial branches ps and the full ones fs, bound together: the full ones alone; or the row of the first partial one, the full ones as one branch, and the other partial one.
abbrev pub cut_middle : (ℕ → Bool) → Trees → Trees → Outcome
cut_middle k none fs = made (any fs)
cut_middle k (more p ps) fs = as_row (row_cut k (more p (group fs +++ ps)))

-- The bare branches es with what was made as one branch more among them.
abbrev pub join : Trees → Outcome → Outcome
join es torn = torn
join none (made t) = made t
join (more e es) (made t) = made (any (more e es +++ more t none))

-- Branches in any order, of which two or more have the kind.
abbrev pub any_cut : (ℕ → Bool) → Trees → Outcome
any_cut k ts = join (sel k bare ts) (cut_middle k (sel k part ts) (sel k full ts))

-- The branches x, what was made, and the branches y.
abbrev pub place : Outcome → Trees → Trees → Opening
place torn x y = stuck
place (made u) x y = laid (x +++ more u y)

-- x if the number is 1, and else y.
abbrev pub if_one : ℕ → Outcome → Outcome → Outcome
if_one zero x y = y
if_one (suc zero) x y = x
if_one (suc (suc n)) x y = y

-- The change of a tree that has the kind: where one branch alone has it, in that branch; else here.
abbrev mutual
  pub change : (ℕ → Bool) → Tree → Outcome
  change k (grave g) = made (grave g)
  change k (any ts) = if_one (heavy k ts) (as_any (inside k ts)) (any_cut k ts)
  change k (row ts) = if_one (heavy k ts) (as_row (inside k ts)) (as_row (row_cut k ts))

  -- The branches with the first one that has the kind changed.
  pub inside : (ℕ → Bool) → Trees → Opening
  inside k none = stuck
  inside k (more t ts) = if_bare (status k t) (laid (more t none) ⊞ inside k ts) (place (change k t) none ts)

-- y if the number is 2 or more, and else x.
abbrev pub if_two : ℕ → Outcome → Outcome → Outcome
if_two zero x y = x
if_two (suc zero) x y = x
if_two (suc (suc n)) x y = y

-- One kind more: a kind that lay in fewer than two graves changes nothing.
abbrev pub step : (ℕ → Bool) → Tree → Outcome
step k t = if_two (count_t k true t) (made t) (change k t)
