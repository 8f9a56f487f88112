-- The change at the smallest part that holds all graves of the kind.
use Rattle.std.specs.Prelude.{ℕ, Bool}
use Rattle.finds.specs.Trees.{Tree, grave, any, row}
use Rattle.pqtree.specs.Change.{Outcome, made, as_row, row_cut, any_cut}

-- Branches in any order and branches in a row are changed each in their way; a grave stays as it is.
abbrev pub template : (ℕ → Bool) → Tree → Outcome
template k (grave g) = made (grave g)
template k (any ts) = any_cut k ts
template k (row ts) = as_row (row_cut k ts)
