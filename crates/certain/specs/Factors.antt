-- What each cell of a tree adds to the number of its orders.
use Rattle.std.specs.Prelude.{ℕ, zero, suc, ◌+◌, ◌*◌, cond, ◌==◌}
use Rattle.trees.specs.Cells.{Cells}

-- What a cell adds by its sort: 2 for a row.
abbrev pub own : Cells → ℕ → ℕ
own R j = cond (R.sort j == 2) 2 1

-- What it adds as one of branches in any order: one more than its place, so that k branches add 1 * 2 * .. * k. The root is no branch.
abbrev pub among : Cells → ℕ → ℕ
among R zero = 1
among R (suc j) = cond (R.sort (R.parent (suc j)) == 1) (R.place (suc j) + 1) 1

-- What it adds in all.
abbrev pub factor : Cells → ℕ → ℕ
factor R j = own R j * among R j
