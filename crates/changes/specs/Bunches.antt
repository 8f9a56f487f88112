-- Lists of cells that are the roots of trees.
use Rattle.std.specs.Prelude.{ℕ, ◌+◌, ◌≤◌, List, [], ◌∷◌, take, count_ones, slice_index}
use Rattle.finds.specs.Trees.{Trees}
use Rattle.trees.specs.Cells.{Parts, Sounds}
use Rattle.trees.specs.Rows.{seen, Long}
use Rattle.trees.specs.declared.rows.View.{View}
use Rattle.changes.specs.declared.bunch.Bunch.{Bunch}

-- The cells of a bunch.
abbrev pub listed : Bunch → List ℕ
listed b = take b.many b.cells

-- The cells are the roots of sound trees, no two of which have a grave in common.
pub record AllStand (v : View) (n : ℕ) (cs : List ℕ) : Type 0 where
  pub long : Long v n
  pub few : n ≤ 127
  pub trees : Trees
  pub parts : Parts (seen v) n cs trees
  pub sound : Sounds trees

-- How many graves the cells have together, in the row ms of sets.
abbrev pub weight : List ℕ → List ℕ → ℕ
weight ms [] = 0
weight ms (c ∷ cs) = count_ones (slice_index ms c) + weight ms cs
