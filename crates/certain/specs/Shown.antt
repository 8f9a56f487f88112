-- What the rows of a tree stand for.
use Rattle.std.specs.Prelude.{ℕ}
use Rattle.finds.specs.Exactness.{Exactly}
use Rattle.finds.specs.Finds.{Finds}
use Rattle.finds.specs.Trees.{Tree}
use Rattle.trees.specs.Cells.{Holds, Sound}
use Rattle.trees.specs.Rows.{seen}
use Rattle.trees.specs.declared.rows.View.{View}
use Rattle.trees.specs.declared.whole.WholeTree.{WholeTree}

-- The n cells are a sound tree, which allows exactly the orders that fit the finds.
pub record Shows (v : View) (n : ℕ) (f : Finds) (t : Tree) : Type 0 where
  pub holds : Holds (seen v) n t
  pub sound : Sound t
  pub exact : Exactly f t

-- The same of a whole tree in its cells.
abbrev pub ShownBy : WholeTree → Finds → Tree → Type 0
ShownBy w f t = Shows w.rows w.count f t
