-- What is found when rows are checked for a tree.
use Rattle.std.specs.Prelude.{◌≡◌, ℕ, ◌+◌, ◌<◌, ◌≤◌, Some, None, Option}
use Rattle.finds.specs.Trees.{Tree}
use Rattle.trees.specs.Cells.{nodes, Sound, Cells, Body, Holds, Part}
use Rattle.trees.specs.Rows.{seen, Long}
use Rattle.trees.specs.declared.rows.View.{View}

-- The first n cells of the rows hold a sound tree.
pub record TreeIn (v : View) (n : ℕ) : Type 0 where
  pub long : Long v n
  pub tree : Tree
  pub holds : Holds (seen v) n tree
  pub sound : Sound tree

-- From cell i on lies a sound tree that ends before the cell e, and each sound tree that is a part there ends there.
pub record Checked (R : Cells) (n i e : ℕ) : Type 0 where
  pub within : (i < e) × (e ≤ n)
  pub tree : Tree
  pub body : Body R i tree
  pub sound : Sound tree
  pub end : e ≡ i + nodes tree
  pub only : (t : Tree) → Part R n i t → Sound t → e ≡ i + nodes t

-- Such a cell e was found; or there is none, and no sound tree has its root in cell i.
abbrev pub Checks : Cells → ℕ → ℕ → Option ℕ → Type 0
Checks R n i None = (t : Tree) → Part R n i t → Sound t → ⊥
Checks R n i (Some e) = Checked R n i e
