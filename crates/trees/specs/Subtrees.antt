-- Parts of a tree in lent rows, and walks over their branches.
use Rattle.std.specs.Prelude.{◌≡◌, ℕ, suc, ◌+◌, ◌<◌, ◌≤◌, Option, Some, None, List, [], ◌∷◌}
use Rattle.finds.specs.Trees.{Tree}
use Rattle.trees.specs.Cells.{nodes, kids, roots, Part}
use Rattle.trees.specs.Rows.{seen}
use Rattle.trees.specs.declared.subtree.Branches.{Branches}
use Rattle.trees.specs.declared.subtree.Subtree.{Subtree}

-- The part is this tree.
abbrev pub Is : Subtree → Tree → Type 0
Is s t = Part (seen s.rows) s.count s.root t

-- The set of its graves.
abbrev pub set_at : Subtree → ℕ
set_at s = (seen s.rows).set s.root

-- The second part lies in the same cells as the first.
pub record Within (s b : Subtree) : Type 0 where
  pub rows : b.rows ≡ s.rows
  pub count : b.count ≡ s.count

-- The next branch of a walk: its root is the next cell.
pub record Ahead (b : Branches) (s : Subtree) : Type 0 where
  pub some : b.at < b.end
  pub rows : s.rows ≡ b.rows
  pub count : s.count ≡ b.count
  pub root : s.root ≡ b.at

-- What comes next on a walk: a branch, or nothing at the end.
abbrev pub Peeks : Branches → Option Subtree → Type 0
Peeks b None = b.end ≤ b.at
Peeks b (Some s) = Ahead b s

-- A walk goes on by one branch: the next cell is its root, and the walk is then behind it.
pub record Steps (b : Branches) (s : Subtree) (b' : Branches) : Type 0 where
  pub some : b.at < b.end
  pub rows : s.rows ≡ b.rows
  pub count : s.count ≡ b.count
  pub root : s.root ≡ b.at
  pub rows_after : b'.rows ≡ b.rows
  pub count_after : b'.count ≡ b.count
  pub at_after : (t : Tree) → Is s t → b'.at ≡ s.root + nodes t
  pub end_after : b'.end ≡ b.end

-- What a walk yields: a branch, or nothing at the end.
abbrev pub Yields : Branches → Option Subtree → Branches → Type 0
Yields b None b' = (b.end ≤ b.at) × (b' ≡ b)
Yields b (Some s) b' = Steps b s b'

-- The walk yields the parts with their roots in these cells, one after the other, and then nothing.
abbrev pub Lists : Branches → List ℕ → Type 0
Lists b [] = (o : Option Subtree) (b' : Branches) → Yields b o b' → o ≡ None
Lists b (c ∷ cs) = (o : Option Subtree) (b' : Branches) → Yields b o b' → (s : Subtree) × (o ≡ Some s) × (s.root ≡ c) × Lists b' cs

-- A walk over all branches of the part, from left to right.
pub record Begins (s : Subtree) (b : Branches) : Type 0 where
  pub rows : b.rows ≡ s.rows
  pub count : b.count ≡ s.count
  pub at : b.at ≡ s.root + 1
  pub end : (t : Tree) → Is s t → b.end ≡ s.root + nodes t
  pub all : (t : Tree) → Is s t → Lists b (roots (suc s.root) (kids t))
