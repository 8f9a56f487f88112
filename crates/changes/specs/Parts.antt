-- Some parts of a tree in lent rows.
use Rattle.std.specs.Prelude.{◌≡◌, ℕ, List, [], ◌∷◌, take, drop, Option, Some, None, slice_index}
use Rattle.finds.specs.Trees.{Trees}
use Rattle.trees.specs.Cells as cells
use Rattle.trees.specs.Rows.{seen}
use Rattle.trees.specs.declared.rows.View.{View}
use Rattle.trees.specs.declared.subtree.Subtree.{Subtree}
use Rattle.changes.specs.declared.parts.Parts.{Parts}

-- The parts are these trees.
abbrev pub Are : Parts → Trees → Type 0
Are p ts = cells.Parts (seen p.rows) p.count p.cells.now ts

-- The parts have their roots in these cells, of the first n cells of the rows.
pub record Lying (v : View) (n : ℕ) (cs : List ℕ) (p : Parts) : Type 0 where
  pub rows : p.rows ≡ v
  pub count : p.count ≡ n
  pub cells : p.cells.now ≡ cs

-- They lie in the tree of s.
abbrev pub In : Subtree → List ℕ → Parts → Type 0
In s cs p = Lying s.rows s.count cs p

-- The first x of the parts.
abbrev pub Front : Parts → ℕ → Parts → Type 0
Front p x f = Lying p.rows p.count (take x p.cells.now) f

-- The parts behind the first x.
abbrev pub Behind : Parts → ℕ → Parts → Type 0
Behind p x b = Lying p.rows p.count (drop x p.cells.now) b

-- The part of this number, counted from 0.
pub record At (p : Parts) (x : ℕ) (s : Subtree) : Type 0 where
  pub rows : s.rows ≡ p.rows
  pub count : s.count ≡ p.count
  pub root : s.root ≡ slice_index p.cells.now x

-- The next of the parts, and those behind it.
pub record Steps (p : Parts) (s : Subtree) (p' : Parts) : Type 0 where
  pub rows : s.rows ≡ p.rows
  pub count : s.count ≡ p.count
  pub cells : p.cells.now ≡ s.root ∷ p'.cells.now
  pub rows_after : p'.rows ≡ p.rows
  pub count_after : p'.count ≡ p.count

-- What going through the parts yields: the next, or nothing where there are no more.
abbrev pub Yields : Parts → Option Subtree → Parts → Type 0
Yields p None p' = (p.cells.now ≡ []) × (p' ≡ p)
Yields p (Some s) p' = Steps p s p'
