-- Whole trees in lent rows.
use Rattle.std.specs.Prelude.{◌≡◌, ℕ}
use Rattle.trees.specs.Checks.{TreeIn}
use Rattle.trees.specs.declared.rows.View.{View}
use Rattle.trees.specs.declared.subtree.Subtree.{Subtree}
use Rattle.trees.specs.declared.whole.WholeTree.{WholeTree}

-- The tree is that of the first n cells of the rows, which hold one.
pub record Found (v : View) (n : ℕ) (w : WholeTree) : Type 0 where
  pub tree : TreeIn v n
  pub rows : w.rows ≡ v
  pub count : w.count ≡ n

-- The part is the whole tree.
pub record Within (w : WholeTree) (s : Subtree) : Type 0 where
  pub rows : s.rows ≡ w.rows
  pub count : s.count ≡ w.count
  pub root : s.root ≡ 0
