-- What is found on walks through a tree.
use Rattle.std.specs.Prelude.{◌≡◌, ℕ, suc, ◌+◌}
use Rattle.finds.specs.Branches.{◌+++◌}
use Rattle.finds.specs.Sets.{bit}
use Rattle.finds.specs.Trees.{Tree, Trees, more}
use Rattle.trees.specs.Cells.{all_nodes, set_of, kids}

-- Cell c is the root of that branch of t, the tree in cell i, which has the grave.
pub record BranchWith (i grave : ℕ) (t : Tree) (c : ℕ) : Type 0 where
  pub before : Trees
  pub it : Tree
  pub behind : Trees
  pub is : kids t ≡ before +++ more it behind
  pub at : c ≡ suc i + all_nodes before
  pub in_it : bit grave (set_of it) ≡ 1
