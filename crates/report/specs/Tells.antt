-- What the answer with a tree promises.
use Rattle.std.specs.Prelude.{◌≡◌, ℕ, ◌<◌, List, ◌++◌, Option}
use Rattle.finds.specs.Finds.{Finds}
use Rattle.finds.specs.Trees.{Tree, graves}
use Rattle.certain.specs.Counting.{Counted}
use Rattle.certain.specs.Near.{Told}
use Rattle.certain.specs.declared.neighbours.Neighbours.{Neighbours}
use Rattle.certain.specs.Shown.{ShownBy}
use Rattle.trees.specs.declared.whole.WholeTree.{WholeTree}
use Rattle.report.specs.Answer.{tree_answer, near_lines}

-- The bytes are the answer with the tree t, the number of the orders that fit, and of each grave the two nearest between which it is certain to lie.
pub record Tells (f : Finds) (t : Tree) (bytes : List ℕ) : Type 0 where
  pub count : Option ℕ
  pub near : ℕ → Option Neighbours
  pub counted : Counted f count
  pub told : (b : ℕ) → b < f.graves → Told f (graves t) b (near b)
  pub written : bytes ≡ tree_answer t count near f.graves

-- Behind the bytes at the start stand the lines on the graves below n, with the two nearest of each by the tree.
pub record Lines (w : WholeTree) (n : ℕ) (start end : List ℕ) : Type 0 where
  pub near : ℕ → Option Neighbours
  pub told : (f : Finds) (t : Tree) → ShownBy w f t → (b : ℕ) → b < n → Told f (graves t) b (near b)
  pub written : end ≡ start ++ near_lines near n
