use Rattle.std.proofs.Common.{ℕ, ◌-◌}
use Rattle.finds.specs.Trees.{Tree}
use Rattle.trees.specs.Cells.{Sound}
use Rattle.trees.specs.Subtrees.{Is}
use Rattle.certain.proofs.Descent.{Come}
use Rattle.certain.proofs.Ends.{Begins}
use Rattle.certain.proofs.near.first_grave.Given as goal

-- The part begins as the one that is reached.
abbrev pub invariant-loop-branch : goal.invariant-loop-branch
invariant-loop-branch l = (t : Tree) → Is l.part t → Sound t → Come l.first (λ u. (g : ℕ) → Begins u g → Begins t g)

abbrev pub decreases-loop-branch : goal.decreases-loop-branch
decreases-loop-branch l = l.first.count - l.first.root
