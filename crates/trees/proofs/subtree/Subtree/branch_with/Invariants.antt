use Rattle.std.proofs.Common.{◌≡◌, ◌-◌}
use Rattle.finds.specs.Sets.{bit}
use Rattle.trees.specs.Cells.{sets_of}
use Rattle.trees.proofs.Stepping.{Going}
use Rattle.trees.proofs.subtree.Subtree.branch_with.Given as goal

abbrev pub invariant-loop-branch : goal.invariant-loop-branch
invariant-loop-branch l = Going l.self l.left (λ t done rest. bit l.grave (sets_of done) ≡ 0)

abbrev pub decreases-loop-branch : goal.decreases-loop-branch
decreases-loop-branch l = l.left.end - l.left.at
