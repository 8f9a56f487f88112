use Rattle.std.proofs.Common.{◌≡◌, suc}
use Rattle.trees.specs.Cells.{roots}
use Rattle.trees.proofs.Stepping.{Going}
use Rattle.changes.specs.Bunches.{listed}
use Rattle.changes.proofs.opening.branches_of.Given as goal

abbrev pub invariant-loop-branch : goal.invariant-loop-branch
invariant-loop-branch l = Going l.part l.branch-iterator (λ t done rest. listed l.cells ≡ roots (suc l.part.root) done)
