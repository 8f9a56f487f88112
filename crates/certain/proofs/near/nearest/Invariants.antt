use Rattle.std.proofs.Common.{◌-◌}
use Rattle.certain.proofs.Way.{SoFar}
use Rattle.certain.proofs.near.nearest.Given as goal

abbrev pub invariant-loop-branch : goal.invariant-loop-branch
invariant-loop-branch l = SoFar l.b l.tree l.part l.best

abbrev pub decreases-loop-branch : goal.decreases-loop-branch
decreases-loop-branch l = l.part.count - l.part.root
