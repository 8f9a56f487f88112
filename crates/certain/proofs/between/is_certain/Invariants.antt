use Rattle.std.proofs.Common.{◌-◌}
use Rattle.certain.proofs.Descent.{Narrowed}
use Rattle.certain.proofs.between.is_certain.Given as goal

abbrev pub invariant-loop-x : goal.invariant-loop-x
invariant-loop-x l = Narrowed l.a l.b l.c l.tree l.part

abbrev pub decreases-loop-x : goal.decreases-loop-x
decreases-loop-x l = l.part.count - l.part.root
