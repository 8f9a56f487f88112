use Rattle.trees.specs.Rows.{lent_rows, SameSlices}
use Rattle.trees.specs.Starting.{Graves}
use Rattle.trees.proofs.first.put_graves.Given as goal

abbrev pub invariant-loop-g : goal.invariant-loop-g
invariant-loop-g l = Graves l.g l.all (lent_rows l.initial.rows) (lent_rows l.rows) × SameSlices l.initial.rows l.rows
