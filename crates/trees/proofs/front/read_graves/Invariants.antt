use Rattle.trees.specs.Rows.{seen}
use Rattle.trees.proofs.Leaves.{Read}
use Rattle.trees.proofs.front.read_graves.Given as goal

abbrev pub invariant-loop-i : goal.invariant-loop-i
invariant-loop-i l = Read (seen l.tree.rows) l.i l.at l.initial.out l.out
