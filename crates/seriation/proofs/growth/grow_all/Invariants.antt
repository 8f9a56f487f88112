use Rattle.seriation.specs.Building.{Grown}
use Rattle.tables.specs.Format.{finds_of_sets}
use Rattle.trees.specs.Rows.{lent_rows, SameSlices}
use Rattle.seriation.proofs.growth.grow_all.Given as goal

-- The tree has grown from the first i kinds.
abbrev pub invariant-loop-i : goal.invariant-loop-i
invariant-loop-i l = Grown (finds_of_sets l.graves l.kinds) l.i l.count (lent_rows l.initial.rows) (lent_rows l.rows) × SameSlices l.initial.rows l.rows
