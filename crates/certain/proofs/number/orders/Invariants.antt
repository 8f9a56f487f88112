use Rattle.std.proofs.Common.{◌≡◌, ◌^◌, ◌<◌}
use Rattle.trees.specs.Rows.{seen}
use Rattle.certain.proofs.Factors.{factors}
use Rattle.certain.proofs.number.orders.Given as goal

abbrev pub invariant-loop-i : goal.invariant-loop-i
invariant-loop-i l = (l.all ≡ factors (seen l.tree.rows) 0 l.i) × (l.all < 2 ^ 64)
