use Rattle.std.proofs.Common.{arith}
use Rattle.trees.specs.Rows.{seen}
use Rattle.trees.proofs.Cells.{body_inner}
use Rattle.trees.proofs.Finding.{had_tree}
use Rattle.certain.proofs.number.factor_at.Goals as goal

-- The parent of a cell comes before it.
pub bounds-rows-rows : goal.bounds-rows-rows
bounds-rows-rows c =
    let h = had_tree c.args.tree.holds in
    let inner = body_inner (seen c.args.tree.rows) 0 h.tree h.holds.body c.args.i (omega arith) (omega (arith, h.holds.many, c.requires)) in
    omega (arith, inner.1, h.long.sorts_long, c.requires)
