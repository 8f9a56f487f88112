use Rattle.std.proofs.Common.{arith}
use Rattle.changes.proofs.Having.{had_all}
use Rattle.changes.proofs.Standing.{stand_below, stand_few}
use Rattle.changes.proofs.parts.Parts.pick.Goals as goal

pub bounds-self-cell : goal.bounds-self-cell
bounds-self-cell c = stand_below _ _ _ (had_all c.args.self.stand) _ _ c.loop-cell-test.true

pub push-requires : goal.push-requires
push-requires c = omega (arith, c.loop-cell.invariant.0, c.loop-cell-test.true, stand_few _ _ _ (had_all c.args.self.stand))
