use Rattle.changes.proofs.Having.{had_all}
use Rattle.changes.proofs.Standing.{stand_below}
use Rattle.changes.proofs.parts.Parts.in_sequence.Goals as goal

pub bounds-self-cell : goal.bounds-self-cell
bounds-self-cell c = stand_below _ _ _ (had_all c.args.self.stand) _ _ c.loop-cell-test.true
