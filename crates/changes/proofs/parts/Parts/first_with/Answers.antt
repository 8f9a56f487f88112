use Rattle.changes.proofs.Having.{had_all}
use Rattle.changes.proofs.Standing.{stand_below}
use Rattle.changes.proofs.parts.Parts.first_with.Goals as goal

pub first_not_empty-requires : goal.first_not_empty-requires
first_not_empty-requires c = stand_below _ _ _ (had_all c.args.self.stand)
