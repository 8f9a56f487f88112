use Rattle.changes.proofs.Having.{had_all}
use Rattle.changes.proofs.Standing.{stand_below}
use Rattle.changes.proofs.parts.Parts.union.Goals as goal

pub all_of-requires : goal.all_of-requires
all_of-requires c = stand_below _ _ _ (had_all c.args.self.stand)
