use Rattle.finds.proofs.Laws.{any_sequence}
use Rattle.finds.proofs.any_sequence.Goals as goal

pub returns : goal.returns
returns c = any_sequence
