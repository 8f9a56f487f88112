use Rattle.finds.proofs.Laws.{ground_law}
use Rattle.finds.proofs.ground_law.Goals as goal

pub returns : goal.returns
returns c = ground_law
