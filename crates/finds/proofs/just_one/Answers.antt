use Rattle.finds.proofs.Laws.{just_one}
use Rattle.finds.proofs.just_one.Goals as goal

pub returns : goal.returns
returns c = just_one
