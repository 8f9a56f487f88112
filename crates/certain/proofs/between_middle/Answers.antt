use Rattle.certain.proofs.Exact.{between_middle}
use Rattle.certain.proofs.between_middle.Goals as goal

pub returns : goal.returns
returns c = between_middle
