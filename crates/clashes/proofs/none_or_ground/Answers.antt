use Rattle.clashes.proofs.Orders.{none_or_ground}
use Rattle.clashes.proofs.none_or_ground.Goals as goal

pub returns : goal.returns
returns c = none_or_ground
