use Rattle.clashes.proofs.Orders.{order_or_ground}
use Rattle.clashes.proofs.order_or_ground.Goals as goal

pub returns : goal.returns
returns c = order_or_ground
