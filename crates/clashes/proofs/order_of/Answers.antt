use Rattle.clashes.proofs.Orders.{order_of}
use Rattle.clashes.proofs.order_of.Goals as goal

pub returns : goal.returns
returns c = order_of
