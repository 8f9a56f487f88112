use Rattle.clashes.proofs.Short.{ring_short}
use Rattle.clashes.proofs.ring_short.Goals as goal

pub returns : goal.returns
returns c = ring_short
