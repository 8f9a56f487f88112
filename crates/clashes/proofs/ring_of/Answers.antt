use Rattle.clashes.proofs.Cut.{ring_of}
use Rattle.clashes.proofs.ring_of.Goals as goal

pub returns : goal.returns
returns c = ring_of
