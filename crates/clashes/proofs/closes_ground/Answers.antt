use Rattle.clashes.proofs.Chains.{closes_ground}
use Rattle.clashes.proofs.closes_ground.Goals as goal

pub returns : goal.returns
returns c = closes_ground
