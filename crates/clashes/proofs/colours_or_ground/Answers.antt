use Rattle.clashes.proofs.Colours.{colours_or_ground}
use Rattle.clashes.proofs.colours_or_ground.Goals as goal

pub returns : goal.returns
returns c = colours_or_ground
