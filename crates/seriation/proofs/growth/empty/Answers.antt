use Rattle.seriation.proofs.Clearing.{is_empty, rest_kept}
use Rattle.seriation.proofs.growth.empty.Goals as goal

pub fill-requires : goal.fill-requires
fill-requires g c = c.requires.copied.0

pub returns-clause-empty : goal.returns-clause-empty
returns-clause-empty g c = is_empty _ _ _ _ _ c.requires.within.0 c.requires.within.1 (c.fill.ensures.after c.requires.copied.1)

pub returns-clause-rest : goal.returns-clause-rest
returns-clause-rest g c = rest_kept _ _ _ _ _ c.requires.within.0 c.requires.within.1 (c.fill.ensures.after c.requires.copied.1)
