use mathlib.Core.Logic.{∥∥₁_map}
use Rattle.changes.proofs.Standing.{stand_at}
use Rattle.changes.proofs.parts.Parts.at.Goals as goal

pub invariant_of-result : goal.invariant_of-result
invariant_of-result c = record { stands = ∥∥₁_map c.args.self.stand (λ s. stand_at _ _ _ _ s c.requires) }
