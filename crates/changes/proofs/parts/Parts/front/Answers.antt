use mathlib.Core.Logic.{∥∥₁_map}
use Rattle.changes.proofs.Standing.{all_front}
use Rattle.changes.proofs.parts.Parts.front.Goals as goal

pub invariant_of-result : goal.invariant_of-result
invariant_of-result c = record { stand = ∥∥₁_map c.args.self.stand (all_front c.args.x) }
