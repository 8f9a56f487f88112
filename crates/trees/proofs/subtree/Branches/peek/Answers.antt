use mathlib.Core.Logic.{∥∥₁_map}
use Rattle.trees.proofs.Ending.{row_first}
use Rattle.trees.proofs.subtree.Branches.peek.Goals as goal

pub invariant_of-result : goal.invariant_of-result
invariant_of-result c = record { stands = ∥∥₁_map c.args.self.stand (λ r. row_first r c.if-self.false) }
