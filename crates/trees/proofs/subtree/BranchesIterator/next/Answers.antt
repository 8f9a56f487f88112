use mathlib.Core.Logic.{∥∥₁_map}
use Rattle.trees.proofs.Ending.{row_rest, ahead_ends}
use Rattle.trees.proofs.subtree.BranchesIterator.next.Goals as goal

pub invariant_of-self : goal.invariant_of-self
invariant_of-self c =
    let h = c.in_ok-branch.ensures in
    record { stand = ∥∥₁_map c.args.self.now.stand (λ r. row_rest r h.some c.end-self.result (ahead_ends h c.end-self.result c.end-self.ensures.end)) }
