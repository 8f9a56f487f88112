use Rattle.std.proofs.Common.{ℕ, List, subst}
use mathlib.Core.Logic.{∥∥₁_map}
use Rattle.changes.specs.Bunches.{AllStand}
use Rattle.changes.proofs.Having.{all_first, all_rest}
use Rattle.changes.proofs.parts.PartsIterator.next.Goals as goal

pub invariant_of-self : goal.invariant_of-self
invariant_of-self c = record { stand = ∥∥₁_map (subst (λ (cs : List ℕ). ∥ AllStand c.args.self.now.rows c.args.self.now.count cs ∥₁) c.in_ok-cell.ensures.cases.0 c.args.self.now.stand) all_rest }

pub invariant_of-part : goal.invariant_of-part
invariant_of-part c = record { stands = ∥∥₁_map (subst (λ (cs : List ℕ). ∥ AllStand c.args.self.now.rows c.args.self.now.count cs ∥₁) c.in_ok-cell.ensures.cases.0 c.args.self.now.stand) all_first }
