use mathlib.Core.Logic.{∥∥₁_map}
use Rattle.trees.proofs.Checking.{tree_in_stands}
use Rattle.trees.proofs.whole.WholeTree.root.Goals as goal

pub invariant_of-result : goal.invariant_of-result
invariant_of-result c = record { stands = ∥∥₁_map c.args.self.holds tree_in_stands }
