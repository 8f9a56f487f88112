use Rattle.std.proofs.Common.{refl}
use Rattle.trees.proofs.Ending.{kids_row, begins}
use Rattle.trees.proofs.Finding.{had_standing}
use Rattle.trees.proofs.subtree.Subtree.branches.Goals as goal

pub invariant_of-result : goal.invariant_of-result
invariant_of-result c = record { stand = ∣ kids_row (had_standing c.args.self.stands) c.end.result c.end.ensures.end ∣₁ }

pub returns : goal.returns
returns c = begins c.args.self _ refl refl refl c.end.ensures.end
