use Rattle.trees.proofs.Finding.{had_standing}
use Rattle.trees.proofs.Standing.{stands_size}
use Rattle.trees.proofs.subtree.Subtree.size.Goals as goal

pub returns-clause-some : goal.returns-clause-some
returns-clause-some c = rw c.graves.ensures (stands_size (had_standing c.args.self.stands))
