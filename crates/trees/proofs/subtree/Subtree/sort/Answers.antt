use Rattle.std.proofs.Common.{arith}
use Rattle.trees.specs.Rows.{seen}
use Rattle.trees.proofs.Finding.{had_standing}
use Rattle.trees.proofs.Standing.{sort_low}
use Rattle.trees.proofs.subtree.Subtree.sort.Goals as goal

pub unreachable-requires : goal.unreachable-requires
unreachable-requires c =
    let s = had_standing c.args.self.stands in omega (arith, sort_low (seen c.args.self.rows) c.args.self.root s.tree s.part.0, c.in_default.ensures.1)
