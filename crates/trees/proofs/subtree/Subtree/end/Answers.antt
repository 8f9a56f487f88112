use Rattle.std.proofs.Common.{arith}
use Rattle.trees.proofs.Ending.{end_some, end_none}
use Rattle.trees.proofs.Finding.{had_standing}
use Rattle.trees.proofs.subtree.Subtree.end.Goals as goal

pub returns-in-Some-clause-end : goal.returns-in-Some-clause-end
returns-in-Some-clause-end c = end_some (had_standing c.args.self.stands).long c.in-Some.ensures

pub returns-in-None-clause-end : goal.returns-in-None-clause-end
returns-in-None-clause-end c = let s = had_standing c.args.self.stands in end_none s.long s.below c.in-None.ensures

pub returns-in-None-clause-within : goal.returns-in-None-clause-within
returns-in-None-clause-within c = let s = had_standing c.args.self.stands in (s.below, omega arith)
