use Rattle.std.proofs.Common.{rules}
use Rattle.grounds.specs.Neighbours.{finds_in_sets}
use Rattle.grounds.proofs.Climbing.{closed, on_left, on_right}
use Rattle.grounds.proofs.search.Search.climb.Goals as goal

pub loop-p-preserved-then-self-q : goal.loop-p-preserved-then-self-q
loop-p-preserved-then-self-q c = record {
  standing = on_left (finds_in_sets c.args.self.now.sets) c.args.self.now.sets.some c.loop-p.invariant.standing c.loop-p-test.true c.if-self-q.true;
  same = search rules;
}

pub loop-p-preserved : goal.loop-p-preserved
loop-p-preserved c = record {
  standing = on_right (finds_in_sets c.args.self.now.sets) c.args.self.now.sets.some c.loop-p.invariant.standing c.loop-p-test.true c.if-self-q.false;
  same = search rules;
}

pub returns-clause-closed : goal.returns-clause-closed
returns-clause-closed c = closed (finds_in_sets c.args.self.now.sets) c.args.self.now.sets.some c.loop-p.invariant.standing c.loop-p-test.false
