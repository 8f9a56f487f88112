use Rattle.std.proofs.Common.{◌+◌, get_or}
use Rattle.grounds.specs.Neighbours.{finds_in_sets}
use Rattle.grounds.specs.Searching.{SameCells}
use Rattle.grounds.proofs.Climbing.{Standing}
use Rattle.grounds.proofs.search.Search.climb.Given as goal

abbrev pub invariant-loop-p : goal.invariant-loop-p
invariant-loop-p l = record {
  standing : Standing (finds_in_sets l.fn.self.sets) l.self.depths.now l.self.parents.now l.self.queue.now l.p l.q l.left l.right;
  same : SameCells l.fn.self l.self;
}

abbrev pub decreases-loop-p : goal.decreases-loop-p
decreases-loop-p l = get_or l.self.depths.now l.p 0 + get_or l.self.depths.now l.q 0
