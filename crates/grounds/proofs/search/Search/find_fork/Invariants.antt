use Rattle.std.proofs.Common.{◌≡◌, ◌+◌, ◌-◌, ◌*◌, ◌<◌, None}
use Rattle.grounds.specs.Checking.{said}
use Rattle.grounds.specs.Neighbours.{finds_in_sets}
use Rattle.grounds.specs.Notes.{Notes, Working}
use Rattle.grounds.specs.Searching.{SameCells}
use Rattle.grounds.proofs.search.Search.find_fork.Given as goal

-- No pair waits, and all pairs below the seed are seen.
abbrev pub invariant-search : goal.invariant-search
invariant-search l = record {
  none : l.found ≡ None;
  idle : l.head ≡ l.self.tail;
  room : l.self.tail < l.n * l.n;
  same : SameCells l.fn.self l.self;
  notes : Notes (finds_in_sets l.fn.self.sets) l.seed l.self.depths.now l.self.parents.now l.self.queue.now l.head l.self.tail;
}

-- The seed is seen too.
abbrev pub invariant-loop-head : goal.invariant-loop-head
invariant-loop-head l = record {
  none : l.found ≡ None;
  room : l.self.tail < l.n * l.n;
  same : SameCells l.fn.self l.self;
  notes : Notes (finds_in_sets l.fn.self.sets) (l.seed + 1) l.self.depths.now l.self.parents.now l.self.queue.now l.head l.self.tail;
}

abbrev pub decreases-loop-head : goal.decreases-loop-head
decreases-loop-head l = l.n * l.n - l.head

-- The pair at the head is at work.
abbrev pub invariant-loop-place : goal.invariant-loop-place
invariant-loop-place l = record {
  none : l.found ≡ None;
  room : l.self.tail < l.n * l.n;
  same : SameCells l.fn.self l.self;
  working : Working (finds_in_sets l.fn.self.sets) (l.seed + 1) l.self.depths.now l.self.parents.now l.self.queue.now l.head l.self.tail (said l.work.pair) l.place;
}
