use Rattle.std.proofs.Common.{arith, rules}
use Rattle.std.proofs.lemmas.List.{places}
use Rattle.grounds.specs.Neighbours.{finds_in_sets}
use Rattle.grounds.proofs.Rings.{left_cells, right_cells, ring_in}
use Rattle.grounds.proofs.search.Search.read_back.Goals as goal

pub write-requires-clause-known : goal.write-requires-clause-known
write-requires-clause-known c = left_cells (finds_in_sets c.args.self.now.sets) c.climb-left.ensures.closed _ (omega arith)

pub write-requires-2-clause-known : goal.write-requires-2-clause-known
write-requires-2-clause-known c = right_cells (finds_in_sets c.args.self.now.sets) c.climb-left.ensures.closed

pub returns-clause-ring : goal.returns-clause-ring
returns-clause-ring c =
    ring_in (finds_in_sets c.args.self.now.sets) c.climb-left.ensures.closed c.args.ring.now c.write.new.bytes c.write-2.new.bytes _ _ _ (omega arith) (omega arith) (omega arith)
    (search (rules, places)) (search (rules, places)) c.write.ensures c.write-2.ensures
