use Rattle.std.proofs.Common.{rules}
use Rattle.std.proofs.lemmas.Nat.{mul-le}
use Rattle.std.proofs.lemmas.List.{places}
use Rattle.grounds.proofs.finding.find_ring.Goals as goal

pub find-requires : goal.find-requires
find-requires c = record {
  sized = record {
    for_depths = search (rules, places);
    for_parents = search (rules, places);
    for_queue = search (rules, places);
    few = mul-le c.args.graves c.args.graves 64 64 c.requires.few.1 c.requires.few.1;
  };
  long = c.requires.long;
}
