use Rattle.std.proofs.Common.{subst}
use Rattle.grounds.specs.Finding.{Found}
use Rattle.grounds.specs.Neighbours.{finds_in_sets}
use Rattle.grounds.specs.declared.sets.Sets.{Sets}
use Rattle.grounds.proofs.finding.find.Goals as goal

pub returns-clause-found : goal.returns-clause-found
returns-clause-found c =
    subst (λ (s : Sets). Found (finds_in_sets s) c.args.ring.now c.write_ring-pairs.new.ring c.write_ring-pairs.result) c.forget.ensures.same.sets c.write_ring-pairs.ensures.found
