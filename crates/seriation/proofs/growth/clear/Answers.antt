use Rattle.seriation.proofs.growth.clear.Goals as goal

pub returns-clause-cleared : goal.returns-clause-cleared
returns-clause-cleared c = record {
  below = record { parents = c.empty.ensures.below; sorts = c.empty-2.ensures.below; places = c.empty-3.ensures.below; sets = c.empty-4.ensures.below };
  empty = record { parents = c.empty.ensures.empty; sorts = c.empty-2.ensures.empty; places = c.empty-3.ensures.empty; sets = c.empty-4.ensures.empty };
  rest = record { parents = c.empty.ensures.rest; sorts = c.empty-2.ensures.rest; places = c.empty-3.ensures.rest; sets = c.empty-4.ensures.rest };
}
