use Rattle.std.proofs.Common.{rules}
use Rattle.std.proofs.lemmas.List.{places}
use Rattle.tables.specs.Format.{kind_set}
use Rattle.tables.proofs.reading.kind_at.Goals as goal

pub returns : goal.returns
unfolding kind_set
returns c = search (rules, places)
