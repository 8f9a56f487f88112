use Rattle.std.proofs.Common.{rules}
use Rattle.tables.proofs.KindSets.{all_length, all_at, sets_run}
use Rattle.tables.proofs.kinds.Kinds.of.Goals as goal

pub returns : goal.returns
returns c = record { all = search rules; count = all_length c.args.bytes.now; each = all_at c.args.bytes.now; runs = sets_run }
