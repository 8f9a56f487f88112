use Rattle.finds.proofs.Worked.{worked_tables}
use Rattle.finds.proofs.worked_tables.Goals as goal

pub returns : goal.returns
returns c = worked_tables
