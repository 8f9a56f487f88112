use Rattle.finds.proofs.Laws.{one_kind_more}
use Rattle.finds.proofs.one_kind_more.Goals as goal

pub returns : goal.returns
returns c = one_kind_more
