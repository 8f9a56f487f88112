use Rattle.pqtree.proofs.Growth.{kind_by_kind}
use Rattle.pqtree.proofs.kind_by_kind.Goals as goal

pub returns : goal.returns
returns c = kind_by_kind
