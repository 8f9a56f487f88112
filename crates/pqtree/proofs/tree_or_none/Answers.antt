use Rattle.pqtree.proofs.Growth.{tree_or_none}
use Rattle.pqtree.proofs.tree_or_none.Goals as goal

pub returns : goal.returns
returns c = tree_or_none
