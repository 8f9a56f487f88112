use Rattle.pqtree.proofs.Exact.{step_exact}
use Rattle.pqtree.proofs.step_exact.Goals as goal

pub returns : goal.returns
returns c = step_exact
