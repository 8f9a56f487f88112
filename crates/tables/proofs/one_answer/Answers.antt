use Rattle.tables.proofs.Refusing.{taken_once, refused_once}
use Rattle.tables.proofs.one_answer.Goals as goal

pub returns : goal.returns
returns c = λ file lent. (refused_once file lent, taken_once file lent)
