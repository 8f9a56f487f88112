use Rattle.std.proofs.Common.{refl}
use Rattle.std.specs.Fmt.{digits}
use Rattle.text.proofs.worked_texts.Goals as goal

pub returns : goal.returns
unfolding digits
returns c = (refl, refl)
