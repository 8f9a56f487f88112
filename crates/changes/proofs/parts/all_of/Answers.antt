use Rattle.std.proofs.Common.{◌≡◌, get_or, ◌∙◌, rules}
use lib.Bits.{bit_or}
use Rattle.std.specs.List.{fold}
use Rattle.changes.proofs.Choosing.{fold_union}
use Rattle.changes.proofs.parts.all_of.Goals as goal

pub returns : goal.returns
returns c = let e : c.fold.result ≡ fold (λ a x. bit_or a (get_or c.args.sets.now x 0)) 0 c.args.cells.now = search rules in e ∙ fold_union c.args.sets.now 0 c.args.cells.now
