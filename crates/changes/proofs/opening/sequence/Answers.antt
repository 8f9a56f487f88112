use Rattle.std.proofs.Common.{◌∙◌}
use Rattle.changes.proofs.Layouts.{all_turned}
use Rattle.changes.proofs.opening.sequence.Goals as goal

pub of-requires-2 : goal.of-requires-2
of-requires-2 c = rw (c.as_slice-2.ensures ∙ c.turned-turned.ensures) (all_turned c.requires)
