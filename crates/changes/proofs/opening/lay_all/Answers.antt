use Rattle.std.proofs.Common.{sym, ◌∙◌}
use Rattle.changes.specs.Written.{not_laid}
use Rattle.changes.proofs.Telling.{ordered}
use Rattle.changes.proofs.opening.lay_all.Goals as goal

pub returns-then-not-in_sequence-clause-opened : goal.returns-then-not-in_sequence-clause-opened
returns-then-not-in_sequence-clause-opened c = λ k b w ts p q.
    rw (sym (ordered k b _ w c.args.parts.rows _ _ ts p q).0 ∙ sym c.in_sequence.ensures ∙ c.if-not-in_sequence.true) not_laid

pub returns-clause-opened : goal.returns-clause-opened
returns-clause-opened c = λ k b w ts p q.
    rw (sym (ordered k b _ w c.args.parts.rows _ _ ts p q).0 ∙ sym c.in_sequence.ensures ∙ c.if-not-in_sequence.false) (c.lay_each.ensures.opened k b w ts p q)
