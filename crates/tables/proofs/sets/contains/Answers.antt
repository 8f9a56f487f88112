use Rattle.std.proofs.Common.{ℕ, ◌/◌, ◌^◌, eqb, sym, ap, ◌∙◌, arith}
use lib.Bits.{and_mask}
use Rattle.std.proofs.lemmas.Bool.{le-ltb}
use Rattle.finds.proofs.Bits.{bit_is, bit_beyond}
use Rattle.tables.proofs.sets.contains.Goals as goal

pub returns-then-grave-lt64 : goal.returns-then-grave-lt64
returns-then-grave-lt64 c = ap (λ (x : ℕ). eqb x 1) (and_mask (c.args.set / 2 ^ c.args.grave) 1 ∙ sym (bit_is c.args.grave c.args.set))

pub returns-else-grave-lt64 : goal.returns-else-grave-lt64
returns-else-grave-lt64 c =
    le-ltb c.args.grave 64 (omega arith) ∙ sym (ap (λ (x : ℕ). eqb x 1) (bit_beyond 64 c.args.grave c.args.set (omega arith) (omega arith)))
