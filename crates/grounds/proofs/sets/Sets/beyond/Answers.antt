use Rattle.std.proofs.Common.{ℕ, bit_or, sym, subst₂, arith}
use Rattle.std.proofs.lemmas.Nat.{one_shl}
use Rattle.grounds.specs.Neighbours.{finds_in_sets, Clashing}
use Rattle.grounds.proofs.Unions.{beyond_is}
use Rattle.grounds.proofs.sets.Sets.beyond.Goals as goal

pub returns : goal.returns
returns c =
    let sets = c.args.self in
    subst₂ (λ (own parted : ℕ). Clashing (finds_in_sets sets) c.args.a c.args.b (bit_or own parted))
    (sym (one_shl c.args.a 64 (let few = sets.few in omega arith))) (sym c.parting.ensures)
    (beyond_is sets.graves sets.kinds.now c.args.a c.args.b c.requires.0 c.requires.1)
