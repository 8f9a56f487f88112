-- Tests that came out, and what they decide.
use Rattle.std.proofs.Common.{true, false, Decides, refl}
use Rattle.std.proofs.lemmas.Bool.{false≢true}

pub so : {P : Type 0} → P → Decides true P
so p = ((λ e. p), (λ q. refl))

pub not_so : {P : Type 0} → (P → ⊥) → Decides false P
not_so n = ((λ e. absurd (false≢true e)), (λ p. absurd (n p)))

pub denied : {P : Type 0} → Decides false P → P → ⊥
denied d p = false≢true (d.1 p)
