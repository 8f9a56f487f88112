-- How far a set of graves reaches.
use Rattle.std.proofs.Common.{◌≡◌, ℕ, ◌*◌, ◌/◌, ◌^◌, ◌<◌, ◌≤◌, Bool, true, false, not, eqb, ◌↔◌, MatchBool, refl, div-lt_iff_lt-mul, arith, eqb-true}
use native.Mathlib.Decide.{dec_lt}
use borrow.Author.Tests.{eqb-false}
use Rattle.std.proofs.lemmas.Nat.{pow_pos}

-- A set has a grave at or above n just if something is left when n bits are shifted out.
pub reaches_is : (s n : ℕ) → MatchBool (not (eqb (s / 2 ^ n) 0)) (2 ^ n ≤ s) (s < 2 ^ n)
reaches_is s n = go (eqb (s / 2 ^ n) 0) refl
  where
    below : (s / 2 ^ n < 1) ↔ (s < 1 * 2 ^ n)
    below = div-lt_iff_lt-mul {k = 2 ^ n} {x = s} {y = 1} (pow_pos n)

    go : (b : Bool) → eqb (s / 2 ^ n) 0 ≡ b → MatchBool (not b) (2 ^ n ≤ s) (s < 2 ^ n)
    go true e = let z = eqb-true (s / 2 ^ n) 0 e in let d : s < 1 * 2 ^ n = below.0 (omega arith) in omega arith
    go false e = at_least (dec_lt s (2 ^ n))
      where
        at_least : Dec (s < 2 ^ n) → 2 ^ n ≤ s
        at_least (yes p) = absurd (eqb-false (s / 2 ^ n) 0 e (let q = below.1 (omega arith) in omega arith))
        at_least (no p) = omega arith
