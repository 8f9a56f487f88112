-- Odd and even numbers.
use Rattle.std.specs.Prelude.{ℕ, zero, suc, Bool, false, not}

-- Whether a number is odd.
abbrev pub odd : ℕ → Bool
odd zero = false
odd (suc n) = not (odd n)
