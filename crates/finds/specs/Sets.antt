-- Sets of graves in the bits of a number.
use Rattle.std.specs.Prelude.{ℕ, zero, suc, ◌/◌, ◌%◌, Bool, ◌==◌}

-- The bit for grave g of the number s, 0 or 1.
abbrev pub bit : ℕ → ℕ → ℕ
bit zero s = s % 2
bit (suc g) s = bit g (s / 2)

-- Whether grave g is in the set s.
abbrev pub has : ℕ → ℕ → Bool
has s g = bit g s == 1
