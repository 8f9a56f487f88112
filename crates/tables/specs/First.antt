-- What a search from 0 on finds.
use Rattle.std.specs.Prelude.{ℕ, ◌<◌, MatchOption, Option}

-- The first number below n with P, or nothing if none has it.
abbrev pub First : (ℕ → Type 0) → ℕ → Option ℕ → Type 0
First P n found = MatchOption found ((i : ℕ) → i < n → P i → ⊥) (λ at. (at < n) × P at × ((i : ℕ) → i < at → P i → ⊥))
