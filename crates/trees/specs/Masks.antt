-- Kinds as masks over the sets of graves.
use Rattle.std.specs.Prelude.{◌≡◌, ℕ, ◌<◌, Bool}
use Rattle.finds.specs.Counts.{hit}
use Rattle.finds.specs.Sets.{bit}

-- The bits of m are the graves with the kind (b is true), or without it (b is false), of the graves 0 to 63.
abbrev pub Mask : (ℕ → Bool) → Bool → ℕ → Type 0
Mask k b m = (g : ℕ) → g < 64 → bit g m ≡ hit (k g) b
