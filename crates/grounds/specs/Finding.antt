-- What the search for a ring promises: a ring or some order that fits, and what the lent memory holds then.
use Rattle.std.specs.Prelude.{◌≡◌, ℕ, ◌-◌, ◌*◌, ◌≤◌, List, ◌++◌, length, take, drop, replicate, Some, None, Option}
use Rattle.finds.specs.Finds.{Finds}
use Rattle.finds.specs.Exactness.{SomeFits, NoneFits}
use Rattle.clashes.specs.Rings.{Ring}
use Rattle.grounds.specs.Checking.{pairs_of}

-- The first two bytes for each of m pairs are a ring, and all bytes behind them are as they were; so no order fits.
pub record RingIn (f : Finds) (m : ℕ) (before bytes : List ℕ) : Type 0 where
  pub ring : Ring f
  pub pairs_are : ring.pairs ≡ pairs_of (take (2 * m) bytes)
  pub many : length ring.pairs ≡ m
  pub few : m ≤ f.graves * (f.graves - 1)
  pub beyond : drop (2 * m) bytes ≡ drop (2 * m) before
  pub none_fits : NoneFits f

-- Some order fits and no byte is changed, or there is a ring of so many pairs.
abbrev pub Found : Finds → List ℕ → List ℕ → Option ℕ → Type 0
Found f before bytes None = SomeFits f × (bytes ≡ before)
Found f before bytes (Some m) = RingIn f m before bytes

-- The cells for the pairs of n graves are cleared, and all cells beyond them are as they were.
abbrev pub Cleared : ℕ → List ℕ → List ℕ → Type 0
Cleared n before cells = cells ≡ replicate (n * n) 0 ++ drop (n * n) before
