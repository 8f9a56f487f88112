-- Two colours for the pairs of graves, so that clashing pairs differ: what a search among the clashes leaves if it closes no odd ring.
use Rattle.std.specs.Prelude.{◌≡◌, ℕ, ◌<◌, ◌≤◌, Bool, not, ◌≢◌}
use Rattle.finds.specs.Finds.{Finds, Pair, Clash, Walk}
use Rattle.finds.specs.Parity.{odd}

-- The pair of two graves.
abbrev pub pair : ℕ → ℕ → Pair
pair a b = record { first = a; second = b }

-- The pair turned round.
abbrev pub op : Pair → Pair
op p = pair p.second p.first

-- A pair of two different graves of the table.
abbrev pub Proper : Finds → Pair → Type 0
Proper f p = (p.first < f.graves) × (p.second < f.graves) × (p.first ≢ p.second)

-- Some walk from pair to pair, odd (true) or even (false).
pub record Reach (f : Finds) (b : Bool) (p q : Pair) : Type 0 where
  pub steps : ℕ
  pub walk : Walk f steps p q
  pub parity : odd steps ≡ b

-- What a search notes of a pair: its colour, false for "so", and its seed, the pair from which the colouring came to it.
pub record Label : Type 0 where
  pub seed : Pair
  pub col : Bool

-- The same seed and the other colour.
abbrev pub flip : Label → Label
flip l = record { seed = l.seed; col = not l.col }

-- What a label says of its pair: a walk leads to it from its seed, odd or even by its colour, and the seed's first grave is not above its own.
pub record Holds (f : Finds) (p : Pair) (l : Label) : Type 0 where
  pub reached : Reach f l.col l.seed p
  pub least : l.seed.first ≤ p.first

-- A label for each pair that holds, so that clashing pairs have the same seed and two colours.
pub record Colouring (f : Finds) : Type 0 where
  pub label : Pair → Label
  pub flips : (p q : Pair) → Clash f p q → label q ≡ flip (label p)
  pub holds : (p : Pair) → Proper f p → Holds f p (label p)
