-- Finds: which kinds lay in which graves, which orders of the graves fit them, and which pairs of graves contradict each other.
use Rattle.std.specs.Prelude.{◌≡◌, ℕ, suc, ◌+◌, ◌<◌, Bool, true, false, ◌≢◌, List, length, get_or, slice_index_or}

-- A table of finds: so many graves, numbered from 0, and for each kind of thing the graves in which it lay.
pub record Finds : Type 0 where
  pub graves : ℕ
  pub kinds : List (ℕ → Bool)

-- An order of n graves by their places: each grave has a place below n, and no two graves have the same.
pub record Order (n : ℕ) : Type 0 where
  pub place : ℕ → ℕ
  pub within : (g : ℕ) → g < n → place g < n
  pub apart : (g h : ℕ) → g < n → h < n → place g ≡ place h → g ≡ h

-- The kind was in use for one stretch of time: no grave without it lies between two graves with it.
unfoldable pub OneStretch : (n : ℕ) → Order n → (ℕ → Bool) → Type 0
OneStretch n o k =
    (a b c : ℕ) → a < n → b < n → c < n → k a ≡ true → k b ≡ false → k c ≡ true → o.place a < o.place b → o.place b < o.place c → ⊥

-- The order fits the finds: each kind was in use for one stretch. (The table then has the consecutive-ones property, which this order shows.)
unfoldable pub Fits : (f : Finds) → Order f.graves → Type 0
Fits f o = (i : ℕ) (d : ℕ → Bool) → i < length f.kinds → OneStretch f.graves o (slice_index_or f.kinds i d)

-- A pair says that its first grave is earlier than its second.
pub record Pair : Type 0 where
  pub first : ℕ
  pub second : ℕ

-- Two pairs that cannot both be so, the edges of the incompatibility graph: a pair and the same pair turned round; or a before b and b before c, where some kind lay in a and in c and not in b.
pub data Clash (f : Finds) : Pair → Pair → Type 0 where
  turned : {a b : ℕ} → a < f.graves → b < f.graves → a ≢ b → Clash f (record { first = a; second = b }) (record { first = b; second = a })
  between : {a b c : ℕ} (i : ℕ) (d : ℕ → Bool) → i < length f.kinds → a < f.graves → b < f.graves → c < f.graves →
      get_or f.kinds i d a ≡ true → get_or f.kinds i d b ≡ false → get_or f.kinds i d c ≡ true →
      Clash f (record { first = a; second = b }) (record { first = b; second = c })

-- A walk of so many clashes from pair to pair, each clash taken in either sense.
pub data Walk (f : Finds) : ℕ → Pair → Pair → Type 0 where
  here : {p : Pair} → Walk f 0 p p
  on : {n : ℕ} {p q r : Pair} → Walk f n p q → Clash f q r → Walk f (suc n) p r
  off : {n : ℕ} {p q r : Pair} → Walk f n p q → Clash f r q → Walk f (suc n) p r

-- A ground: a walk of an odd number of clashes that comes back to the pair of different graves from which it starts.
pub record Ground (f : Finds) : Type 0 where
  pub half : ℕ
  pub start : Pair
  pub start_is : (start.first < f.graves) × (start.second < f.graves) × (start.first ≢ start.second)
  pub walk : Walk f (suc (half + half)) start start
