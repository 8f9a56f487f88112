-- What is certain of the orders that fit, and which graves are the nearest.
use Rattle.std.specs.Prelude.{ℕ, suc, ◌<◌, ◌≤◌, cond, ◌⊎◌, List, [], ◌∷◌, ◌==◌}
use Rattle.finds.specs.Finds.{Finds, Order, Fits}

-- By their places b lies between a and c.
abbrev pub Lies : (ℕ → ℕ) → ℕ → ℕ → ℕ → Type 0
Lies place a b c = ((place a < place b) × (place b < place c)) ⊎ ((place c < place b) × (place b < place a))

-- Of three graves b is certain to lie between a and c: it does in each order that fits.
pub record Between (f : Finds) (a b c : ℕ) : Type 0 where
  pub first : a < f.graves
  pub middle : b < f.graves
  pub last : c < f.graves
  pub each : (o : Order f.graves) → Fits f o → Lies o.place a b c

-- The place of a grave in a row, counted from 0.
abbrev pub place_in : List ℕ → ℕ → ℕ
place_in [] g = 0
place_in (x ∷ l) g = cond (g == x) 0 (suc (place_in l g))

-- By the row l, the graves a and c are the nearest to b, a before it and c behind it, between which b is certain to lie.
pub record Nearest (f : Finds) (l : List ℕ) (a b c : ℕ) : Type 0 where
  pub certain : Between f a b c
  pub before : place_in l a < place_in l b
  pub behind : place_in l b < place_in l c
  pub none_before : (x y : ℕ) → Between f x b y → place_in l x < place_in l b → place_in l x ≤ place_in l a
  pub none_behind : (x y : ℕ) → Between f x b y → place_in l b < place_in l y → place_in l c ≤ place_in l y
