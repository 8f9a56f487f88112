-- How many orders a tree allows, and how many fit.
use Rattle.std.specs.Prelude.{◌≡◌, ℕ, zero, suc, ◌*◌, ◌^◌, ◌<◌, ◌≤◌, List, Some, None, Option}
use Rattle.finds.specs.Exactness.{RowOf}
use Rattle.finds.specs.Finds.{Finds, Order, Fits}
use Rattle.finds.specs.Trees.{Tree, grave, any, row, Trees, none, more, len}

-- In how many orders n things can stand.
abbrev pub factorial : ℕ → ℕ
factorial zero = 1
factorial (suc n) = suc n * factorial n

-- The product over all places of the tree: k! where k branches may stand in any order, 2 for a row.
abbrev mutual
  pub product : Tree → ℕ
  product (grave g) = 1
  product (any ts) = factorial (len ts) * all_products ts
  product (row ts) = 2 * all_products ts

  -- The product over the places of all the branches.
  pub all_products : Trees → ℕ
  all_products none = 1
  all_products (more t ts) = product t * all_products ts

-- There are just n rows with P: they can be numbered from 0 to n - 1, and different numbers go to different rows.
pub record Number (P : List ℕ → Type 0) (n : ℕ) : Type 0 where
  pub row : ℕ → List ℕ
  pub each : (i : ℕ) → i < n → P (row i)
  pub all : (l : List ℕ) → P l → (i : ℕ) × (i < n) × (row i ≡ l)
  pub apart : (i j : ℕ) → i < n → j < n → row i ≡ row j → i ≡ j

-- The row is that of an order that fits.
abbrev pub Fitting : Finds → List ℕ → Type 0
Fitting f l = (o : Order f.graves) × RowOf f.graves o l × Fits f o

-- What is said of the number of orders that fit: it is this one, or it is many, 2^64 or more. An order and the same order turned round are two.
abbrev pub Counted : Finds → Option ℕ → Type 0
Counted f (Some n) = Number (Fitting f) n
Counted f None = (n : ℕ) × Number (Fitting f) n × (2 ^ 64 ≤ n)
