-- A tree in its cells with one part of it changed: which part that is, and what becomes of the cells before and behind it.
use Rattle.std.specs.Prelude.{◌≡◌, ℕ, ◌+◌, ◌<◌, ◌≤◌, List, length, Some, None, Option, ◌≢◌, bit_and, count_ones, slice_index}
use Rattle.pqtree.specs.Change.{Outcome, torn, made}
use Rattle.trees.specs.Cells.{Cells, Holds}

-- How many graves of the kind cell x has below it.
abbrev pub having : Cells → ℕ → ℕ → ℕ
having R kind x = count_ones (bit_and (R.set x) kind)

-- Which of the sets ms is the last that has so many graves of the kind; None if none has.
abbrev pub LastWith : List ℕ → ℕ → ℕ → Option ℕ → Type 0
LastWith ms kind many None = (x : ℕ) → x < length ms → count_ones (bit_and (slice_index ms x) kind) ≢ many
LastWith ms kind many (Some r) =
    (r < length ms)
    × (count_ones (bit_and (slice_index ms r) kind) ≡ many)
    × ((x : ℕ) → r < x → x < length ms → count_ones (bit_and (slice_index ms x) kind) ≢ many)

-- Of n cells the cell r is the last that has all graves of the kind that the tree has: the root of the smallest part that holds them all.
pub record Smallest (R : Cells) (n kind r : ℕ) : Type 0 where
  pub within : r < n
  pub holds : having R kind r ≡ having R kind 0
  pub last : (x : ℕ) → r < x → x < n → having R kind x ≢ having R kind 0

-- Cell y of S is cell x of R; a parent from cell e on is moved to o as e is, any other stays.
pub record ShiftedCell (R S : Cells) (e o x y : ℕ) : Type 0 where
  pub outer : R.parent x < e → S.parent y ≡ R.parent x
  pub inner : e ≤ R.parent x → S.parent y + e ≡ R.parent x + o
  pub sort : S.sort y ≡ R.sort x
  pub place : S.place y ≡ R.place x
  pub set : S.set y ≡ R.set x

-- The cells of R from e to below n lie in S from o on.
abbrev pub Shifted : Cells → Cells → ℕ → ℕ → ℕ → Type 0
Shifted R S e n o = (x y : ℕ) → e ≤ x → x < n → y + e ≡ x + o → ShiftedCell R S e o x y

-- The answer is that of the outcome: the number of cells in which the tree that was made lies; or None where there is none.
abbrev pub Drawn : Cells → Option ℕ → Outcome → Type 0
Drawn R None torn = Unit {0}
Drawn R None (made u) = ⊥
Drawn R (Some c) torn = ⊥
Drawn R (Some c) (made u) = Holds R c u
