-- What is read from the sets of cells: how much of a mask they have, and their union.
use Rattle.std.specs.Prelude.{◌≡◌, ℕ, ◌<◌, ◌≤◌, Bool, true, false, cond, List, [], ◌∷◌, length, ◌==◌, ◌≢◌, Some, None, Option, bit_and, bit_or, count_ones, slice_index}
use Rattle.changes.specs.declared.shares.Share.{Share}
use Rattle.changes.specs.declared.shares.Share.TheVariants.{Empty, Partial, Full}

-- How much of the set s is in the mask m: nothing, all, or a part.
abbrev pub share : ℕ → ℕ → Share
share s m = cond (count_ones (bit_and s m) == 0) Empty (cond (count_ones (bit_and s m) == count_ones s) Full Partial)

-- Whether two shares are the same.
abbrev pub alike : Share → Share → Bool
alike Empty Empty = true
alike Empty Partial = false
alike Empty Full = false
alike Partial Empty = false
alike Partial Partial = true
alike Partial Full = false
alike Full Empty = false
alike Full Partial = false
alike Full Full = true

-- Whether the cell c has this share of the mask m, in the row ms of sets.
abbrev pub has_share : List ℕ → ℕ → Share → ℕ → Bool
has_share ms m want c = alike (share (slice_index ms c) m) want

-- The first r cells have nothing of the mask m, and the next, if there is one, has.
pub record EmptyFirst (ms : List ℕ) (m : ℕ) (cs : List ℕ) (r : ℕ) : Type 0 where
  pub within : r ≤ length cs
  pub before : (x : ℕ) → x < r → share (slice_index ms (slice_index cs x)) m ≡ Empty
  pub next : r < length cs → share (slice_index ms (slice_index cs r)) m ≢ Empty

-- Which cell is the first that has something of the mask m; None if none has.
abbrev pub FirstWith : List ℕ → ℕ → List ℕ → Option ℕ → Type 0
FirstWith ms m cs None = EmptyFirst ms m cs (length cs)
FirstWith ms m cs (Some r) = (r < length cs) × EmptyFirst ms m cs r

-- How a sequence goes on with the next share: behind one that was not empty, only full ones may come.
abbrev pub goes_on : Share → Bool → (Bool → Bool) → Bool
goes_on Full past rest = rest true
goes_on Partial false rest = rest true
goes_on Partial true rest = false
goes_on Empty false rest = rest false
goes_on Empty true rest = false

-- Whether the cells come in sequence: empty ones, at most one partial, full ones; or only full ones, if it is past the others.
abbrev pub in_order : List ℕ → ℕ → Bool → List ℕ → Bool
in_order ms m past [] = true
in_order ms m past (c ∷ cs) = goes_on (share (slice_index ms c) m) past (λ p. in_order ms m p cs)

-- The union of the sets of the cells.
abbrev pub union_of : List ℕ → List ℕ → ℕ
union_of ms [] = 0
union_of ms (c ∷ cs) = bit_or (slice_index ms c) (union_of ms cs)
