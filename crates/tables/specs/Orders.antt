-- Orders from elsewhere: a byte for each place, the grave that stands there; and whether such an order fits.
use Rattle.std.specs.Prelude.{◌≡◌, ℕ, ◌<◌, ◌≤◌, Bool, true, false, ◌≢◌, ◌⊎◌, List, length, get_or, Some, None, Ok, Err, Option, Result, slice_index, slice_index_or}
use Rattle.finds.specs.Finds.{Finds, Order, OneStretch, Fits}
use Rattle.finds.specs.Exactness.{RowOf}
use Rattle.tables.specs.Format.{graves_of, finds_of}
use Rattle.tables.specs.Reading.{Refused, Taken}
use Rattle.tables.specs.declared.refusal.Refusal.{Refusal}
use Rattle.tables.specs.declared.refusal.Refusal.TheVariants.{GraveCount, KindCount, FileLength, UnknownGrave, BadOrder, BadRing, BadPair, ShortMemory}
use Rattle.tables.specs.declared.verdict.Torn.{Torn}

-- The byte at place p is no grave, or stood at an earlier place.
abbrev pub BadPlace : ℕ → List ℕ → ℕ → Type 0
BadPlace n l p = (n ≤ slice_index l p) ⊎ ((q : ℕ) × (q < p) × (slice_index l q ≡ slice_index l p))

-- 5: another length than n, at that length; or the first bad place.
abbrev pub IsBadOrder : ℕ → List ℕ → ℕ → Type 0
IsBadOrder n l at = ((length l ≢ n) × (at ≡ length l)) ⊎ ((length l ≡ n) × (at < n) × BadPlace n l at × ((p : ℕ) → p < at → BadPlace n l p → ⊥))

-- The bytes are an order of n graves: n of them, and no bad place.
abbrev pub GoodOrder : ℕ → List ℕ → Type 0
GoodOrder n l = (length l ≡ n) × ((p : ℕ) → p < n → BadPlace n l p → ⊥)

-- The grave at place p lies between two graves of the kind without having it.
pub record Between (k : ℕ → Bool) (l : List ℕ) (p : ℕ) : Type 0 where
  pub lacks : k (slice_index l p) ≡ false
  pub before : ℕ
  pub before_lt : before < p
  pub before_has : k (slice_index l before) ≡ true
  pub behind : ℕ
  pub behind_gt : p < behind
  pub behind_lt : behind < length l
  pub behind_has : k (slice_index l behind) ≡ true

-- The grave g at place p is the first by its place that lies between two graves of the kind without having it.
pub record FirstBetween (k : ℕ → Bool) (l : List ℕ) (p g : ℕ) : Type 0 where
  pub at : get_or l p 0 ≡ g
  pub here : Between k l p
  pub none_before : (q : ℕ) → q < p → Between k l q → ⊥

-- Kind i of the finds.
abbrev pub kind_of : Finds → ℕ → ℕ → Bool
kind_of f i = slice_index_or f.kinds i (λ g. false)

-- The kind i and the grave g tear this order of the finds: the kinds before i were in use for one stretch, i was not, and g is the first grave between.
pub record Tears (f : Finds) (l : List ℕ) (i g : ℕ) : Type 0 where
  pub order : Order f.graves
  pub row : RowOf f.graves order l
  pub listed : i < length f.kinds
  pub untorn : (j : ℕ) → j < i → OneStretch f.graves order (kind_of f j)
  pub torn : OneStretch f.graves order (kind_of f i) → ⊥
  pub place : ℕ
  pub first : FirstBetween (kind_of f i) l place g

-- What is said of an order: nothing where it fits, or the first torn kind and the first grave that tears it.
abbrev pub Judged : Finds → List ℕ → Option Torn → Type 0
Judged f l None = (o : Order f.graves) × RowOf f.graves o l × Fits f o
Judged f l (Some t) = Tears f l t.kind t.grave

-- What checking an order against a file answers: the first refusal of the table, else 5, else the verdict.
abbrev pub OrderAnswer : List ℕ → List ℕ → Result (Option Torn) Refusal → Type 0
OrderAnswer file l (Ok v) = Taken file None × GoodOrder (graves_of file) l × Judged (finds_of file) l v
OrderAnswer file l (Err (BadOrder at)) = Taken file None × IsBadOrder (graves_of file) l at
OrderAnswer file l (Err GraveCount) = Refused file None GraveCount
OrderAnswer file l (Err KindCount) = Refused file None KindCount
OrderAnswer file l (Err (FileLength at)) = Refused file None (FileLength at)
OrderAnswer file l (Err (UnknownGrave at)) = Refused file None (UnknownGrave at)
OrderAnswer file l (Err (BadRing at)) = ⊥
OrderAnswer file l (Err (BadPair at)) = ⊥
OrderAnswer file l (Err (ShortMemory what)) = ⊥
