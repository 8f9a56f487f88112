-- Rings from elsewhere: two bytes for each pair, first and second grave; and whether such a ring is a ground.
use Rattle.std.specs.Prelude.{◌≡◌, ℕ, ◌/◌, ◌%◌, ◌<◌, ◌≤◌, ◌⊎◌, List, [], ◌∷◌, length, Some, None, Ok, Err, Option, Result}
use Rattle.finds.specs.Finds.{Finds, Pair, Ground}
use Rattle.clashes.specs.Colours.{pair}
use Rattle.clashes.specs.Rings.{Joint, after, at, Closes}
use Rattle.tables.specs.Format.{graves_of, finds_in, finds_of}
use Rattle.tables.specs.Reading.{Refused, Taken}
use Rattle.tables.specs.declared.stored.Table.{Table}
use Rattle.tables.specs.declared.refusal.Refusal.{Refusal}
use Rattle.tables.specs.declared.refusal.Refusal.TheVariants.{GraveCount, KindCount, FileLength, UnknownGrave, BadOrder, BadRing, BadPair, ShortMemory}
use Rattle.grounds.specs.declared.pairs as code
use Rattle.grounds.specs.declared.verdict.NoClash.{NoClash}

-- The finds that a table stands for.
abbrev pub finds_in_table : Table → Finds
finds_in_table t = finds_in t.graves t.kinds.now

-- The pair that the code holds, as the definitions have it.
abbrev pub said : code.Pair.Pair → Pair
said p = pair p.first p.second

-- The pairs of a ring's bytes; a byte that is left over stands for nothing.
abbrev pub pairs_of : List ℕ → List Pair
pairs_of [] = []
pairs_of (a ∷ []) = []
pairs_of (a ∷ (b ∷ bytes)) = pair a b ∷ pairs_of bytes

-- 6: an odd number of bytes, or an even number of pairs, as none is.
abbrev pub IsBadRing : List ℕ → Type 0
IsBadRing ring = (length ring % 2 ≡ 1) ⊎ (length ring / 2 % 2 ≡ 0)

-- The pair is of a grave with itself, or with one that is not there.
abbrev pub Ill : ℕ → Pair → Type 0
Ill n p = (p.first ≡ p.second) ⊎ ((n ≤ p.first) ⊎ (n ≤ p.second))

-- No pair below a place is ill.
abbrev pub WellBelow : ℕ → List ℕ → ℕ → Type 0
WellBelow n ring i = (j : ℕ) → j < i → Ill n (at (pairs_of ring) j) → ⊥

-- 7: the first ill pair.
abbrev pub FirstIll : ℕ → List ℕ → ℕ → Type 0
FirstIll n ring i = (i < length ring / 2) × Ill n (at (pairs_of ring) i) × WellBelow n ring i

-- The ring is turned away by none of its own refusals.
abbrev pub GoodRing : ℕ → List ℕ → Type 0
GoodRing n ring = (IsBadRing ring → ⊥) × WellBelow n ring (length ring / 2)

-- The pair i clashes with the next, and the last with the first.
abbrev pub HoldsOn : Finds → List Pair → ℕ → Type 0
HoldsOn f ps i = Joint f (at ps i) (at ps (after (length ps) i))

-- What is said of a ring: nothing where each pair clashes with the next, so that it is a ground; or the first that does not.
abbrev pub Judged : Finds → List Pair → Option NoClash → Type 0
Judged f ps None = Closes f ps × Ground f
Judged f ps (Some n) = (n.pair < length ps) × (HoldsOn f ps n.pair → ⊥) × ((j : ℕ) → j < n.pair → HoldsOn f ps j)

-- What checking a ring against a file answers: the first refusal of the table, else 6 at the length, else 7 at the first ill pair, else the verdict.
abbrev pub RingAnswer : List ℕ → List ℕ → Result (Option NoClash) Refusal → Type 0
RingAnswer file ring (Ok v) = Taken file None × GoodRing (graves_of file) ring × Judged (finds_of file) (pairs_of ring) v
RingAnswer file ring (Err (BadRing at)) = Taken file None × IsBadRing ring × (at ≡ length ring)
RingAnswer file ring (Err (BadPair at)) = Taken file None × (IsBadRing ring → ⊥) × FirstIll (graves_of file) ring at
RingAnswer file ring (Err GraveCount) = Refused file None GraveCount
RingAnswer file ring (Err KindCount) = Refused file None KindCount
RingAnswer file ring (Err (FileLength at)) = Refused file None (FileLength at)
RingAnswer file ring (Err (UnknownGrave at)) = Refused file None (UnknownGrave at)
RingAnswer file ring (Err (BadOrder at)) = ⊥
RingAnswer file ring (Err (ShortMemory what)) = ⊥
