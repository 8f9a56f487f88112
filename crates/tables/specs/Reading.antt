-- Which files are taken and which are turned away. The refusals are tried in the order 1, 2, 3, 8, 4; a byte that is not there is refused only by 3.
use Rattle.std.specs.Prelude.{◌≡◌, ℕ, ◌+◌, ◌*◌, ◌^◌, ◌<◌, ◌≤◌, ◌≢◌, ◌⊎◌, List, length, drop, Some, None, Ok, Err, Option, Result}
use Rattle.tables.specs.Format.{kind_set, graves_of, kind_count, finds_in, finds_of}
use Rattle.tables.specs.Room.{branches_for, colours_for, ring_for}
use Rattle.tables.specs.declared.refusal.Lent.{Lent}
use Rattle.tables.specs.declared.refusal.Lent.TheVariants.{Branches, Colours, Rings}
use Rattle.tables.specs.declared.refusal.Refusal.{Refusal}
use Rattle.tables.specs.declared.refusal.Refusal.TheVariants.{GraveCount, KindCount, FileLength, UnknownGrave, BadOrder, BadRing, BadPair, ShortMemory}
use Rattle.tables.specs.declared.room.Room.{Room}
use Rattle.tables.specs.declared.stored.Table.{Table}

-- 1: the first byte is there, and is 0 or above 64.
abbrev pub BadGraves : List ℕ → Type 0
BadGraves file = (0 < length file) × ((graves_of file ≡ 0) ⊎ (64 < graves_of file))

-- 2: the second byte is there, and is above 128.
abbrev pub BadKinds : List ℕ → Type 0
BadKinds file = (1 < length file) × (128 < kind_count file)

-- 3: fewer than two bytes, or not eight for each kind behind them.
abbrev pub BadLength : List ℕ → Type 0
BadLength file = (length file < 2) ⊎ (length file ≢ 2 + 8 * kind_count file)

-- None of the first three refusals.
abbrev pub Headed : List ℕ → Type 0
Headed file = (BadGraves file → ⊥) × (BadKinds file → ⊥) × (BadLength file → ⊥)

-- 8 at 0: memory is lent, and is too short for n graves with m kinds: too few cells for branches, or too few for the kinds' sets.
abbrev pub ShortBranches : Option Room → ℕ → ℕ → Type 0
ShortBranches None n m = ⊥
ShortBranches (Some room) n m = (room.branches < branches_for n) ⊎ (room.kinds < m)

-- 8 at 1: too few cells for colours.
abbrev pub ShortColours : Option Room → ℕ → Type 0
ShortColours None n = ⊥
ShortColours (Some room) n = room.colours < colours_for n

-- 8 at 2: too few bytes for a ring.
abbrev pub ShortRing : Option Room → ℕ → Type 0
ShortRing None n = ⊥
ShortRing (Some room) n = room.rings < ring_for n

-- No lent memory is too short for n graves with m kinds.
abbrev pub Roomy : Option Room → ℕ → ℕ → Type 0
Roomy lent n m = (ShortBranches lent n m → ⊥) × (ShortColours lent n → ⊥) × (ShortRing lent n → ⊥)

-- Which lent memory is too short, the first by its place, or that none is.
abbrev pub Shortage : Option Room → ℕ → ℕ → Option Lent → Type 0
Shortage lent n m None = Roomy lent n m
Shortage lent n m (Some Branches) = ShortBranches lent n m
Shortage lent n m (Some Colours) = (ShortBranches lent n m → ⊥) × ShortColours lent n
Shortage lent n m (Some Rings) = (ShortBranches lent n m → ⊥) × (ShortColours lent n → ⊥) × ShortRing lent n

-- 4: kind i of these bytes lay in a grave at or above n.
abbrev pub Stray : ℕ → List ℕ → ℕ → Type 0
Stray n bs i = 2 ^ n ≤ kind_set bs i

-- The file is turned away by this refusal, the first of the list that applies.
abbrev pub Refused : List ℕ → Option Room → Refusal → Type 0
Refused file lent GraveCount = BadGraves file
Refused file lent KindCount = (BadGraves file → ⊥) × BadKinds file
Refused file lent (FileLength at) = (BadGraves file → ⊥) × (BadKinds file → ⊥) × BadLength file × (at ≡ length file)
Refused file lent (ShortMemory what) = Headed file × Shortage lent (graves_of file) (kind_count file) (Some what)
Refused file lent (UnknownGrave at) =
    Headed file × Roomy lent (graves_of file) (kind_count file) × (at < kind_count file) × Stray (graves_of file) (drop 2 file) at
    × ((i : ℕ) → i < at → Stray (graves_of file) (drop 2 file) i → ⊥)
Refused file lent (BadOrder at) = ⊥
Refused file lent (BadRing at) = ⊥
Refused file lent (BadPair at) = ⊥

-- The file is taken: no refusal applies.
abbrev pub Taken : List ℕ → Option Room → Type 0
Taken file lent = Headed file × Roomy lent (graves_of file) (kind_count file) × ((i : ℕ) → i < kind_count file → Stray (graves_of file) (drop 2 file) i → ⊥)

-- The table is that of the file: its number of graves, the bytes of its kinds, and so the finds that the file stands for.
pub record TableOf (file : List ℕ) (t : Table) : Type 0 where
  pub graves_are : t.graves ≡ graves_of file
  pub kinds_are : t.kinds.now ≡ drop 2 file
  pub finds_are : finds_in t.graves t.kinds.now ≡ finds_of file
  pub some : 1 ≤ t.graves
  pub few : t.graves ≤ 64
  pub whole : length t.kinds.now ≡ 8 * kind_count file
  pub short : kind_count file ≤ 128
  pub known : (i : ℕ) → i < kind_count file → kind_set t.kinds.now i < 2 ^ t.graves

-- What reading a file answers: the first refusal that applies, or the table that the file stands for.
abbrev pub Reads : List ℕ → Option Room → Result Table Refusal → Type 0
Reads file lent (Err r) = Refused file lent r
Reads file lent (Ok t) = Taken file lent × TableOf file t

-- No file has two answers: one refusal at most turns it away, and none if it is taken.
abbrev pub OneAnswer : Type 0
OneAnswer = (file : List ℕ) (lent : Option Room) →
    ((r q : Refusal) → Refused file lent r → Refused file lent q → r ≡ q) × ((r : Refusal) → Taken file lent → Refused file lent r → ⊥)
