-- The refusals by their numbers and places, as they are told of.
use Rattle.std.specs.Prelude.{ℕ}
use Rattle.tables.specs.declared.refusal.Lent.{Lent}
use Rattle.tables.specs.declared.refusal.Lent.TheVariants.{Branches, Colours, Rings}
use Rattle.tables.specs.declared.refusal.Refusal.{Refusal}
use Rattle.tables.specs.declared.refusal.Refusal.TheVariants.{GraveCount, KindCount, FileLength, UnknownGrave, BadOrder, BadRing, BadPair, ShortMemory}

-- The number of a refusal.
abbrev pub number_of : Refusal → ℕ
number_of GraveCount = 1
number_of KindCount = 2
number_of (FileLength at) = 3
number_of (UnknownGrave at) = 4
number_of (BadOrder at) = 5
number_of (BadRing at) = 6
number_of (BadPair at) = 7
number_of (ShortMemory lent) = 8

-- The place of what is lent: branches, colours, rings.
abbrev pub lent_place : Lent → ℕ
lent_place Branches = 0
lent_place Colours = 1
lent_place Rings = 2

-- The place of a refusal.
abbrev pub place_of : Refusal → ℕ
place_of GraveCount = 0
place_of KindCount = 1
place_of (FileLength at) = at
place_of (UnknownGrave at) = at
place_of (BadOrder at) = at
place_of (BadRing at) = at
place_of (BadPair at) = at
place_of (ShortMemory lent) = lent_place lent
