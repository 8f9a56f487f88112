-- What the bytes of a table's file mean: a byte with the number of graves, a byte with the number of kinds, and for each kind eight bytes, low byte first, whose bits are the graves in which it lay.
use Rattle.std.specs.Prelude.{ℕ, zero, suc, ◌+◌, ◌*◌, ◌/◌, Bool, List, [], ◌∷◌, map, length, drop, slice_index}
use Rattle.finds.specs.Finds.{Finds}
use Rattle.finds.specs.Sets.{has}

-- The number in eight bytes from a place on, low byte first.
abbrev pub word_at : List ℕ → ℕ → ℕ
word_at bs i =
    slice_index bs i + slice_index bs (i + 1) * 256 + slice_index bs (i + 2) * 65536 + slice_index bs (i + 3) * 16777216 + slice_index bs (i + 4) * 4294967296
    + slice_index bs (i + 5) * 1099511627776 + slice_index bs (i + 6) * 281474976710656 + slice_index bs (i + 7) * 72057594037927936

-- The set of graves in which kind i lay, from the bytes of the kinds.
unfoldable pub kind_set : List ℕ → ℕ → ℕ
kind_set bs i = word_at bs (8 * i)

-- The m kinds from kind i on.
abbrev pub kinds_from : List ℕ → ℕ → ℕ → List (ℕ → Bool)
kinds_from bs i zero = []
kinds_from bs i (suc m) = has (kind_set bs i) ∷ kinds_from bs (suc i) m

-- The sets of graves of the m kinds from kind i on.
abbrev pub sets_from : List ℕ → ℕ → ℕ → List ℕ
sets_from bs i zero = []
sets_from bs i (suc m) = kind_set bs i ∷ sets_from bs (suc i) m

-- The sets of graves of all kinds in these bytes, eight for each; fewer bytes at the end stand for nothing.
unfoldable pub sets_in : List ℕ → List ℕ
sets_in bs = sets_from bs 0 (length bs / 8)

-- The finds of n graves whose kinds stand in these bytes, eight for each kind.
abbrev pub finds_in : ℕ → List ℕ → Finds
finds_in n bs = record { graves = n; kinds = kinds_from bs 0 (length bs / 8) }

-- The finds of n graves whose kinds lay in these sets of graves.
abbrev pub finds_of_sets : ℕ → List ℕ → Finds
finds_of_sets n ss = record { graves = n; kinds = map has ss }

-- The number of graves that a file states.
abbrev pub graves_of : List ℕ → ℕ
graves_of file = slice_index file 0

-- The number of kinds that a file states.
abbrev pub kind_count : List ℕ → ℕ
kind_count file = slice_index file 1

-- The finds that a file stands for.
abbrev pub finds_of : List ℕ → Finds
finds_of file = finds_in (graves_of file) (drop 2 file)
