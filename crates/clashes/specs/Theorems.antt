-- The theorems of grounds, colours and rings. Each is a statement; the function of the same name has it as its contract.
use Rattle.std.specs.Prelude.{◌≡◌, ◌-◌, ◌*◌, ◌≤◌, true, ◌⊎◌, List, length}
use Rattle.finds.specs.Finds.{Finds, Pair, Ground}
use Rattle.finds.specs.Exactness.{SomeFits, NoneFits}
use Rattle.finds.specs.Parity.{odd}
use Rattle.clashes.specs.Colours.{Colouring}
use Rattle.clashes.specs.Rings.{Closes, Ring}

-- The pairs can be coloured, or there is a ground.
abbrev pub ColoursOrGround : Type 0
ColoursOrGround = (f : Finds) → Colouring f ⊎ Ground f

-- Where the pairs are coloured, some order fits.
abbrev pub OrderOf : Type 0
OrderOf = (f : Finds) → Colouring f → SomeFits f

-- Some order fits, or there is a ground.
abbrev pub OrderOrGround : Type 0
OrderOrGround = (f : Finds) → SomeFits f ⊎ Ground f

-- Where no order fits there is a ground.
abbrev pub NoneOrGround : Type 0
NoneOrGround = (f : Finds) → NoneFits f → Ground f

-- A ground can be cut to a ring, and a ring is a ground.
abbrev pub RingOf : Type 0
RingOf = (f : Finds) → (Ground f → Ring f) × (Ring f → Ground f)

-- A ring has no more pairs than there are pairs of different graves.
abbrev pub RingShort : Type 0
RingShort = (f : Finds) (r : Ring f) → length r.pairs ≤ f.graves * (f.graves - 1)

-- An odd number of pairs that close are a ground, also if some stand more than once.
abbrev pub ClosesGround : Type 0
ClosesGround = (f : Finds) (ps : List Pair) → odd (length ps) ≡ true → Closes f ps → Ground f
