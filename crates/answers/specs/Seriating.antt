-- What `seriate` prints for the bytes of a file.
use Rattle.std.specs.Prelude.{◌≡◌, ℕ, ◌<◌, ◌≤◌, ◌⊎◌, List, Some, string_bytes, Option}
use Rattle.finds.specs.Exactness.{Exactly, SomeFits, NoneFits}
use Rattle.finds.specs.Finds.{Finds, Ground}
use Rattle.finds.specs.Trees.{Tree, Good}
use Rattle.clashes.specs.Rings.{Ring}
use Rattle.grounds.specs.Checking.{pairs_of}
use Rattle.report.specs.Answer.{ring_answer, refusal_answer}
use Rattle.report.specs.Tells.{Tells}
use Rattle.tables.specs.Format.{graves_of, kind_count, finds_of}
use Rattle.tables.specs.Reading.{Headed, Roomy, Refused, Taken}
use Rattle.tables.specs.Room.{branches_for, colours_for, ring_for}
use Rattle.tables.specs.declared.refusal.Lent.TheVariants.{Branches}
use Rattle.tables.specs.declared.refusal.Refusal.{Refusal}
use Rattle.tables.specs.declared.refusal.Refusal.TheVariants.{ShortMemory}
use Rattle.tables.specs.declared.room.Room.{Room}
use Rattle.answers.specs.Printing.{status_of, Prints}
use Rattle.answers.specs.declared.printed.Printed.{Printed}

-- The memory that is lent: for 24 graves and 40 kinds.
abbrev pub room : Option Room
room = Some (record { branches = branches_for 24; kinds = 40; colours = colours_for 24; rings = ring_for 24 })

-- A tree is printed that allows exactly the orders that fit, of which there is one; with it the number of the orders that fit, and of each grave the two nearest between which it is certain to lie.
pub record PrintsTree (f : Finds) (p : Printed) : Type 0 where
  pub tree : Tree
  pub good : Good tree
  pub exact : Exactly f tree
  pub some : SomeFits f
  pub tells : Tells f tree (string_bytes p.text)
  pub status_is : status_of p.ending ≡ 0

-- It is printed that there is no order, and a ring of clashing pairs, odd and without repetition, by its bytes: a ground, and no order fits.
pub record PrintsRing (f : Finds) (p : Printed) : Type 0 where
  pub ring : Ring f
  pub ground : Ground f
  pub none : NoneFits f
  pub bytes : List ℕ
  pub pairs_are : ring.pairs ≡ pairs_of bytes
  pub prints : Prints p (ring_answer bytes) 0

-- What is printed for a file: for one that is taken a tree or a ring, and else the first refusal that applies.
pub data Seriated (file : List ℕ) (p : Printed) : Type 0 where
  tree : Taken file room → PrintsTree (finds_of file) p → Seriated file p
  no_order : Taken file room → PrintsRing (finds_of file) p → Seriated file p
  turned_away : (r : Refusal) → Refused file room r → Prints p (refusal_answer r) 1 → Seriated file p

-- A file that passes the first three checks is not refused for want of memory if it has up to 24 graves and 40 kinds; if it has more of either, it is refused by 8 at 0.
abbrev pub RoomFor24 : Type 0
RoomFor24 = (file : List ℕ) → Headed file →
    (graves_of file ≤ 24 → kind_count file ≤ 40 → Roomy room (graves_of file) (kind_count file))
    × ((24 < graves_of file) ⊎ (40 < kind_count file) → Refused file room (ShortMemory Branches))
