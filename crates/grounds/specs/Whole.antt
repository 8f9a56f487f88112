-- The whole promise: for each table that is taken a tree that allows exactly the orders that fit, or a ground.
use Rattle.std.specs.Prelude.{◌≡◌, ℕ, suc, ◌≤◌, min, List, length, Some, Ok, Err, Result}
use Rattle.finds.specs.Finds as finds
use Rattle.finds.specs.Finds.{Finds}
use Rattle.finds.specs.Exactness.{Exactly, SomeFits, NoneFits}
use Rattle.pqtree.specs.Growth.{first_kinds, after}
use Rattle.pqtree.specs.Theorems.{Stands}
use Rattle.seriation.specs.Building.{Standing, SetsWritten}
use Rattle.tables.specs.Format.{finds_of}
use Rattle.tables.specs.Reading.{Refused, Taken}
use Rattle.tables.specs.declared.refusal.Refusal.{Refusal}
use Rattle.tables.specs.declared.room.Room.{Room}
use Rattle.trees.specs.Cells.{Lent, shortest}
use Rattle.trees.specs.Rows.{lent_rows}
use Rattle.trees.specs.declared.rows.Rows.{Rows}
use Rattle.grounds.specs.Finding.{RingIn, Cleared}
use Rattle.grounds.specs.declared.notebook.Notebook.{Notebook}
use Rattle.grounds.specs.declared.outcome.Outcome.{Outcome}
use Rattle.grounds.specs.declared.outcome.Outcome.TheVariants.{Tree, Ground}

-- The answers by number: 0 a tree, 1 a ground.
abbrev pub number_of : Outcome → ℕ
number_of (Tree root count) = 0
number_of (Ground pairs) = 1

-- The values of an answer: the root and the count of cells; or the number of pairs of the ring.
abbrev pub values_of : Outcome → ℕ × ℕ
values_of (Tree root count) = (root, count)
values_of (Ground pairs) = (pairs, 0)

-- What all lent memory holds.
pub record Held : Type 0 where
  pub rows : Lent
  pub kinds : List ℕ
  pub depths : List ℕ
  pub parents : List ℕ
  pub queue : List ℕ
  pub ring : List ℕ

-- The lent memory by its parts.
abbrev pub memory_of : Rows → List ℕ → Notebook → List ℕ → Held
memory_of rows kinds notes ring = record { rows = lent_rows rows; kinds = kinds; depths = notes.depths.now; parents = notes.parents.now; queue = notes.queue.now; ring = ring }

-- The sizes of the lent memory.
abbrev pub room_of : Held → Room
room_of m = record { branches = shortest m.rows; kinds = length m.kinds; colours = min (length m.depths) (min (length m.parents) (length m.queue)); rings = length m.ring }

-- What was lent for colours and rings is as it was.
pub record Unsearched (before now : Held) : Type 0 where
  pub depths : now.depths ≡ before.depths
  pub parents : now.parents ≡ before.parents
  pub queue : now.queue ≡ before.queue
  pub ring : now.ring ≡ before.ring

-- The cells for colours have been cleared for n graves.
pub record Searched (n : ℕ) (before now : Held) : Type 0 where
  pub depths : Cleared n before.depths now.depths
  pub parents : Cleared n before.parents now.parents
  pub queue : Cleared n before.queue now.queue

-- The rows hold the tree of exactly the orders that fit, and there is one.
pub record ATree (f : Finds) (root count : ℕ) (before now : Held) : Type 0 where
  pub root_is : root ≡ 0
  pub standing : Standing f (length f.kinds) count before.rows now.rows
  pub exact : Exactly f standing.stage.tree
  pub some : SomeFits f
  pub else : Unsearched before now

-- The ring's bytes are a ground, so no order fits. The rows hold the tree of the kinds before the first with which none fits.
pub record AGround (f : Finds) (pairs : ℕ) (before now : Held) : Type 0 where
  pub ring : RingIn f pairs before.ring now.ring
  pub ground : finds.Ground f
  pub none : NoneFits f
  pub kind : ℕ
  pub found : NoneFits (first_kinds (suc kind) f)
  pub count : ℕ
  pub standing : Standing f kind count before.rows now.rows
  pub else : Searched f.graves before now

-- Exactly one of the two: a tree, where some order fits; a ground, where none does.
abbrev pub Answer : Finds → Held → Held → Outcome → Type 0
Answer f before now (Tree root count) = ATree f root count before now
Answer f before now (Ground pairs) = AGround f pairs before now

-- What the whole call answers for the bytes of a file: the first refusal that applies, with nothing changed; or the answer for its finds, while after each kind the tree stood for the kinds so far.
abbrev pub Whole : List ℕ → Held → Held → Result Outcome Refusal → Type 0
Whole file before now (Err r) = Refused file (Some (room_of before)) r × (now ≡ before)
Whole file before now (Ok outcome) =
    Taken file (Some (room_of before)) × Answer (finds_of file) before now outcome × SetsWritten file before.kinds now.kinds
    × ((j : ℕ) → j ≤ length (finds_of file).kinds → Stands (first_kinds j (finds_of file)) (after (finds_of file) j))
