-- What building the tree of a table promises: of the rows, and of the answer.
use Rattle.std.specs.Prelude.{◌≡◌, ℕ, suc, ◌<◌, ◌≤◌, ◌⊎◌, List, length, take, drop, Some, Ok, Err, Result, slice_index}
use Rattle.finds.specs.Finds.{Finds}
use Rattle.finds.specs.Trees.{Tree}
use Rattle.finds.specs.Exactness.{Exactly, SomeFits, NoneFits}
use Rattle.pqtree.specs.Change.{torn, made}
use Rattle.pqtree.specs.Growth.{first_kinds, after}
use Rattle.pqtree.specs.Theorems.{Stands}
use Rattle.tables.specs.Format.{kind_set, kind_count, finds_of}
use Rattle.tables.specs.Reading.{Refused, Taken}
use Rattle.tables.specs.Room.{branches_for}
use Rattle.tables.specs.declared.refusal.Refusal.{Refusal}
use Rattle.tables.specs.declared.room.Room.{Room}
use Rattle.trees.specs.Cells.{size, Sound, Lent, held, shortest, Holds}
use Rattle.trees.specs.Starting.{SameFrom}
use Rattle.seriation.specs.declared.built.Built.{Built}
use Rattle.seriation.specs.declared.built.Built.TheVariants.{Tree as TreeBuilt, NoOrder}

-- The answers by number: 0 there is a tree, 1 no order fits.
abbrev pub number_of : Built → ℕ
number_of (TreeBuilt root count) = 0
number_of (NoOrder kind) = 1

-- The values of an answer: the root and the count of cells; or the kind at which it was found that no order fits.
abbrev pub values_of : Built → ℕ × ℕ
values_of (TreeBuilt root count) = (root, count)
values_of (NoOrder kind) = (kind, 0)

-- The rows hold, in count cells, the tree that has grown from the first j kinds of the finds; from the cell on up to which rows are lent for the graves they are as they were.
pub record Grown (f : Finds) (j count : ℕ) (before rows : Lent) : Type 0 where
  pub tree : Tree
  pub holds : Holds (held rows) count tree
  pub sound : Sound tree
  pub graves_are : size tree ≡ f.graves
  pub grown : after f j ≡ made tree
  pub rest : SameFrom (branches_for f.graves) before rows

-- The tree has grown from all kinds, or from those before a kind with which no order fits.
pub record Staged (f : Finds) (j count : ℕ) (before rows : Lent) : Type 0 where
  pub stage : Grown f j count before rows
  pub ended : (j ≡ length f.kinds) ⊎ ((j < length f.kinds) × (after f (suc j) ≡ torn))

-- The cells from count up to end are empty.
pub record Empty (rows : Lent) (count end : ℕ) : Type 0 where
  pub parents : (x : ℕ) → count ≤ x → x < end → (held rows).parent x ≡ 0
  pub sorts : (x : ℕ) → count ≤ x → x < end → (held rows).sort x ≡ 0
  pub places : (x : ℕ) → count ≤ x → x < end → (held rows).place x ≡ 0
  pub sets : (x : ℕ) → count ≤ x → x < end → (held rows).set x ≡ 0

-- Below the cell c the rows are as they were.
pub record SameBelow (c : ℕ) (before rows : Lent) : Type 0 where
  pub parents : take c rows.parents ≡ take c before.parents
  pub sorts : take c rows.sorts ≡ take c before.sorts
  pub places : take c rows.places ≡ take c before.places
  pub sets : take c rows.sets ≡ take c before.sets

-- The cells from count up to end have been emptied, and all others are as they were.
pub record Cleared (count end : ℕ) (before rows : Lent) : Type 0 where
  pub below : SameBelow count before rows
  pub empty : Empty rows count end
  pub rest : SameFrom end before rows

-- The tree in the rows stands for the first j kinds: it allows exactly the orders that fit them, and there is one. Behind it the rows are empty as far as they are lent for the graves, and from there on as they were.
pub record Standing (f : Finds) (j count : ℕ) (before rows : Lent) : Type 0 where
  pub stage : Grown f j count before rows
  pub exact : Exactly (first_kinds j f) stage.tree
  pub some : SomeFits (first_kinds j f)
  pub empty : Empty rows count (branches_for f.graves)

-- The answer for the finds. A tree: it allows exactly the orders that fit, and there is one. None: no order fits, already not with the kind that is told, while the tree in the rows stands for the kinds before it.
abbrev pub Outcome : Finds → Lent → Lent → Built → Type 0
Outcome f before rows (TreeBuilt root count) = (root ≡ 0) × ((s : Standing f (length f.kinds) count before rows) × Exactly f s.stage.tree) × SomeFits f
Outcome f before rows (NoOrder kind) = (kind < length f.kinds) × NoneFits f × NoneFits (first_kinds (suc kind) f) × ((count : ℕ) × Standing f kind count before rows)

-- What building promises: the answer, and that after each kind the tree stood for the kinds so far.
pub record Builds (f : Finds) (before rows : Lent) (r : Built) : Type 0 where
  pub outcome : Outcome f before rows r
  pub stages : (j : ℕ) → j ≤ length f.kinds → Stands (first_kinds j f) (after f j)

-- The memory that is lent for a tree: its rows, and a word for the set of each kind; colours and rings are not asked for.
abbrev pub tree_room : Lent → List ℕ → Room
tree_room rows kinds = record { branches = shortest rows; kinds = length kinds; colours = 18446744073709551615; rings = 18446744073709551615 }

-- The sets of the file's kinds have been written, and behind them all is as it was.
pub record SetsWritten (file before kinds : List ℕ) : Type 0 where
  pub sets : (i : ℕ) → i < kind_count file → slice_index kinds i ≡ kind_set (drop 2 file) i
  pub rest : drop (kind_count file) kinds ≡ drop (kind_count file) before

-- What building the tree of a file answers: the first refusal that applies, with nothing changed; or the outcome for the finds of the file.
abbrev pub BuiltFrom : List ℕ → Lent → Lent → List ℕ → List ℕ → Result Built Refusal → Type 0
BuiltFrom file before rows sets kinds (Err r) = Refused file (Some (tree_room before sets)) r × (rows ≡ before) × (kinds ≡ sets)
BuiltFrom file before rows sets kinds (Ok b) = Taken file (Some (tree_room before sets)) × Builds (finds_of file) before rows b × SetsWritten file sets kinds
