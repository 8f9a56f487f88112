-- What is written into a draft at a spot.
use Rattle.std.specs.Prelude.{◌≡◌, ℕ, ◌+◌, ◌≤◌, Some, None, Option}
use Rattle.finds.specs.Trees.{Trees, len}
use Rattle.pqtree.specs.Opening.{Opening, stuck, laid}
use Rattle.trees.specs.Cells.{Cells, all_nodes, Ats}
use Rattle.changes.specs.declared.draft.Spot.{Spot}

-- Where the first branch goes of a branch that is written at the spot.
abbrev pub first_in : Spot → Spot
first_in at = record { cell = at.cell + 1; parent = at.cell; place = 0 }

-- There is room for so many cells at the spot; and before it there are no more siblings than cells.
pub record Room (at : Spot) (cells : ℕ) : Type 0 where
  pub fits : at.cell + cells ≤ 256
  pub few : at.place ≤ at.cell

-- At the spot stands a cell of this sort with this set.
pub record Headed (R : Cells) (at : Spot) (sort set : ℕ) : Type 0 where
  pub parent_is : R.parent at.cell ≡ at.parent
  pub sort_is : R.sort at.cell ≡ sort
  pub place_is : R.place at.cell ≡ at.place
  pub set_is : R.set at.cell ≡ set

-- The branches lie from the spot on, and next is the spot behind them.
pub record Wrote (R : Cells) (at next : Spot) (ts : Trees) : Type 0 where
  pub lie : Ats R at.cell at.parent at.place ts
  pub cell_is : next.cell ≡ at.cell + all_nodes ts
  pub parent_is : next.parent ≡ at.parent
  pub place_is : next.place ≡ at.place + len ts

-- The branches of the opening lie from the spot on, and the answer is the spot behind them; or None where there is no opening.
pub data Opened (R : Cells) (at : Spot) : Option Spot → Opening → Type 0 where
  not_laid : Opened R at None stuck
  laid_at : {next : Spot} {us : Trees} → Wrote R at next us → Opened R at (Some next) (laid us)
