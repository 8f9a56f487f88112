-- What writing the tree without kinds answers, and what it leaves in the rows.
use Rattle.std.specs.Prelude.{◌≡◌, ℕ, ◌+◌, ◌-◌, ◌*◌, ◌^◌, ◌<◌, ◌⊎◌, drop, Some, None, Option}
use Rattle.finds.specs.Trees.{graves_from, start}
use Rattle.trees.specs.Cells.{sets_of, Lent, held, shortest, Ats, Holds}
use Rattle.trees.specs.Sorts.{code_of}
use Rattle.trees.specs.declared.rows.Cell.{Cell}

-- From cell n on the rows are as before.
pub record SameFrom (n : ℕ) (before after : Lent) : Type 0 where
  pub parents : drop n after.parents ≡ drop n before.parents
  pub sorts : drop n after.sorts ≡ drop n before.sorts
  pub places : drop n after.places ≡ drop n before.places
  pub sets : drop n after.sets ≡ drop n before.sets

-- The number of graves is 0 or above 64, or the room is for fewer than 2 n - 1 cells.
abbrev pub Refuses : ℕ → ℕ → Type 0
Refuses n room = (n ≡ 0) ⊎ ((64 < n) ⊎ (room < 2 * n - 1))

-- Refused, and all is as before; or the tree without kinds stands in the first cells, and the others are as before.
abbrev pub Starts : ℕ → Lent → Lent → Option ℕ → Type 0
Starts n before after None = Refuses n (shortest before) × (after ≡ before)
Starts n before after (Some count) = (Refuses n (shortest before) → ⊥) × Holds (held after) count (start n) × SameFrom count before after

-- The first n graves, whose set is `all`, stand in the cells from 1 on, as branches of cell 0; the cells behind them are as before.
pub record Graves (n all : ℕ) (before after : Lent) : Type 0 where
  pub lie : Ats (held after) 1 0 0 (graves_from 0 n)
  pub set_is : all ≡ sets_of (graves_from 0 n)
  pub kept : SameFrom (n + 1) before after

-- The cell holds the grave g, as a branch of cell 0 in the place g.
pub record GraveCell (g : ℕ) (c : Cell) : Type 0 where
  pub parent : c.parent ≡ 0
  pub sort : code_of c.sort ≡ 0
  pub place : c.place ≡ g
  pub graves : c.graves ≡ 2 ^ g
