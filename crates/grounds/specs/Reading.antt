-- A ring as it is read from the notes of the search.
use Rattle.std.specs.Prelude.{◌≡◌, ℕ, ◌+◌, ◌-◌, ◌*◌, ◌<◌, ◌≤◌, List, ◌++◌, map, length, take, drop, slice_index}
use Rattle.finds.specs.Finds.{Finds}
use Rattle.clashes.specs.Rings.{Ring}
use Rattle.grounds.specs.Notes.{numbered}

-- The cells below one place and from another on hold the numbers of the pairs of a ring.
pub record Closed (f : Finds) (queue : List ℕ) (left right : ℕ) : Type 0 where
  pub ring : Ring f
  pub pairs_are : ring.pairs ≡ map (numbered f.graves) (take left queue) ++ map (numbered f.graves) (drop right queue)
  pub apart : left < right
  pub within : right < length queue
  pub few : left + (length queue - right) ≤ f.graves * (f.graves - 1)
  pub left_known : (i : ℕ) → i < left → slice_index queue i < f.graves * f.graves
  pub right_known : (i : ℕ) → right ≤ i → i < length queue → slice_index queue i < f.graves * f.graves
