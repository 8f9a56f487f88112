-- What the steps of the search do, and what it answers.
use Rattle.std.specs.Prelude.{◌≡◌, ℕ, ◌+◌, ◌*◌, ◌%◌, ◌<◌, ◌≤◌, ◌⊎◌, List, length, slice_index, slice_set, replicate, Some, None, Option}
use Rattle.finds.specs.Finds.{Finds}
use Rattle.finds.specs.Exactness.{SomeFits}
use Rattle.grounds.specs.Notes.{Forked}
use Rattle.grounds.specs.declared.search.Fork.{Fork}
use Rattle.grounds.specs.declared.search.Search.{Search}

-- A cell for each pair of n graves, of which there are 4096 at most.
pub record Sized (n : ℕ) (depths parents queue : List ℕ) : Type 0 where
  pub for_depths : length depths ≡ n * n
  pub for_parents : length parents ≡ n * n
  pub for_queue : length queue ≡ n * n
  pub few : n * n ≤ 4096

-- The search goes on in the same table, and each lent slice is still the same.
pub record SameCells (before after : Search) : Type 0 where
  pub sets : after.sets ≡ before.sets
  pub depths : after.depths.ghost_name ≡ before.depths.ghost_name
  pub parents : after.parents.ghost_name ≡ before.parents.ghost_name
  pub queue : after.queue.ghost_name ≡ before.queue.ghost_name

-- No pair of n graves is seen.
pub record Fresh (n : ℕ) (s : Search) : Type 0 where
  pub depths_are : s.depths.now ≡ replicate (n * n) 0
  pub tail_is : s.tail ≡ 0

-- All cells for the pairs of n graves are cleared, and no pair is seen.
pub record Blank (n : ℕ) (s : Search) : Type 0 where
  pub depths_are : s.depths.now ≡ replicate (n * n) 0
  pub parents_are : s.parents.now ≡ replicate (n * n) 0
  pub queue_is : s.queue.now ≡ replicate (n * n) 0
  pub tail_is : s.tail ≡ 0

-- There is a cell with this number.
abbrev pub IsCell : Search → ℕ → Type 0
IsCell s x = x < s.sets.graves * s.sets.graves

-- One pair more is noted: its depth, one more than that of its parent, and its parent in its cells, and its number at the end of the queue.
pub record Entered (x parent : ℕ) (before after : Search) : Type 0 where
  pub depths_are : after.depths.now ≡ slice_set before.depths.now x (slice_index before.depths.now parent + 1)
  pub parents_are : after.parents.now ≡ slice_set before.parents.now x parent
  pub queue_is : after.queue.now ≡ slice_set before.queue.now before.tail x
  pub tail_is : after.tail ≡ before.tail + 1

-- The pair in y is not seen.
abbrev pub Unseen : Search → ℕ → Type 0
Unseen s y = slice_index s.depths.now y ≡ 0

-- The pairs in x and y have one colour.
abbrev pub OneColour : Search → ℕ → ℕ → Type 0
OneColour s x y = slice_index s.depths.now y % 2 ≡ slice_index s.depths.now x % 2

-- A pair that clashes with the one in x is met: it is noted as its child, or it was seen and has the other colour; or both are told, having one colour.
abbrev pub Met : ℕ → ℕ → Search → Search → Option Fork → Type 0
Met x y before after None = (Unseen before y × Entered y x before after) ⊎ ((Unseen before y → ⊥) × (OneColour before x y → ⊥) × (after ≡ before))
Met x y before after (Some fork) = (Unseen before y → ⊥) × OneColour before x y × (after ≡ before) × (fork.left ≡ x) × (fork.right ≡ y)

-- Some order fits, or there are two clashing pairs of one colour.
abbrev pub Searched : Finds → Search → Option Fork → Type 0
Searched f s None = SomeFits f
Searched f s (Some fork) = Forked f s.depths.now s.parents.now fork.left fork.right
