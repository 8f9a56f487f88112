-- The notebook that is lent for the search.
use Rattle.std.specs.Prelude.{◌≡◌, ℕ, min, length}
use Rattle.grounds.specs.declared.notebook.Notebook.{Notebook}

-- For how many pairs there is room.
abbrev pub pairs_room : Notebook → ℕ
pairs_room n = min (length n.depths.now) (min (length n.parents.now) (length n.queue.now))

-- Each slice of the notebook is still the same. (How long they are follows from what they hold.)
pub record SameNotebook (before after : Notebook) : Type 0 where
  pub depths : after.depths.ghost_name ≡ before.depths.ghost_name
  pub parents : after.parents.ghost_name ≡ before.parents.ghost_name
  pub queue : after.queue.ghost_name ≡ before.queue.ghost_name
