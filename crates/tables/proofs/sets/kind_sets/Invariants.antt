use Rattle.std.proofs.Common.{◌≡◌, ℕ, ◌<◌, ◌≤◌, get_or}
use Rattle.tables.specs.Format.{kind_set}
use Rattle.tables.proofs.sets.kind_sets.Given as goal

-- The sets below i are written, and the others as they were.
abbrev pub invariant-loop-i : goal.invariant-loop-i
invariant-loop-i l = ((j : ℕ) → j < l.i → get_or l.sets j 0 ≡ kind_set l.table.kinds.now j) × ((j : ℕ) → l.i ≤ j → get_or l.sets j 0 ≡ get_or l.initial.sets j 0)
