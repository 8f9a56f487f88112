use lib.Count.{ones}
use Rattle.std.proofs.Common.{ℕ, ◌+◌, ◌-◌, ◌*◌, length}
use Rattle.trees.specs.Subtrees.{set_at}
use Rattle.changes.specs.Bunches.{weight}
use Rattle.changes.specs.Draft.{drafted, Kept}
use Rattle.changes.proofs.Openings.{SoFar}
use Rattle.changes.proofs.Through.{Through}
use Rattle.changes.proofs.opening.+laying.Given as goal

-- Of several branches each has fewer graves than all of them: a grave less for each of the others.
abbrev pub decreases-lay_each : goal.decreases-lay_each
decreases-lay_each l = 2 * (weight l.parts.rows.sets.now l.parts.cells.now - length l.parts.cells.now) + 3

abbrev pub decreases-lay_open : goal.decreases-lay_open
decreases-lay_open l = 2 * ones (set_at l.part)

abbrev pub invariant-lay_each-loop-part : goal.invariant-lay_each-loop-part
invariant-lay_each-loop-part l =
    Kept (drafted l.initial.draft) (drafted l.draft) l.initial.next.cell
    × ((x : ℕ) × Through l.parts l.part-iterator x × SoFar l.parts.rows l.parts.count l.mask l.parts.cells.now (drafted l.draft) l.initial.next l.next x)
