use Rattle.std.proofs.Common.{ℕ}
use Rattle.finds.specs.Trees.{Trees}
use Rattle.changes.specs.Draft.{drafted, Kept}
use Rattle.changes.specs.Parts.{Are}
use Rattle.changes.specs.Written.{Wrote}
use Rattle.changes.proofs.Fronts.{front}
use Rattle.changes.proofs.Through.{Through}
use Rattle.changes.proofs.draft.copies.Given as goal

abbrev pub invariant-loop-part : goal.invariant-loop-part
invariant-loop-part l =
    Kept (drafted l.initial.draft) (drafted l.draft) l.initial.next.cell
    × ((x : ℕ) × Through l.parts l.part-iterator x × ((ts : Trees) → Are l.parts ts → Wrote (drafted l.draft) l.initial.next l.next (front x ts)))
