use Rattle.std.proofs.Common.{◌+◌}
use Rattle.trees.specs.Rows.{seen}
use Rattle.trees.proofs.Cells.{Moved}
use Rattle.changes.specs.Draft.{drafted, Kept}
use Rattle.changes.specs.Written.{Headed}
use Rattle.changes.proofs.draft.copy.Given as goal

abbrev pub invariant-loop-x : goal.invariant-loop-x
invariant-loop-x l =
    Kept (drafted l.initial.draft) (drafted l.draft) l.at.cell
    × Headed (drafted l.draft) l.at ((seen l.part.rows).sort l.part.root) ((seen l.part.rows).set l.part.root)
    × Moved (seen l.part.rows) (drafted l.draft) l.part.root l.at.cell (l.part.root + 1) l.x
