use Rattle.changes.specs.Draft.{drafted, Kept}
use Rattle.changes.specs.Splice.{Shifted}
use Rattle.trees.specs.Rows.{seen}
use Rattle.changes.proofs.splice.behind.Given as goal

abbrev pub invariant-loop-x : goal.invariant-loop-x
invariant-loop-x l =
    Kept (drafted l.initial.draft) (drafted l.draft) l.at × Shifted (seen l.tree.rows) (drafted l.draft) l.end l.x l.at
