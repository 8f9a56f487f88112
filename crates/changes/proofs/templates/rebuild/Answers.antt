use Rattle.std.proofs.Common.{sym, ◌∙◌}
use Rattle.finds.specs.Sets.{has}
use Rattle.trees.specs.Rows.{seen}
use Rattle.trees.specs.declared.rows.Sort.TheVariants.{Any}
use Rattle.trees.proofs.Finding.{had_standing}
use Rattle.trees.proofs.Sorts.{other_sort}
use Rattle.changes.proofs.Rebuilding.{is_row}
use Rattle.changes.proofs.templates.rebuild.Goals as goal

pub row_part-requires-clause-row : goal.row_part-requires-clause-row
row_part-requires-clause-row c =
    let s = had_standing c.args.part.stands in
    is_row (seen c.args.part.rows) c.args.part.root (has c.args.kind) s.tree s.part.0 (c.requires.heavy s.tree s.part)
    (λ e. other_sort c.sort.result Any c.if-eq.ensures (c.sort.ensures ∙ sym e))
