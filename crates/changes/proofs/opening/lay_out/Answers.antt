use Rattle.std.proofs.Common.{sym, ap, ◌∙◌, arith}
use Rattle.trees.specs.Sorts.{code_of}
use Rattle.trees.specs.declared.rows.Sort.TheVariants.{Any}
use Rattle.trees.proofs.Sorts.{same_sort, other_sort}
use Rattle.changes.proofs.Layouts.{layout_many, layout_any, layout_stuck, layout_row}
use Rattle.changes.proofs.Passing.{apart_lying}
use Rattle.changes.proofs.opening.lay_out.Goals as goal

pub of-requires : goal.of-requires
of-requires c = rw c.as_slice.ensures c.branches_of-cells.ensures.stand

pub sequence-requires : goal.sequence-requires
sequence-requires c = c.branches_of-cells.ensures.stand

pub returns-then-len-gt1 : goal.returns-then-len-gt1
returns-then-len-gt1 c = λ k b w t p s e.
    layout_many c.args.part.rows _ _ k b _ w _ t p s (rw c.as_slice.ensures (c.branches_of-cells.ensures.branches t p)) e (sym c.sort.ensures ∙ ap code_of (same_sort c.sort.result Any c.if-eq.ensures)) c.set_apart-layout.result
    (apart_lying c.of.ensures c.set_apart-layout.ensures) (omega (arith, c.len.ensures, c.if-len-gt1.true))

pub returns-then-eq : goal.returns-then-eq
returns-then-eq c = λ k b w t p s e.
    layout_any c.args.part.rows _ _ k b _ w _ t p s (rw c.as_slice.ensures (c.branches_of-cells.ensures.branches t p)) e (sym c.sort.ensures ∙ ap code_of (same_sort c.sort.result Any c.if-eq.ensures)) c.set_apart-layout.result
    (apart_lying c.of.ensures c.set_apart-layout.ensures) (omega (arith, c.len.ensures, c.if-len-gt1.false))

pub returns-in_err-middle : goal.returns-in_err-middle
returns-in_err-middle c = λ k b w t p s e.
    rw c.from_residual.ensures (layout_stuck c.args.part.rows _ _ k b _ w _ t p s (c.branches_of-cells.ensures.branches t p) e (λ h. other_sort c.sort.result Any c.if-eq.ensures (c.sort.ensures ∙ h)) c.in_err-middle.ensures)

pub returns : goal.returns
returns c = λ k b w t p s e.
    layout_row c.args.part.rows _ _ k b _ w _ t p s (c.branches_of-cells.ensures.branches t p) e (λ h. other_sort c.sort.result Any c.if-eq.ensures (c.sort.ensures ∙ h)) _ _ _ c.new.ensures c.new-2.ensures c.in_ok-middle.ensures
