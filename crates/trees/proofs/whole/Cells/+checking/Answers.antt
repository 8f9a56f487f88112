use Rattle.std.proofs.Common.{sym, refl, ap, ◌∙◌, ⊎_elim, arith}
use Rattle.trees.specs.Rows.{seen}
use Rattle.trees.specs.Sorts.{code_of}
use Rattle.trees.proofs.Checking.{grave_checked, grave_not, checking_start, checking_more, checking_next, checking_yes, checking_no}
use Rattle.trees.proofs.Deciding.{denied}
use Rattle.trees.proofs.Standing.{sort_low}
use Rattle.trees.proofs.whole.Cells.+checking.Goals as goal
use Rattle.trees.proofs.whole.Cells.+checking.Goals.{branches_end-then-self-at-via-then-self-at, branches_end-then-self-at-via-else-self-at+then-graves-self-ne0}

-- ---- the branches of a cell

pub branches_end-loop-i-init : goal.branches_end-loop-i-init
branches_end-loop-i-init t c = checking_start (seen c.args.self.rows) c.args.self.count c.args.i c.requires.below

pub branches_end-returns-then-self-at : goal.branches_end-returns-then-self-at
branches_end-returns-then-self-at t c = λ u p s.
    let b = c.loop-i-test.ensures.0 refl in
    let x = checking_next c.loop-i.invariant b.0 b.1 u p s in
    elim c.then-self-at.branch [
      | branches_end-then-self-at-via-then-self-at w ↦ w.if-self-at.true x.0
      | branches_end-then-self-at-via-else-self-at+then-graves-self-ne0 w ↦ w.if-graves-self-ne0.true x.1
    ]

pub branches_end-returns-in_err-end : goal.branches_end-returns-in_err-end
branches_end-returns-in_err-end t c = rw c.from_residual.ensures (λ u p s.
    let b = c.loop-i-test.ensures.0 refl in
    let x = (checking_next c.loop-i.invariant b.0 b.1 u p s).2 in
    c.in_err-end.ensures x.0 x.1 x.2)

pub branches_end-loop-i-preserved : goal.branches_end-loop-i-preserved
branches_end-loop-i-preserved t c =
    let b = c.loop-i-test.ensures.0 refl in
    checking_more c.loop-i.invariant b.0 b.1 c.if-self-at.false c.if-graves-self-ne0.false c.in_ok-end.ensures

pub branches_end-returns-then-least-place : goal.branches_end-returns-then-least-place
branches_end-returns-then-least-place t c =
    checking_yes c.loop-i.invariant (denied c.loop-i-test.ensures) c.requires.sort.0 c.requires.sort.1 c.if-graves-self.true (omega (arith, c.requires.sort.2, c.if-least-place.true))

pub branches_end-returns-else-graves-self : goal.branches_end-returns-else-graves-self
branches_end-returns-else-graves-self t c = λ u p s.
    checking_no c.loop-i.invariant (denied c.loop-i-test.ensures) c.requires.sort.0 (λ e l. ⊎_elim (λ n. omega (arith, c.requires.sort.2, n.1)) (λ n. n e) c.else-graves-self.either) u p s

-- ---- a cell

pub part_end-returns-in_default : goal.part_end-returns-in_default
part_end-returns-in_default t c = λ u p s. omega (arith, sort_low (seen c.args.self.rows) c.args.i u p.0, c.in_default.ensures.1)

pub part_end-returns-in-Grave : goal.part_end-returns-in-Grave
part_end-returns-in-Grave t c =
    grave_checked (seen c.args.self.rows) c.args.self.count c.args.i c.requires (sym c.in-Ok.ensures ∙ ap code_of c.in-Grave.is) (omega arith) c.if-self-i-eq1.true

pub part_end-returns-in-Grave-2 : goal.part_end-returns-in-Grave-2
part_end-returns-in-Grave-2 t c =
    grave_not (seen c.args.self.rows) c.args.self.count c.args.i (sym c.in-Ok.ensures ∙ ap code_of c.in-Grave.is) c.if-self-i-eq1.false
