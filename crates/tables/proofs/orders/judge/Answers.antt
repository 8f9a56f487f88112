use Rattle.std.proofs.Common.{ℕ, ◌<◌, length, subst, arith, below_more}
use Rattle.finds.specs.Sets.{has}
use Rattle.tables.specs.Orders.{Between}
use Rattle.tables.proofs.Judging.{judged_fits, judged_torn}
use Rattle.tables.proofs.KindSets.{behind_next, behind_all}
use Rattle.tables.proofs.orders.judge.Goals as goal

pub returns-in-Some-first_between : goal.returns-in-Some-first_between
returns-in-Some-first_between c =
    let l = c.args.order.now in let p = c.in-Some-first_between.place in let h = c.in-Some-first_between.ensures in
    let s = c.in-Some.ensures.steps in let next = behind_next c.loop-kind.invariant.0 c.in-Some.set c.in-Some.kind c.next.new.self.count c.next.new.self.iter s.0 s.1 s.2 in
    judged_torn c.args.table.graves c.args.table.kinds.now l c.requires.good c.in-Some.kind p next.0 (λ j m. c.loop-kind.invariant.1 j (omega arith))
    (subst (λ (s : ℕ). Between (has s) l p) next.1 h.1)
    (subst (λ (s : ℕ). (q : ℕ) → q < p → Between (has s) l q → ⊥) next.1 h.2)

pub loop-kind-preserved : goal.loop-kind-preserved
loop-kind-preserved c =
    let l = c.args.order.now in
    let s = c.in-Some.ensures.steps in let next = behind_next c.loop-kind.invariant.0 c.in-Some.set c.in-Some.kind c.next.new.self.count c.next.new.self.iter s.0 s.1 s.2 in
    let here = subst (λ (s : ℕ). (p : ℕ) → p < length l → Between (has s) l p → ⊥) next.1 c.in_default.ensures in
    (next.2, λ i h. below_more _ _ c.loop-kind.invariant.1 (rw s.1 at here) i (omega arith))

pub returns : goal.returns
returns c =
    let all = behind_all c.loop-kind.invariant.0 c.in-None.ensures.steps.0.0 in
    judged_fits c.args.table.graves c.args.table.kinds.now c.args.order.now c.requires.good (λ i h. c.loop-kind.invariant.1 i (omega arith))
