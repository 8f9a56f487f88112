use Rattle.std.proofs.Common.{true, false, ⊎_elim, eq-eqb, ne_eqb}
use Rattle.std.proofs.lemmas.Bool.Decides.{Decides-at, Decides-like}
use Rattle.trees.proofs.Deciding.{so, not_so}
use Rattle.grounds.specs.Checking.{finds_in_table, said}
use Rattle.grounds.proofs.Clashing.{well_proper, clash_asks, clash_turned, clash_parted}
use Rattle.grounds.proofs.checking.clash.Goals as goal

pub returns-then-p-q-2 : goal.returns-then-p-q-2
returns-then-p-q-2 c =
    Decides-at _ true (eq-eqb _ _ c.if-p-q-2.true)
    (so (clash_turned (well_proper (finds_in_table c.args.table) (said c.args.p) c.requires.well.0) c.if-p-q.true c.if-p-q-2.true))

pub returns-else-p-q-2 : goal.returns-else-p-q-2
returns-else-p-q-2 c = Decides-like c.parted.result (clash_parted c.if-p-q.true) (λ k. ⊎_elim (λ e. absurd (c.if-p-q-2.false e)) (λ s. s) (clash_asks k).1) c.parted.ensures

pub returns-else-p-q : goal.returns-else-p-q
returns-else-p-q c = Decides-at _ false (ne_eqb _ _ c.if-p-q.false) (not_so (λ k. c.if-p-q.false (clash_asks k).0))
