use Rattle.std.proofs.Common.{◌≤◌, inl, arith}
use Rattle.std.proofs.lemmas.Result.{IfOk-weaker}
use Rattle.grounds.proofs.Answering.{at_least}
use Rattle.tables.specs.Format.{finds_of, graves_of}
use Rattle.tables.specs.Room.{branches_for}
use Rattle.answers.specs.Seriating.{no_order, turned_away}
use Rattle.answers.proofs.Shown.{at_tree, at_ground, tree_there, ring_shown}
use Rattle.answers.proofs.seriating.seriate_text.Goals as goal

pub invariant_of-tree : goal.invariant_of-tree
invariant_of-tree c =
    let w = c.in-Ok-Tree.ensures.whole in
    let lent : branches_for (graves_of c.args.file.now) ≤ 47 = at_least 47 _ (λ l. w.0.1.0 (inl l)) in
    let kept = c.in-Ok-Tree.ensures.same_rows in
    record { holds = ∣ tree_there _ (finds_of c.args.file.now) _ c.in-Ok-Tree.count _ _ c.view.ensures (at_tree _ _ _ c.in-Ok-Tree.field-0-is w.1) (omega arith) ∣₁ }

pub returns-in_ok-ring_text-in-Ok-Ground : goal.returns-in_ok-ring_text-in-Ok-Ground
returns-in_ok-ring_text-in-Ok-Ground c =
    let w = c.in-Ok-Ground.ensures.whole in
    no_order w.0 (ring_shown (finds_of c.args.file.now) c.in-Ok-Ground.pairs _ _ _ _ (at_ground _ _ _ c.in-Ok-Ground.field-0-is w.1) c.in_ok-ring_text-in-Ok-Ground.ensures c.answered-in-Ok-Ground.ensures)

pub returns-in-Err : goal.returns-in-Err
returns-in-Err c =
    let w = c.in-Err.ensures.whole in
    IfOk-weaker c.turned_away.result _ _ (λ p h. turned_away c.in-Err.refusal w.0 h) c.turned_away.ensures
