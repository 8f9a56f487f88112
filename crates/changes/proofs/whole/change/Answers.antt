use Rattle.std.proofs.Common.{sym, subst, arith}
use Rattle.trees.specs.Cells.{Lent, held, Holds}
use Rattle.trees.specs.Rows.{lent_rows}
use Rattle.trees.proofs.Writing.{same_room}
use Rattle.changes.specs.Draft.{drafted}
use Rattle.changes.specs.Whole.{Holding}
use Rattle.changes.proofs.Changing.{whole_tree, first_set, few_changes, none_changes, made_cells, made_changes}
use Rattle.changes.proofs.whole.change.Goals as goal

pub bounds-rows-0 : goal.bounds-rows-0
bounds-rows-0 c = first_set c.requires c.args.kind

pub returns-then-ties_nothing-clause-changes : goal.returns-then-ties_nothing-clause-changes
returns-then-ties_nothing-clause-changes c = few_changes c.requires c.args.kind (c.ties_nothing.ensures.few c.if-ties_nothing.true)

pub invariant_of-tree : goal.invariant_of-tree
invariant_of-tree c = record { holds = ∣ whole_tree c.view.result c.args.count (subst (λ (r : Lent). Holding r c.args.count) (sym c.view.ensures) c.requires) ∣₁ }

pub returns-in_default-clause-changes : goal.returns-in_default-clause-changes
returns-in_default-clause-changes c =
    none_changes c.requires c.args.kind (c.ties_nothing.ensures.many c.if-ties_nothing.false) (drafted c.redraw.new.draft)
    (λ t h. c.in_default.ensures t (subst (λ (r : Lent). Holds (held r) c.args.count t) (sym c.view.ensures) h))

pub back-requires-clause-room : goal.back-requires-clause-room
back-requires-clause-room c =
    omega (
      arith,
      made_cells c.requires c.args.kind (c.ties_nothing.ensures.many c.if-ties_nothing.false) (drafted c.redraw.new.draft) c.in-Some.count
          (λ t h. c.in-Some.ensures t (subst (λ (r : Lent). Holds (held r) c.args.count t) (sym c.view.ensures) h)),
    )

pub back-requires-clause-long : goal.back-requires-clause-long
back-requires-clause-long c =
    omega (
      arith,
      c.requires.room,
      made_cells c.requires c.args.kind (c.ties_nothing.ensures.many c.if-ties_nothing.false) (drafted c.redraw.new.draft) c.in-Some.count
          (λ t h. c.in-Some.ensures t (subst (λ (r : Lent). Holds (held r) c.args.count t) (sym c.view.ensures) h)),
    )

pub returns-clause-changes : goal.returns-clause-changes
returns-clause-changes c =
    made_changes c.requires c.args.kind (c.ties_nothing.ensures.many c.if-ties_nothing.false) (drafted c.redraw.new.draft) c.in-Some.count
    (λ t h. c.in-Some.ensures t (subst (λ (r : Lent). Holds (held r) c.args.count t) (sym c.view.ensures) h))
    (lent_rows c.back.new.rows)
    c.back.ensures.kept
    c.back.ensures.rest
    (same_room c.back.ensures.same)
