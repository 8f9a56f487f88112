use Rattle.std.proofs.Common.{ℕ, ◌*◌, List, sym, refl, ◌∙◌, arith}
use Rattle.std.proofs.lemmas.Bool.{eqb-true, eqb-false}
use Rattle.finds.specs.Sets.{has}
use Rattle.pqtree.specs.Status.{part, full, sel}
use Rattle.pqtree.specs.Change.{cut_middle}
use Rattle.trees.specs.Cells.{kids}
use Rattle.trees.specs.declared.rows.View.{View}
use Rattle.trees.proofs.Finding.{had_standing}
use Rattle.trees.proofs.Sets.{sound_kids}
use Rattle.trees.proofs.Standing.{kids_set}
use Rattle.changes.specs.Bunches.{weight}
use Rattle.changes.specs.Written.{Room}
use Rattle.changes.proofs.AnyParts.{join_none, rebuilt_join, bare_parts, partial_parts, full_parts, bare_stand, partial_stand, full_stand, two_heavy, room_heavy, room_bares, room_joined, some_bare, none_bare}
use Rattle.changes.proofs.Passing.{apart_lying, lying_are, copied_all}
use Rattle.changes.proofs.Rebuilding.{room_inside}
use Rattle.changes.proofs.Through.{to_parts}
use Rattle.changes.proofs.Writing.{kept_trans, kept_inside, wrote_on}
use Rattle.changes.proofs.templates.any_part.Goals as goal

pub of-partials-requires : goal.of-partials-requires
of-partials-requires c =
    let a = apart_lying c.of.ensures c.set_apart.ensures in
    partial_stand c.args.part c.as_slice.ensures c.branches_of-cells.ensures.branches a _ c.as_slice-2.ensures

pub of-fulls-requires : goal.of-fulls-requires
of-fulls-requires c =
    let a = apart_lying c.of.ensures c.set_apart.ensures in
    full_stand c.args.part c.as_slice.ensures c.branches_of-cells.ensures.branches a _ c.as_slice-3.ensures

pub bind-requires-clause-two : goal.bind-requires-clause-two
bind-requires-clause-two c =
    let a = apart_lying c.of.ensures c.set_apart.ensures in
    two_heavy c.args.part c.as_slice.ensures c.branches_of-cells.ensures.branches a c.requires.any c.requires.heavy _ _ (c.of-partials.ensures.cells ∙ c.as_slice-2.ensures) (c.of-fulls.ensures.cells ∙ c.as_slice-3.ensures)

pub bind-requires-clause-room : goal.bind-requires-clause-room
bind-requires-clause-room c =
    let a = apart_lying c.of.ensures c.set_apart.ensures in
    rw (c.of-partials.ensures.rows, c.of-fulls.ensures.rows)
    (room_heavy c.args.part c.as_slice.ensures c.branches_of-cells.ensures.branches a c.requires.any c.requires.heavy _ _ (c.of-partials.ensures.cells ∙ c.as_slice-2.ensures) (c.of-fulls.ensures.cells ∙ c.as_slice-3.ensures) _ c.requires.room)

pub returns-then-is_empty-clause-rebuilt : goal.returns-then-is_empty-clause-rebuilt
returns-then-is_empty-clause-rebuilt c = λ t p q.
    let a = apart_lying c.of.ensures c.set_apart.ensures in
    rw (none_bare c.args.part c.as_slice.ensures c.branches_of-cells.ensures.branches a (eqb-true _ 0 (sym c.if-is_empty.ensures)) t p q, ← join_none (cut_middle (has c.args.kind) (sel (has c.args.kind) part (kids t)) (sel (has c.args.kind) full (kids t))))
    (c.bind.ensures.bound (kids t)
    (lying_are c.of-partials.ensures _ (partial_parts c.args.part c.as_slice.ensures c.branches_of-cells.ensures.branches a _ c.as_slice-2.ensures t p q))
    (lying_are c.of-fulls.ensures _ (full_parts c.args.part c.as_slice.ensures c.branches_of-cells.ensures.branches a _ c.as_slice-3.ensures t p q)) (sound_kids t q))

pub of-bares-requires : goal.of-bares-requires
of-bares-requires c =
    let a = apart_lying c.of.ensures c.set_apart.ensures in
    bare_stand c.args.part c.as_slice.ensures c.branches_of-cells.ensures.branches a _ c.as_slice-4.ensures

pub copies-next-requires : goal.copies-next-requires
copies-next-requires c =
    let a = apart_lying c.of.ensures c.set_apart.ensures in
    to_parts (λ (v : View) (n : ℕ) (cs : List ℕ). Room c.inside.result (2 * weight v.sets.now cs)) c.of-bares.ensures
    (room_bares c.args.part c.as_slice.ensures c.branches_of-cells.ensures.branches a c.requires.any c.requires.heavy _ _ refl refl (room_inside c.args.at _ c.inside.ensures c.requires.room) _ c.as_slice-4.ensures)

pub bind-requires-2-clause-two : goal.bind-requires-2-clause-two
bind-requires-2-clause-two c =
    let a = apart_lying c.of.ensures c.set_apart.ensures in
    two_heavy c.args.part c.as_slice.ensures c.branches_of-cells.ensures.branches a c.requires.any c.requires.heavy _ _ (c.of-partials.ensures.cells ∙ c.as_slice-2.ensures) (c.of-fulls.ensures.cells ∙ c.as_slice-3.ensures)

pub bind-requires-2-clause-room : goal.bind-requires-2-clause-room
bind-requires-2-clause-room c =
    let a = apart_lying c.of.ensures c.set_apart.ensures in
    rw (c.of-partials.ensures.rows, c.of-fulls.ensures.rows)
    (room_joined c.args.part c.as_slice.ensures c.branches_of-cells.ensures.branches a c.requires.any c.requires.heavy _ _ (c.of-partials.ensures.cells ∙ c.as_slice-2.ensures) (c.of-fulls.ensures.cells ∙ c.as_slice-3.ensures) (room_inside c.args.at _ c.inside.ensures c.requires.room) (omega (arith, eqb-false _ 0 (sym c.if-is_empty.ensures))) _ c.as_slice-4.ensures (copied_all c.of-bares.ensures c.copies-next.ensures.copied))

pub returns-clause-kept : goal.returns-clause-kept
returns-clause-kept c =
    let a = apart_lying c.of.ensures c.set_apart.ensures in
    let s = had_standing c.args.part.stands in
    let on = wrote_on _ (copied_all c.of-bares.ensures c.copies-next.ensures.copied _ (bare_parts c.args.part c.as_slice.ensures c.branches_of-cells.ensures.branches a _ c.as_slice-4.ensures s.tree s.part s.sound)) in
    kept_inside c.args.at c.inside.ensures (kept_trans c.copies-next.ensures.kept on c.bind-2.ensures.kept) c.put.ensures.kept

pub returns-clause-rebuilt : goal.returns-clause-rebuilt
returns-clause-rebuilt c = λ t p q.
    let a = apart_lying c.of.ensures c.set_apart.ensures in
    let w = copied_all c.of-bares.ensures c.copies-next.ensures.copied _ (bare_parts c.args.part c.as_slice.ensures c.branches_of-cells.ensures.branches a _ c.as_slice-4.ensures t p q) in
    rebuilt_join c.args.at (has c.args.kind) (kids t) (sound_kids t q) c.inside.ensures c.put.ensures.there (c.graves.ensures ∙ (kids_set _ _ t p.0 (omega (arith, c.requires.any))).0)
    (kept_trans c.copies-next.ensures.kept (wrote_on _ w) c.bind-2.ensures.kept)
    (some_bare c.args.part c.as_slice.ensures c.branches_of-cells.ensures.branches a (omega (arith, eqb-false _ 0 (sym c.if-is_empty.ensures))) t p q) w c.bind-2.ensures.kept _
    (c.bind-2.ensures.bound (kids t)
    (lying_are c.of-partials.ensures _ (partial_parts c.args.part c.as_slice.ensures c.branches_of-cells.ensures.branches a _ c.as_slice-2.ensures t p q))
    (lying_are c.of-fulls.ensures _ (full_parts c.args.part c.as_slice.ensures c.branches_of-cells.ensures.branches a _ c.as_slice-3.ensures t p q)) (sound_kids t q))
