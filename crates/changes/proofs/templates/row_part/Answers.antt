use Rattle.std.proofs.Common.{ℕ, ◌+◌, ◌*◌, ◌∙◌, false, List, get_or, Some, None, arith}
use lib.Count.{ones}
use Rattle.finds.specs.Sets.{has}
use Rattle.trees.specs.Cells.{kids}
use Rattle.trees.specs.declared.rows.View.{View}
use Rattle.trees.proofs.Sets.{sound_kids}
use Rattle.trees.proofs.Standing.{kids_set}
use Rattle.changes.specs.Bunches.{weight}
use Rattle.changes.specs.Written.{Room}
use Rattle.changes.proofs.Keeping.{keeps_cut}
use Rattle.changes.proofs.Passing.{first_lying, copied_all, row_found, front_lying, behind_lying, to_one, one_found}
use Rattle.changes.proofs.Rebuilding.{room_inside, rebuilt_none, rebuilt_row}
use Rattle.changes.proofs.RowParts.{is_torn, room_before, room_next, room_behind, kept_before, kept_next, cut_stuck, cut_opened}
use Rattle.changes.proofs.Telling.{mask_not}
use Rattle.changes.proofs.Through.{to_parts}
use Rattle.changes.proofs.Writing.{kept_inside}
use Rattle.changes.proofs.templates.row_part.Goals as goal

pub returns-in_err-x-clause-rebuilt : goal.returns-in_err-x-clause-rebuilt
returns-in_err-x-clause-rebuilt c = λ t p q.
    let e = first_lying c.of-branches.ensures c.args.kind None c.in_err-x.ensures in
    rw (c.from_residual.ensures, is_torn c.args.part c.as_slice.ensures c.branches_of-cells.ensures.branches e (omega arith) t p q) tt

pub copies-next-requires : goal.copies-next-requires
copies-next-requires c =
    let f = first_lying c.of-branches.ensures c.args.kind (Some c.in_ok-x.x) c.in_ok-x.ensures in
    to_parts (λ (v : View) (n : ℕ) (cs : List ℕ). Room c.inside.result (2 * weight v.sets.now cs)) (front_lying c.of-branches.ensures _ c.front.ensures)
    (room_before c.args.part c.as_slice.ensures c.branches_of-cells.ensures.branches f.1 c.requires.row
    (room_inside c.args.at _ c.inside.ensures c.requires.room) f.0)

pub lay_open-requires : goal.lay_open-requires
lay_open-requires c =
    let f = first_lying c.of-branches.ensures c.args.kind (Some c.in_ok-x.x) c.in_ok-x.ensures in
    to_one c.of-branches.ensures (λ (v : View) (n r : ℕ). Room c.copies-next.result (2 * ones (get_or v.sets.now r 0) + 1)) c.at.ensures
    (room_next c.args.part c.as_slice.ensures c.branches_of-cells.ensures.branches f.1 c.requires.row
    (room_inside c.args.at _ c.inside.ensures c.requires.room) f.0 (copied_all (front_lying c.of-branches.ensures _ c.front.ensures) c.copies-next.ensures.copied))

pub returns-in_err-next-clause-kept : goal.returns-in_err-next-clause-kept
returns-in_err-next-clause-kept c =
    let f = first_lying c.of-branches.ensures c.args.kind (Some c.in_ok-x.x) c.in_ok-x.ensures in
    kept_inside c.args.at c.inside.ensures
    (kept_before c.args.part c.as_slice.ensures c.branches_of-cells.ensures.branches f.1 c.requires.row
    (room_inside c.args.at _ c.inside.ensures c.requires.room) f.0 (copied_all (front_lying c.of-branches.ensures _ c.front.ensures) c.copies-next.ensures.copied) c.copies-next.ensures.kept c.in_err-next.ensures.kept)
    c.put.ensures.kept

pub returns-in_err-next-clause-rebuilt : goal.returns-in_err-next-clause-rebuilt
returns-in_err-next-clause-rebuilt c = λ t p q.
    let f = first_lying c.of-branches.ensures c.args.kind (Some c.in_ok-x.x) c.in_ok-x.ensures in
    rw c.from_residual-in_err-next.ensures
    (rebuilt_none c.args.at
    (cut_stuck c.args.part c.as_slice.ensures c.branches_of-cells.ensures.branches f.1 f.0 (copied_all (front_lying c.of-branches.ensures _ c.front.ensures) c.copies-next.ensures.copied)
    c.in_err-next.ensures.kept (one_found c.of-branches.ensures c.at.ensures c.in_err-next.ensures.opened) t p q))

pub lay_all-requires : goal.lay_all-requires
lay_all-requires c =
    let f = first_lying c.of-branches.ensures c.args.kind (Some c.in_ok-x.x) c.in_ok-x.ensures in
    to_parts (λ (v : View) (n : ℕ) (cs : List ℕ). Room c.in_ok-next.next (2 * weight v.sets.now cs + 1)) (behind_lying c.of-branches.ensures _ c.behind.ensures)
    (room_behind c.args.part c.as_slice.ensures c.branches_of-cells.ensures.branches f.1 c.requires.row
    (room_inside c.args.at _ c.inside.ensures c.requires.room) f.0 (copied_all (front_lying c.of-branches.ensures _ c.front.ensures) c.copies-next.ensures.copied)
    (one_found c.of-branches.ensures c.at.ensures c.in_ok-next.ensures.opened))

pub returns-in_err-end-clause-kept : goal.returns-in_err-end-clause-kept
returns-in_err-end-clause-kept c =
    let f = first_lying c.of-branches.ensures c.args.kind (Some c.in_ok-x.x) c.in_ok-x.ensures in
    kept_inside c.args.at c.inside.ensures
    (kept_next c.args.part c.as_slice.ensures c.branches_of-cells.ensures.branches f.1 c.requires.row
    (room_inside c.args.at _ c.inside.ensures c.requires.room) f.0 (copied_all (front_lying c.of-branches.ensures _ c.front.ensures) c.copies-next.ensures.copied)
    (one_found c.of-branches.ensures c.at.ensures c.in_ok-next.ensures.opened) c.copies-next.ensures.kept c.in_ok-next.ensures.kept c.in_err-end.ensures.kept)
    c.put.ensures.kept

pub returns-in_err-end-clause-rebuilt : goal.returns-in_err-end-clause-rebuilt
returns-in_err-end-clause-rebuilt c = λ t p q.
    let f = first_lying c.of-branches.ensures c.args.kind (Some c.in_ok-x.x) c.in_ok-x.ensures in
    let z = c.in_err-end.ensures in
    rw c.from_residual-in_err-end.ensures
    (rebuilt_none c.args.at
    (cut_opened c.args.part c.as_slice.ensures c.branches_of-cells.ensures.branches f.1 f.0 (copied_all (front_lying c.of-branches.ensures _ c.front.ensures) c.copies-next.ensures.copied)
    c.in_ok-next.ensures.kept (one_found c.of-branches.ensures c.at.ensures c.in_ok-next.ensures.opened) z.kept
    (row_found (behind_lying c.of-branches.ensures _ c.behind.ensures) (z.opened (has c.args.kind) false (mask_not c.args.kind (omega arith)))) t p q))

pub returns-clause-kept : goal.returns-clause-kept
returns-clause-kept c =
    let f = first_lying c.of-branches.ensures c.args.kind (Some c.in_ok-x.x) c.in_ok-x.ensures in
    kept_inside c.args.at c.inside.ensures
    (kept_next c.args.part c.as_slice.ensures c.branches_of-cells.ensures.branches f.1 c.requires.row
    (room_inside c.args.at _ c.inside.ensures c.requires.room) f.0 (copied_all (front_lying c.of-branches.ensures _ c.front.ensures) c.copies-next.ensures.copied)
    (one_found c.of-branches.ensures c.at.ensures c.in_ok-next.ensures.opened) c.copies-next.ensures.kept c.in_ok-next.ensures.kept c.in_ok-end.ensures.kept)
    c.put.ensures.kept

pub returns-clause-rebuilt : goal.returns-clause-rebuilt
returns-clause-rebuilt c = λ t p q.
    let f = first_lying c.of-branches.ensures c.args.kind (Some c.in_ok-x.x) c.in_ok-x.ensures in
    let w = copied_all (front_lying c.of-branches.ensures _ c.front.ensures) c.copies-next.ensures.copied in
    let o = one_found c.of-branches.ensures c.at.ensures c.in_ok-next.ensures.opened in
    let z = c.in_ok-end.ensures in
    rebuilt_row c.args.at (kids t) c.inside.ensures
    (kept_next c.args.part c.as_slice.ensures c.branches_of-cells.ensures.branches f.1 c.requires.row
    (room_inside c.args.at _ c.inside.ensures c.requires.room) f.0 w o c.copies-next.ensures.kept c.in_ok-next.ensures.kept z.kept)
    c.put.ensures.there (c.graves.ensures ∙ (kids_set _ _ t p.0 (omega (arith, c.requires.row))).0) (keeps_cut (has c.args.kind) (kids t) (sound_kids t q).good)
    (cut_opened c.args.part c.as_slice.ensures c.branches_of-cells.ensures.branches f.1 f.0 w c.in_ok-next.ensures.kept o z.kept
    (row_found (behind_lying c.of-branches.ensures _ c.behind.ensures) (z.opened (has c.args.kind) false (mask_not c.args.kind (omega arith)))) t p q)
