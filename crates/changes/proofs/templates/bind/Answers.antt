use Rattle.std.proofs.Common.{ℕ, ◌+◌, ◌*◌, false, List, length, get_or, sym, ◌∙◌, arith}
use Rattle.std.proofs.lemmas.Bool.{eqb-true}
use lib.Count.{ones}
use Rattle.finds.specs.Branches.{◌+++◌}
use Rattle.finds.specs.Sets.{has}
use Rattle.pqtree.specs.Status.{part, full, sel}
use Rattle.trees.specs.declared.rows.View.{View}
use Rattle.trees.proofs.Cells.{parts_len}
use Rattle.changes.specs.Bunches.{weight}
use Rattle.changes.specs.Written.{Room}
use Rattle.changes.proofs.Layouts.{sel_sounds}
use Rattle.changes.proofs.Middles.{sel_middle, no_middle, keeps_middle, middle_set, middle_stuck, middle_opened, room_one, room_fulls, room_rest, kept_two}
use Rattle.changes.proofs.Passing.{row_found, at_found}
use Rattle.changes.proofs.Rebuilding.{room_inside, rebuilt_none, rebuilt_row}
use Rattle.changes.proofs.Standing.{parts_union}
use Rattle.changes.proofs.Telling.{mask_not}
use Rattle.changes.proofs.Through.{to_part, to_parts}
use Rattle.changes.proofs.Writing.{kept_inside, lies_any}
use Rattle.changes.proofs.templates.bind.Goals as goal

pub returns-then-is_empty-clause-bound : goal.returns-then-is_empty-clause-bound
returns-then-is_empty-clause-bound c = λ ts p q s.
    rw (no_middle (has c.args.kind) (sel (has c.args.kind) part ts) (sel (has c.args.kind) full ts) (sym (parts_len _ _ _ (sel (has c.args.kind) part ts) p) ∙ eqb-true (length c.args.partials.cells.now) 0 (sym c.if-is_empty.ensures)))
    (lies_any c.args.at c.inside.ensures c.copies-end.ensures.kept (sel (has c.args.kind) full ts) (c.union.ensures ∙ parts_union c.args.fulls.rows _ _ _ q)
    (c.copies-end.ensures.copied _ q) c.put.ensures.there)

pub lay_open-requires : goal.lay_open-requires
lay_open-requires c =
    to_part (λ (v : View) (n r : ℕ). Room c.inside-2.result (2 * ones (get_or v.sets.now r 0) + 1)) c.at.ensures
    (room_one c.args.kind c.args.partials c.args.fulls c.if-is_empty.ensures (room_inside c.args.at _ c.inside-2.ensures c.requires.room) c.requires.two)

pub returns-in_err-next-clause-bound : goal.returns-in_err-next-clause-bound
returns-in_err-next-clause-bound c = λ ts p q s.
    let o = at_found c.at.ensures c.in_err-next.ensures.opened in
    rw (c.from_residual.ensures, sel_middle c.args.kind c.args.partials c.args.fulls c.if-is_empty.ensures ts s p)
    (rebuilt_none c.args.at (middle_stuck c.args.kind c.args.partials c.args.fulls c.if-is_empty.ensures o (sel (has c.args.kind) part ts) (sel (has c.args.kind) full ts) p (sel_sounds (has c.args.kind) part ts s)))

pub group-next-requires : goal.group-next-requires
group-next-requires c =
    room_fulls c.args.kind c.args.partials c.args.fulls c.if-is_empty.ensures (room_inside c.args.at _ c.inside-2.ensures c.requires.room)
    (at_found c.at.ensures c.in_ok-next.ensures.opened)

pub lay_all-requires : goal.lay_all-requires
lay_all-requires c =
    to_parts (λ (v : View) (n : ℕ) (cs : List ℕ). Room c.group-next.result (2 * weight v.sets.now cs + 1)) c.behind.ensures
    (room_rest c.args.kind c.args.partials c.args.fulls c.if-is_empty.ensures (room_inside c.args.at _ c.inside-2.ensures c.requires.room)
    (at_found c.at.ensures c.in_ok-next.ensures.opened) c.group-next.ensures.grouped)

pub returns-in_err-end-clause-kept : goal.returns-in_err-end-clause-kept
returns-in_err-end-clause-kept c =
    kept_inside c.args.at c.inside-2.ensures
    (kept_two c.args.kind c.args.partials c.args.fulls c.if-is_empty.ensures (room_inside c.args.at _ c.inside-2.ensures c.requires.room)
    (at_found c.at.ensures c.in_ok-next.ensures.opened) c.group-next.ensures.grouped c.in_ok-next.ensures.kept c.group-next.ensures.kept c.in_err-end.ensures.kept)
    c.put-2.ensures.kept

pub returns-in_err-end-clause-bound : goal.returns-in_err-end-clause-bound
returns-in_err-end-clause-bound c = λ ts p q s.
    let z = c.in_err-end.ensures in
    rw (c.from_residual-in_err-end.ensures, sel_middle c.args.kind c.args.partials c.args.fulls c.if-is_empty.ensures ts s p)
    (rebuilt_none c.args.at
    (middle_opened c.args.kind c.args.partials c.args.fulls c.if-is_empty.ensures (at_found c.at.ensures c.in_ok-next.ensures.opened) c.group-next.ensures.kept c.group-next.ensures.grouped z.kept
    (row_found c.behind.ensures (z.opened (has c.args.kind) false (mask_not c.args.kind (omega arith))))
    (sel (has c.args.kind) part ts) (sel (has c.args.kind) full ts) p (sel_sounds (has c.args.kind) part ts s) q))

pub returns-clause-kept : goal.returns-clause-kept
returns-clause-kept c =
    kept_inside c.args.at c.inside-2.ensures
    (kept_two c.args.kind c.args.partials c.args.fulls c.if-is_empty.ensures (room_inside c.args.at _ c.inside-2.ensures c.requires.room)
    (at_found c.at.ensures c.in_ok-next.ensures.opened) c.group-next.ensures.grouped c.in_ok-next.ensures.kept c.group-next.ensures.kept c.in_ok-end.ensures.kept)
    c.put-2.ensures.kept

pub returns-clause-bound : goal.returns-clause-bound
returns-clause-bound c = λ ts p q s.
    let o = at_found c.at.ensures c.in_ok-next.ensures.opened in
    let z = c.in_ok-end.ensures in
    rw (sel_middle c.args.kind c.args.partials c.args.fulls c.if-is_empty.ensures ts s p)
    (rebuilt_row c.args.at (sel (has c.args.kind) full ts +++ sel (has c.args.kind) part ts) c.inside-2.ensures
    (kept_two c.args.kind c.args.partials c.args.fulls c.if-is_empty.ensures (room_inside c.args.at _ c.inside-2.ensures c.requires.room)
    o c.group-next.ensures.grouped c.in_ok-next.ensures.kept c.group-next.ensures.kept z.kept)
    c.put-2.ensures.there (middle_set _ _ c.args.partials c.args.fulls _ _ p q c.union-2.ensures c.union-3.ensures)
    (keeps_middle (has c.args.kind) (sel (has c.args.kind) part ts) (sel (has c.args.kind) full ts) (sel_sounds (has c.args.kind) part ts s).good (sel_sounds (has c.args.kind) full ts s).good)
    (middle_opened c.args.kind c.args.partials c.args.fulls c.if-is_empty.ensures o c.group-next.ensures.kept c.group-next.ensures.grouped z.kept
    (row_found c.behind.ensures (z.opened (has c.args.kind) false (mask_not c.args.kind (omega arith))))
    (sel (has c.args.kind) part ts) (sel (has c.args.kind) full ts) p (sel_sounds (has c.args.kind) part ts s) q))
