use lib.Count.{ones}
use Rattle.std.proofs.Common.{ℕ, ◌+◌, ◌-◌, ◌*◌, ◌<◌, List, length, ap, ◌∙◌, sym, Some, None, arith}
use Rattle.trees.specs.declared.rows.View.{View}
use Rattle.trees.proofs.Finding.{had_standing}
use Rattle.changes.specs.Bunches.{weight}
use Rattle.changes.specs.Draft.{drafted}
use Rattle.changes.specs.Shares.{share}
use Rattle.changes.specs.Written.{Room, laid_at, not_laid}
use Rattle.changes.proofs.Having.{had_all}
use Rattle.changes.proofs.Laying.{part_told, first_stand, middle_stand, last_stand, room_first, room_middle, room_last, lighter, kept_first, kept_all, laid_open, laid_not}
use Rattle.changes.proofs.Openings.{Found, stays_whole, loop_more, loop_end, loop_stuck, opened_kept, so_far, room_next, each_lighter}
use Rattle.changes.proofs.Passing.{grouped, all_found}
use Rattle.changes.proofs.Telling.{told, cell_tells}
use Rattle.changes.proofs.Through.{through_start, through_some, through_at, through_more, through_end, from_part, to_parts, at_set}
use Rattle.changes.proofs.Writing.{kept_refl, wrote_none}
use Rattle.changes.proofs.opening.+laying.Goals as goal

-- ---- parts one behind the other

pub lay_each-loop-part-init : goal.lay_each-loop-part-init
lay_each-loop-part-init t c = (kept_refl _ _, (0, through_start c.into_iter-part-iterator.ensures.into_iter_gives, λ k b w ts p q. laid_at (wrote_none _ _)))

pub lay_each-lay_open-requires : goal.lay_each-lay_open-requires
lay_each-lay_open-requires t c =
    let s = had_all c.args.parts.stand in
    let i = c.loop-part.invariant.1 in
    let a = through_at i.1 c.in-Some.ensures.steps in
    let l = through_some i.1 c.in-Some.ensures.steps in (
      omega (arith, each_lighter c.args.parts.rows _ c.args.mask _ _ s l, c.decreases, ap ones (at_set a)),
      rw (at_set a) (room_next c.args.parts.rows _ _ _ _ s i.2 l c.requires),
    )

pub lay_each-returns-in_err-next-clause-kept : goal.lay_each-returns-in_err-next-clause-kept
lay_each-returns-in_err-next-clause-kept t c =
    opened_kept c.loop-part.invariant.0 (so_far c.args.parts.rows _ _ _ _ (had_all c.args.parts.stand) c.loop-part.invariant.1.2) c.in_err-next.ensures.kept

pub lay_each-returns-in_err-next-clause-opened : goal.lay_each-returns-in_err-next-clause-opened
lay_each-returns-in_err-next-clause-opened t c =
    let i = c.loop-part.invariant.1 in
    let a = through_at i.1 c.in-Some.ensures.steps in
    rw c.from_residual.ensures
    (loop_stuck c.args.parts.rows _ c.args.mask _ _ (through_some i.1 c.in-Some.ensures.steps)
    (from_part (λ (v : View) (n r : ℕ). Found v n c.args.mask r (drafted c.lay_open.new.draft) c.loop-part.next None) a c.in_err-next.ensures.opened))

pub lay_each-loop-part-preserved : goal.lay_each-loop-part-preserved
lay_each-loop-part-preserved t c =
    let i = c.loop-part.invariant.1 in
    let a = through_at i.1 c.in-Some.ensures.steps in (
      opened_kept c.loop-part.invariant.0 (so_far c.args.parts.rows _ _ _ _ (had_all c.args.parts.stand) i.2) c.in_ok-next.ensures.kept,
      (
        _,
        through_more i.1 c.in-Some.ensures.steps,
        loop_more c.args.parts.rows _ c.args.mask _ _ (through_some i.1 c.in-Some.ensures.steps) i.2 c.in_ok-next.ensures.kept
            (from_part (λ (v : View) (n r : ℕ). Found v n c.args.mask r (drafted c.lay_open.new.draft) c.loop-part.next (Some c.in_ok-next.next)) a c.in_ok-next.ensures.opened),
      ),
    )

pub lay_each-returns-clause-opened : goal.lay_each-returns-clause-opened
lay_each-returns-clause-opened t c =
    let i = c.loop-part.invariant.1 in loop_end c.args.parts.rows _ _ _ _ (omega (arith, through_end i.1 c.in-None.ensures.steps.0)) i.2

-- ---- one part

pub lay_open-returns-in-Empty : goal.lay_open-returns-in-Empty
lay_open-returns-in-Empty t c = record {
  kept = c.copy.ensures.kept;
  opened = λ k b w u p s.
      rw (stays_whole k b u c.share_of.result c.in-Empty.is
      (cell_tells k b _ w c.args.part.rows _ _ u p s ∙ ap (λ (x : ℕ). told b (share x c.args.mask)) (sym c.graves.ensures) ∙ sym (ap (told b) c.share_of.ensures)))
      (laid_at (c.copy.ensures.copied u p));
}

pub lay_open-returns-in_err-layout-clause-opened : goal.lay_open-returns-in_err-layout-clause-opened
lay_open-returns-in_err-layout-clause-opened t c = λ k b w u p s. rw c.from_residual.ensures
    (rw (c.in_err-layout.ensures k b w u p s (part_told c.args.part.rows _ _ _ k b w (c.in-Partial.ensures ∙ ap (λ (x : ℕ). share x c.args.mask) c.graves.ensures) u p s)) not_laid)

pub lay_open-of-requires : goal.lay_open-of-requires
lay_open-of-requires t c =
    first_stand c.args.part.rows _ _ _ (c.in-Partial.ensures ∙ ap (λ (x : ℕ). share x c.args.mask) c.graves.ensures) c.in_ok-layout.layout c.in_ok-layout.ensures (had_standing c.args.part.stands) _ c.as_slice.ensures

pub lay_open-group-next-requires : goal.lay_open-group-next-requires
lay_open-group-next-requires t c =
    let e = c.in-Partial.ensures ∙ ap (λ (x : ℕ). share x c.args.mask) c.graves.ensures in
    to_parts (λ (v : View) (n : ℕ) (cs : List ℕ). Room c.args.at (2 * weight v.sets.now cs + 1)) c.of.ensures
    (room_first c.args.part.rows _ _ _ e c.in_ok-layout.layout c.in_ok-layout.ensures (had_standing c.args.part.stands) _ c.as_slice.ensures c.requires)

pub lay_open-of-requires-2 : goal.lay_open-of-requires-2
lay_open-of-requires-2 t c =
    middle_stand c.args.part.rows _ _ _ (c.in-Partial.ensures ∙ ap (λ (x : ℕ). share x c.args.mask) c.graves.ensures) c.in_ok-layout.layout c.in_ok-layout.ensures (had_standing c.args.part.stands) _ c.as_slice-2.ensures

pub lay_open-lay_each-requires : goal.lay_open-lay_each-requires
lay_open-lay_each-requires t c =
    let l = c.in_ok-layout.layout in
    let s = had_standing c.args.part.stands in
    let e = c.in-Partial.ensures ∙ ap (λ (x : ℕ). share x c.args.mask) c.graves.ensures in
    let h = c.in_ok-layout.ensures in
    let f = c.as_slice.ensures in
    let d = c.as_slice-2.ensures in (
      to_parts (λ (v : View) (n : ℕ) (cs : List ℕ). 2 * (weight v.sets.now cs - length cs) + 3 < t) c.of-2.ensures (omega (arith, lighter c.args.part.rows _ _ _ e l h s _ d, c.decreases)),
      to_parts (λ (v : View) (n : ℕ) (cs : List ℕ). Room c.group-next.result (2 * weight v.sets.now cs + 1)) c.of-2.ensures
          (room_middle c.args.part.rows _ _ _ e l h s _ _ f d (grouped c.of.ensures c.group-next.ensures.grouped) c.requires),
    )

pub lay_open-returns-in_err-next-clause-kept : goal.lay_open-returns-in_err-next-clause-kept
lay_open-returns-in_err-next-clause-kept t c =
    let e = c.in-Partial.ensures ∙ ap (λ (x : ℕ). share x c.args.mask) c.graves.ensures in
    kept_first c.args.part.rows _ _ _ e c.in_ok-layout.layout c.in_ok-layout.ensures (had_standing c.args.part.stands) _ _ c.as_slice.ensures c.as_slice-2.ensures
    (grouped c.of.ensures c.group-next.ensures.grouped) c.group-next.ensures.kept c.in_err-next.ensures.kept

pub lay_open-returns-in_err-next-clause-opened : goal.lay_open-returns-in_err-next-clause-opened
lay_open-returns-in_err-next-clause-opened t c =
    let e = c.in-Partial.ensures ∙ ap (λ (x : ℕ). share x c.args.mask) c.graves.ensures in
    rw c.from_residual-in_err-next.ensures
    (laid_not c.args.part.rows _ _ _ e c.in_ok-layout.layout c.in_ok-layout.ensures c.args.at _ c.as_slice-2.ensures (all_found c.of-2.ensures c.in_err-next.ensures.opened))

pub lay_open-of-requires-3 : goal.lay_open-of-requires-3
lay_open-of-requires-3 t c =
    last_stand c.args.part.rows _ _ _ (c.in-Partial.ensures ∙ ap (λ (x : ℕ). share x c.args.mask) c.graves.ensures) c.in_ok-layout.layout c.in_ok-layout.ensures (had_standing c.args.part.stands) _ c.as_slice-3.ensures

pub lay_open-group-requires : goal.lay_open-group-requires
lay_open-group-requires t c =
    let e = c.in-Partial.ensures ∙ ap (λ (x : ℕ). share x c.args.mask) c.graves.ensures in
    to_parts (λ (v : View) (n : ℕ) (cs : List ℕ). Room c.in_ok-next.next (2 * weight v.sets.now cs + 1)) c.of-3.ensures
    (room_last c.args.part.rows _ _ _ e c.in_ok-layout.layout c.in_ok-layout.ensures (had_standing c.args.part.stands) _ _ c.as_slice.ensures c.as_slice-2.ensures
    (grouped c.of.ensures c.group-next.ensures.grouped) c.requires (all_found c.of-2.ensures c.in_ok-next.ensures.opened) _ c.as_slice-3.ensures)

pub lay_open-returns-clause-kept : goal.lay_open-returns-clause-kept
lay_open-returns-clause-kept t c =
    let e = c.in-Partial.ensures ∙ ap (λ (x : ℕ). share x c.args.mask) c.graves.ensures in
    kept_all c.args.part.rows _ _ _ e c.in_ok-layout.layout c.in_ok-layout.ensures (had_standing c.args.part.stands) _ _ c.as_slice.ensures c.as_slice-2.ensures
    (grouped c.of.ensures c.group-next.ensures.grouped) (all_found c.of-2.ensures c.in_ok-next.ensures.opened) c.group-next.ensures.kept c.in_ok-next.ensures.kept c.group.ensures.kept

pub lay_open-returns-clause-opened : goal.lay_open-returns-clause-opened
lay_open-returns-clause-opened t c =
    let e = c.in-Partial.ensures ∙ ap (λ (x : ℕ). share x c.args.mask) c.graves.ensures in
    laid_open c.args.part.rows _ _ _ e c.in_ok-layout.layout c.in_ok-layout.ensures _ _ _ c.as_slice.ensures c.as_slice-2.ensures c.as_slice-3.ensures
    (grouped c.of.ensures c.group-next.ensures.grouped) c.in_ok-next.ensures.kept (all_found c.of-2.ensures c.in_ok-next.ensures.opened) c.group.ensures.kept
    (grouped c.of-3.ensures c.group.ensures.grouped)
