use Rattle.std.proofs.Common.{◌+◌, subst, arith}
use Rattle.trees.proofs.Cells.{parts_len}
use Rattle.changes.specs.Written.{Wrote}
use Rattle.changes.proofs.Fronts.{front_all, part_at}
use Rattle.changes.proofs.Having.{had_all}
use Rattle.changes.proofs.Through.{through_start, through_some, through_at, through_more, through_end, at_is, at_set}
use Rattle.changes.proofs.Writing.{kept_refl, kept_trans, wrote_none, wrote_front, wrote_on}
use Rattle.changes.proofs.Standing.{room_at}
use Rattle.changes.proofs.draft.copies.Goals as goal

pub loop-part-init : goal.loop-part-init
loop-part-init c = (kept_refl _ _, (0, through_start c.into_iter-part-iterator.ensures.into_iter_gives, λ ts p. wrote_none _ _))

pub copy-next-requires : goal.copy-next-requires
copy-next-requires c =
    let s = had_all c.args.parts.stand in
    let i = c.loop-part.invariant.1 in
    let h = c.in-Some.ensures.steps in
    rw (at_set (through_at i.1 h)) (room_at _ _ _ _ s (through_some i.1 h) (i.2 s.trees s.parts) c.requires)

pub loop-part-preserved : goal.loop-part-preserved
loop-part-preserved c =
    let s = had_all c.args.parts.stand in
    let i = c.loop-part.invariant.1 in
    let h = c.in-Some.ensures.steps in
    let l = through_some i.1 h in (
      kept_trans c.loop-part.invariant.0 (wrote_on _ (i.2 s.trees s.parts)) c.copy-next.ensures.kept,
      (i.0 + 1, through_more i.1 h, λ ts p. wrote_front _ ts (omega (arith, parts_len _ _ _ ts p, l)) (i.2 ts p) c.copy-next.ensures.kept (c.copy-next.ensures.copied _ (at_is _ (through_at i.1 h) (part_at _ _ _ ts _ p l)))),
    )

pub returns : goal.returns
returns c =
    let i = c.loop-part.invariant.1 in
    record {
      kept = c.loop-part.invariant.0;
      copied = λ ts p. subst (Wrote _ _ _) (front_all _ ts (omega (arith, parts_len _ _ _ ts p, through_end i.1 c.in-None.ensures.steps.0))) (i.2 ts p);
    }
