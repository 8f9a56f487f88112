use Rattle.std.proofs.Common.{refl, ◌∙◌, arith}
use Rattle.finds.specs.Trees.{any}
use Rattle.trees.proofs.Cells.{parts_len}
use Rattle.changes.proofs.Having.{had_all}
use Rattle.changes.proofs.Writing.{kept_inside, lies_any, lies_wrote}
use Rattle.changes.proofs.Standing.{stand_weight, parts_union, group_few, group_many}
use Rattle.changes.proofs.draft.group.Goals as goal

pub returns-then-parts-lt2 : goal.returns-then-parts-lt2
returns-then-parts-lt2 c = record {
  kept = c.copies.ensures.kept;
  grouped = λ ts p. rw (group_few ts (omega (arith, parts_len _ _ _ ts p, c.if-parts-lt2.true))) (c.copies.ensures.copied ts p);
}

pub overflow_add-result : goal.overflow_add-result
overflow_add-result c = omega (arith, stand_weight _ _ _ (had_all c.args.parts.stand), c.if-parts-lt2.false, c.requires.fits, c.requires.few)

pub returns : goal.returns
returns c = record {
  kept = kept_inside c.args.at c.inside.ensures c.copies-end.ensures.kept c.put.ensures.kept;
  grouped = λ ts p.
      rw (group_many ts (omega (arith, parts_len _ _ _ ts p, c.if-parts-lt2.false)))
      (lies_wrote (any ts)
      (lies_any c.args.at c.inside.ensures c.copies-end.ensures.kept ts (c.union.ensures ∙ parts_union c.args.parts.rows _ _ ts p) (c.copies-end.ensures.copied ts p) c.put.ensures.there) refl refl);
}
