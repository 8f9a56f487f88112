use Rattle.std.proofs.Common.{inr, arith}
use Rattle.finds.specs.Sets.{has}
use Rattle.std.proofs.lemmas.List.{length-map}
use Rattle.seriation.proofs.Growing.{holding, grown_more, grown_torn, staged_all}
use Rattle.trees.proofs.Writing.{same_room, slices_kept}
use Rattle.seriation.proofs.growth.grow_all.Goals as goal

pub change-requires : goal.change-requires
change-requires c = holding c.args.graves c.args.kinds.now c.loop-i.i c.loop-i.count _ _ c.loop-i.invariant.0 (omega (arith, c.requires.room, same_room c.loop-i.invariant.1))

pub returns-in_default : goal.returns-in_default
returns-in_default c =
    let ss = c.args.kinds.now in let m = length-map ss has in
    let g = grown_torn c.args.graves ss c.loop-i.i c.loop-i.count _ _ c.loop-i.invariant.0 _ (omega arith) c.in_default.ensures.changes in
    record { staged = record { stage = g.0; ended = inr (omega arith, g.1) }; same = slices_kept c.loop-i.invariant.1 c.in_default.ensures.same }

pub loop-i-preserved : goal.loop-i-preserved
loop-i-preserved c = (grown_more c.args.graves c.args.kinds.now c.loop-i.i c.loop-i.count _ _ c.loop-i.invariant.0 c.in-Some.more _ (omega arith) c.in-Some.ensures.changes, slices_kept c.loop-i.invariant.1 c.in-Some.ensures.same)

pub returns : goal.returns
returns c = record { staged = staged_all c.args.graves c.args.kinds.now c.loop-i.i c.loop-i.count _ _ c.loop-i.invariant.0 (omega arith); same = c.loop-i.invariant.1 }
