use Rattle.std.proofs.Common.{rules, refl, arith}
use Rattle.trees.proofs.Starting.{graves_more}
use Rattle.trees.proofs.Writing.{same_room, slices_kept}
use Rattle.trees.proofs.first.put_graves.Goals as goal

pub loop-g-init : goal.loop-g-init
loop-g-init c = (record { lie = tt; set_is = refl; kept = record { parents = refl; sorts = refl; places = refl; sets = refl } }, search rules)

pub put-requires : goal.put-requires
put-requires c = omega (arith, c.loop-g-test.true, c.requires.room, same_room c.loop-g.invariant.1)

pub loop-g-preserved : goal.loop-g-preserved
loop-g-preserved c = (
  graves_more c.loop-g.invariant.0 c.grave_cell-cell.ensures
      (record { parents = c.put.ensures.parents_after; sorts = c.put.ensures.sorts_after; places = c.put.ensures.places_after; sets = c.put.ensures.sets_after })
      (omega (arith, c.loop-g-test.true, c.requires.room, same_room c.loop-g.invariant.1)),
  slices_kept c.loop-g.invariant.1 c.put.ensures.same,
)
