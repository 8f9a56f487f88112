use Rattle.std.proofs.Common.{◌+◌, ◌-◌, arith}
use Rattle.trees.specs.Rows.{seen}
use Rattle.trees.proofs.Checking.{tree_in_few}
use Rattle.trees.proofs.Finding.{had_tree}
use Rattle.changes.specs.Draft.{drafted}
use Rattle.changes.proofs.Redrawing.{tree_parents}
use Rattle.changes.proofs.Shifting.{shifted_more}
use Rattle.changes.proofs.Writing.{kept_trans}
use Rattle.changes.proofs.splice.behind.Goals as goal
use Rattle.changes.proofs.splice.behind.Goals.{then-parent-end, else-parent-end}

pub loop-x-preserved : goal.loop-x-preserved
loop-x-preserved c =
    let h = c.put.ensures.there in
    let p = h.parent_is in (
      kept_trans c.loop-x.invariant.0 (omega arith) c.put.ensures.kept,
      shifted_more (seen c.args.tree.rows) (drafted c.loop-x.draft) (drafted c.put.new.draft) c.args.end c.loop-x.x c.args.at (c.args.at + (c.loop-x.x - c.args.end)) (omega arith)
          c.loop-x.invariant.1
          c.put.ensures.kept
          (record {
            outer = λ l. elim c.if-parent-end.branch [ then-parent-end w ↦ omega (arith, p, w.moved-is) | else-parent-end w ↦ omega (arith, w.if-parent-end.false) ];
            inner = λ l. elim c.if-parent-end.branch [ then-parent-end w ↦ omega (arith, w.if-parent-end.true) | else-parent-end w ↦ omega (arith, p, w.moved-is) ];
            sort = h.sort_is;
            place = h.place_is;
            set = h.set_is;
          }),
    )

pub returns-clause-shifted : goal.returns-clause-shifted
returns-clause-shifted c = λ x y h l w. c.loop-x.invariant.1 x y h (omega arith) w

pub overflow_cast-moved-else-parent-end : goal.overflow_cast-moved-else-parent-end
overflow_cast-moved-else-parent-end c =
    omega (arith, tree_parents (had_tree c.args.tree.holds) c.loop-x.x c.loop-x-test.true, c.loop-x.auto.x, c.loop-x-test.true, c.requires.room, c.if-parent-end.false)

pub bounds-rows-x-in-loop-x : goal.bounds-rows-x-in-loop-x
bounds-rows-x-in-loop-x c = omega (arith, c.loop-x-test.true, (had_tree c.args.tree.holds).long.places_long)

pub bounds-rows-x-in-loop-x-2 : goal.bounds-rows-x-in-loop-x-2
bounds-rows-x-in-loop-x-2 c = omega (arith, c.loop-x-test.true, (had_tree c.args.tree.holds).long.sorts_long)

pub offset_bounds-rows-x : goal.offset_bounds-rows-x
offset_bounds-rows-x c = omega (arith, c.loop-x-test.true, tree_in_few (had_tree c.args.tree.holds))

pub bounds-rows-x-in-loop-x-3 : goal.bounds-rows-x-in-loop-x-3
bounds-rows-x-in-loop-x-3 c = omega (arith, c.loop-x-test.true, (had_tree c.args.tree.holds).long.sets_long)
