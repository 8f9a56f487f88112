use Rattle.std.proofs.Common.{arith}
use Rattle.trees.proofs.Checking.{tree_in_stands}
use Rattle.trees.proofs.Finding.{had_tree}
use Rattle.changes.specs.Draft.{drafted}
use Rattle.changes.proofs.Redrawing.{at_site, part_stands, part_spread, part_room, drawn_none, whole_room, drawn_some}
use Rattle.changes.proofs.splice.redraw.Goals as goal

pub invariant_of-part : goal.invariant_of-part
invariant_of-part c = record { stands = ∣ part_stands (at_site (tree_in_stands (had_tree c.args.tree.holds)) c.requires c.smallest.ensures) ∣₁ }

pub bounds-part-part : goal.bounds-part-part
bounds-part-part c = let s = tree_in_stands (had_tree c.args.tree.holds) in omega (arith, c.smallest.ensures.within, s.long.parents_long)

pub bounds-part-part-2 : goal.bounds-part-part-2
bounds-part-part-2 c = let s = tree_in_stands (had_tree c.args.tree.holds) in omega (arith, c.smallest.ensures.within, s.long.places_long)

pub rebuild-requires-clause-heavy : goal.rebuild-requires-clause-heavy
rebuild-requires-clause-heavy c = part_spread (at_site (tree_in_stands (had_tree c.args.tree.holds)) c.requires c.smallest.ensures)

pub rebuild-requires-clause-room : goal.rebuild-requires-clause-room
rebuild-requires-clause-room c = part_room (at_site (tree_in_stands (had_tree c.args.tree.holds)) c.requires c.smallest.ensures)

pub returns-in_err-at : goal.returns-in_err-at
returns-in_err-at c =
    let site = at_site (tree_in_stands (had_tree c.args.tree.holds)) c.requires c.smallest.ensures in
    rw c.from_residual.ensures (drawn_none site (drafted c.rebuild.new.draft) c.in_err-at.ensures.rebuilt)

pub behind-requires-clause-room : goal.behind-requires-clause-room
behind-requires-clause-room c =
    let site = at_site (tree_in_stands (had_tree c.args.tree.holds)) c.requires c.smallest.ensures in
    omega (arith, whole_room site (drafted c.rebuild.new.draft) c.in_ok-at.at c.end.result c.end.ensures.end c.in_ok-at.ensures.rebuilt)

pub returns : goal.returns
returns c =
    let site = at_site (tree_in_stands (had_tree c.args.tree.holds)) c.requires c.smallest.ensures in
    rw c.behind.ensures.cells
    (drawn_some site (drafted c.rebuild.new.draft) c.in_ok-at.at c.end.result c.end.ensures.end c.in_ok-at.ensures.rebuilt
    (drafted c.before-2.new.draft)
    (drafted c.behind.new.draft)
    c.before-2.ensures
    c.in_ok-at.ensures.kept
    c.behind.ensures.kept
    c.behind.ensures.shifted)
