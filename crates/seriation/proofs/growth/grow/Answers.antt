use Rattle.std.proofs.Common.{⊎_elim, arith}
use Rattle.finds.specs.Sets.{has}
use Rattle.std.proofs.lemmas.List.{length-map}
use Rattle.tables.specs.Format.{finds_of_sets}
use Rattle.seriation.proofs.Finishing.{begun, grown_cells, standing, tree_built, none_built}
use Rattle.trees.proofs.Writing.{same_room, slices_kept}
use Rattle.seriation.proofs.growth.grow.Goals as goal

pub grow_all-stage-requires : goal.grow_all-stage-requires
grow_all-stage-requires c =
    let r = same_room c.in-Some.ensures.same in
    record { room = omega arith; begun = begun (finds_of_sets c.args.graves c.args.kinds.now) c.in-Some.cells _ c.requires.some c.requires.few c.in-Some.ensures.starts.1 }

pub clear-requires-clause-ordered : goal.clear-requires-clause-ordered
clear-requires-clause-ordered c = let n = grown_cells _ _ _ _ _ c.grow_all-stage.ensures.staged.stage in n.1

pub clear-requires-clause-room : goal.clear-requires-clause-room
clear-requires-clause-room c = let r = same_room c.in-Some.ensures.same in let s = same_room c.grow_all-stage.ensures.same in omega arith

pub returns-then-stage-kinds : goal.returns-then-stage-kinds
returns-then-stage-kinds c =
    let f = finds_of_sets c.args.graves c.args.kinds.now in let j = c.grow_all-stage.result.kinds in let count = c.grow_all-stage.result.count in
    let h = c.in-Some.ensures.starts in let s = c.grow_all-stage.ensures.staged in let m = length-map c.args.kinds.now has in
    let b = grown_cells f 0 c.in-Some.cells _ _ (begun f c.in-Some.cells _ c.requires.some c.requires.few h.1) in
    let w = standing f c.requires.some _ _ _ _ j count c.in-Some.cells h.2 b.1 s c.clear.ensures.cleared (omega arith) in
    record {
      builds = ⊎_elim (λ e. absurd (omega arith)) (λ e. none_built f c.requires.some _ _ count j e.0 e.1 w) s.ended;
      same = slices_kept (slices_kept c.in-Some.ensures.same c.grow_all-stage.ensures.same) c.clear.ensures.same;
    }

pub returns : goal.returns
returns c =
    let f = finds_of_sets c.args.graves c.args.kinds.now in let j = c.grow_all-stage.result.kinds in let count = c.grow_all-stage.result.count in
    let h = c.in-Some.ensures.starts in let s = c.grow_all-stage.ensures.staged in let m = length-map c.args.kinds.now has in
    let b = grown_cells f 0 c.in-Some.cells _ _ (begun f c.in-Some.cells _ c.requires.some c.requires.few h.1) in
    record {
      builds = ⊎_elim (λ e. tree_built f c.requires.some _ _ count j e (standing f c.requires.some _ _ _ _ j count c.in-Some.cells h.2 b.1 s c.clear.ensures.cleared (omega arith))) (λ e. absurd (omega arith)) s.ended;
      same = slices_kept (slices_kept c.in-Some.ensures.same c.grow_all-stage.ensures.same) c.clear.ensures.same;
    }
