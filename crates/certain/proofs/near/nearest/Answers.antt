use Rattle.std.proofs.Common.{Option, sym, subst}
use Rattle.certain.specs.declared.neighbours.Neighbours.{Neighbours}
use Rattle.certain.proofs.Way.{SoFar, so_far_more, so_far_end}
use Rattle.certain.proofs.near.nearest.Goals as goal

pub loop-branch-preserved : goal.loop-branch-preserved
loop-branch-preserved c =
    subst (λ (r : Option Neighbours). SoFar c.args.b c.args.tree c.in-Some.branch r) (sym c.or-best.ensures)
    (so_far_more c.flanks.result c.loop-branch.invariant c.in-Some.ensures.same c.in-Some.ensures.found c.flanks.ensures)

pub returns : goal.returns
returns c = so_far_end c.loop-branch.invariant c.in_default.ensures.found
