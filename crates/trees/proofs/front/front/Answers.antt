use Rattle.std.proofs.Common.{refl, ap, ◌∙◌, arith}
use lib.Count.{ones}
use Rattle.trees.proofs.Checking.{tree_in_size}
use Rattle.trees.proofs.Roots.{found_set}
use Rattle.trees.proofs.front.front.Goals as goal

pub returns-then-out-size : goal.returns-then-out-size
returns-then-out-size c = (
  refl,
  λ h.
      let e = c.size.ensures.many ∙ ap ones (found_set c.in_ok-tree.ensures c.root.ensures) ∙ tree_in_size c.args.rows h.tree h.holds h.sound in omega (arith, c.if-out-size.true),
)
