use Rattle.std.proofs.Common.{sym, refl, ap, ◌∙◌, arith}
use lib.Count.{ones}
use Rattle.trees.proofs.Checking.{tree_in_size}
use Rattle.trees.proofs.Roots.{found_set}
use Rattle.certain.proofs.Sizes.{shown_size, found_shown}
use Rattle.certain.proofs.near.nearest_answer.Goals as goal

pub returns-then-before-graves : goal.returns-then-before-graves
returns-then-before-graves c = (
  refl,
  refl,
  λ h.
      let e = c.size-graves.ensures.many ∙ ap ones (found_set c.in_ok-tree.ensures c.root.ensures) ∙ tree_in_size c.args.rows h.tree h.holds h.sound in omega (arith, c.then-before-graves.either),
)

pub returns : goal.returns
returns c =
    let w = c.all_nearest.ensures in
    let i = c.in_ok-tree.ensures in (
      i.tree,
      (λ f t s. (c.size-graves.ensures.many ∙ ap ones (found_set i c.root.ensures) ∙ sym (shown_size c.args.rows s), w.told f t (found_shown i s))),
      w.rest.0,
      w.rest.1,
    )
