use Rattle.std.proofs.Common.{sym, ap, ◌∙◌}
use lib.Count.{ones}
use Rattle.trees.proofs.Allowing.{allows_length}
use Rattle.trees.proofs.Checking.{tree_in_size}
use Rattle.trees.proofs.Deciding.{not_so}
use Rattle.trees.proofs.Roots.{found_set, found_holds, root_is}
use Rattle.trees.proofs.allowed.allows.Goals as goal

-- A row that is too short or too long is not allowed.
pub returns-then-row-size : goal.returns-then-row-size
returns-then-row-size c = (
  c.in_ok-find.ensures.tree,
  λ t h s.
      not_so (λ a. c.if-row-size.true (allows_length a ∙ sym (c.size.ensures.many ∙ ap ones (found_set c.in_ok-find.ensures c.root-tree.ensures) ∙ tree_in_size c.args.rows t h s))),
)

pub returns : goal.returns
returns c = (c.in_ok-find.ensures.tree, λ t h s. c.part_allows.ensures t (root_is c.root-tree.ensures t (found_holds c.in_ok-find.ensures t h)) s)
