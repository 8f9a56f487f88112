use Rattle.std.proofs.Common.{inl, inr, ⊎_elim}
use Rattle.pqtree.proofs.Growth.{tree_or_none}
use Rattle.clashes.proofs.Orders.{none_or_ground}
use Rattle.grounds.proofs.tree_or_ground.Goals as goal

-- By the tree half there is a tree or no order fits, and by the ring half there is a ground where none fits.
pub returns : goal.returns
returns c = λ f some. ⊎_elim (λ t. inl (t.0, t.2, t.3)) (λ none. inr (none_or_ground f none)) (tree_or_none f some)
