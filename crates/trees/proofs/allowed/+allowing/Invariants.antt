use Rattle.std.proofs.Common.{◌≡◌, ℕ, ◌+◌, ◌-◌, ◌*◌, ◌≤◌, length, drop}
use Rattle.finds.specs.Trees.{Tree}
use Rattle.trees.specs.Cells.{Sound}
use Rattle.trees.specs.Subtrees.{Is}
use Rattle.trees.proofs.Picking.{Picked}
use Rattle.trees.proofs.Stepping.{Going}
use Rattle.trees.proofs.Taking.{Taken}
use Rattle.trees.proofs.allowed.+allowing.Given as goal

-- A branch lies behind its root, so the cells that are left grow fewer.
abbrev pub decreases-any_allows : goal.decreases-any_allows
decreases-any_allows l = 2 * (l.part.count - l.part.root)

abbrev pub decreases-part_allows : goal.decreases-part_allows
decreases-part_allows l = 2 * (l.part.count - l.part.root) + 1

abbrev pub decreases-row_allows : goal.decreases-row_allows
decreases-row_allows l = 2 * (l.part.count - l.part.root)

-- So many graves of the row are read, and the others are left.
abbrev pub invariant-any_allows-loop-grave : goal.invariant-any_allows-loop-grave
invariant-any_allows-loop-grave l = (at : ℕ) × (at ≤ length l.row) × (l.rest ≡ drop at l.row) × ((t : Tree) → Is l.part t → Sound t → Picked t l.row l.left at)

abbrev pub decreases-any_allows-loop-grave : goal.decreases-any_allows-loop-grave
decreases-any_allows-loop-grave l = length l.rest

abbrev pub invariant-row_allows-loop-branch : goal.invariant-row_allows-loop-branch
invariant-row_allows-loop-branch l = Going l.part l.branch-iterator (λ t done rest. Sound t → Taken l.back l.at l.row t rest)
