use Rattle.std.proofs.Common.{◌≡◌, ◌-◌, ◌++◌, string_bytes}
use Rattle.finds.specs.Trees.{len}
use Rattle.trees.specs.Cells.{Sound}
use Rattle.trees.proofs.Stepping.{Going}
use Rattle.text.specs.Show.{shows}
use Rattle.text.proofs.+write_part.Given as goal

abbrev pub decreases-write_part : goal.decreases-write_part
decreases-write_part l = l.part.count - l.part.root

-- The branches that are done are written.
abbrev pub invariant-loop-k : goal.invariant-loop-k
invariant-loop-k l = Going l.part l.k-iterator.iter (λ t done rest. (l.k-iterator.count ≡ len done) × (Sound t → string_bytes l.out ≡ string_bytes l.initial.out ++ shows done))
