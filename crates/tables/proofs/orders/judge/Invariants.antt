use Rattle.std.proofs.Common.{ℕ, ◌<◌, length}
use Rattle.finds.specs.Sets.{has}
use Rattle.tables.specs.Format.{kind_set}
use Rattle.tables.specs.Orders.{Between}
use Rattle.tables.proofs.KindSets.{Behind}
use Rattle.tables.proofs.orders.judge.Given as goal

-- No kind so far is torn.
abbrev pub invariant-loop-kind : goal.invariant-loop-kind
invariant-loop-kind l = Behind l.table.kinds.now l.kind-iterator.count l.kind-iterator.iter
    × ((i : ℕ) → i < l.kind-iterator.count → (p : ℕ) → p < length l.order → Between (has (kind_set l.table.kinds.now i)) l.order p → ⊥)
