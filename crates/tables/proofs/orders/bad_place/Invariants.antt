use Rattle.std.proofs.Common.{ℕ, ◌<◌}
use Rattle.tables.specs.Orders.{BadPlace}
use Rattle.tables.proofs.orders.bad_place.Given as goal

-- No place below p is bad.
abbrev pub invariant-loop-p : goal.invariant-loop-p
invariant-loop-p l = (q : ℕ) → q < l.p → BadPlace l.n l.order q → ⊥
