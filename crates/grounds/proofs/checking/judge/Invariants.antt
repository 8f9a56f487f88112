use Rattle.std.proofs.Common.{ℕ, ◌<◌}
use Rattle.grounds.specs.Checking.{finds_in_table, pairs_of, HoldsOn}
use Rattle.grounds.proofs.checking.judge.Given as goal

-- Each pair so far clashes with the next.
abbrev pub invariant-loop-place : goal.invariant-loop-place
invariant-loop-place l = (i : ℕ) → i < l.place → HoldsOn (finds_in_table l.table) (pairs_of l.ring) i
