use Rattle.std.proofs.Common.{◌≡◌, ◌++◌, string_bytes, codes}
use Rattle.report.specs.Answer.{line_feed, pairs_text}
use Rattle.report.proofs.ring_text.Given as goal

-- The pairs before the one of the number k are written.
abbrev pub invariant-loop-k : goal.invariant-loop-k
invariant-loop-k l = string_bytes l.out ≡ (codes "no order" ++ line_feed) ++ pairs_text l.ring l.k
