use Rattle.std.proofs.Common.{string_bytes}
use Rattle.report.specs.Tells.{Lines}
use Rattle.report.proofs.write_nearest.Given as goal

-- The lines on the graves below b are written.
abbrev pub invariant-loop-b : goal.invariant-loop-b
invariant-loop-b l = Lines l.tree l.b-counter (string_bytes l.initial.out) (string_bytes l.out)
