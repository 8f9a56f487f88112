use Rattle.grounds.proofs.RingBytes.{Written}
use Rattle.grounds.proofs.readback.write.Given as goal

abbrev pub invariant-loop-i : goal.invariant-loop-i
invariant-loop-i l = Written l.graves l.cells l.bytes l.i
