use Rattle.std.proofs.Common.{get_or, arith}
use Rattle.std.proofs.lemmas.Nat.{div_below}
use Rattle.grounds.proofs.RingBytes.{written_more, written_all}
use Rattle.grounds.proofs.readback.write.Goals as goal

pub overflow_cast-bytes : goal.overflow_cast-bytes
overflow_cast-bytes c =
    let n = c.args.graves in let x = get_or c.args.cells.now c.loop-i.i 0 in
    let h = div_below x n n c.requires.few.0 (c.requires.known c.loop-i.i c.loop-i-test.true) in omega arith

pub loop-i-preserved : goal.loop-i-preserved
loop-i-preserved c = written_more c.args.graves c.args.cells.now c.loop-i.bytes c.loop-i.i c.loop-i.invariant (omega arith)

pub returns : goal.returns
returns c = written_all c.args.graves c.args.cells.now c.loop-i.bytes c.loop-i.i c.loop-i.invariant (omega arith) (omega arith)
