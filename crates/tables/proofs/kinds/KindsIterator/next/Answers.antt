use Rattle.std.proofs.Common.{length, ap, arith, rules}
use Rattle.tables.proofs.KindSets.{none_left, first_left}
use Rattle.tables.proofs.kinds.KindsIterator.next.Goals as goal

pub returns-in_err-kind-clause-steps : goal.returns-in_err-kind-clause-steps
returns-in_err-kind-clause-steps c = let h = none_left c.args.self.now.bytes.now (omega (arith, c.in_err-kind.ensures)) in search rules

pub returns-clause-steps : goal.returns-clause-steps
returns-clause-steps c = let h = c.in_ok-kind.ensures.cases in first_left c.args.self.now.bytes.now c.in_ok-kind.kind.now c.in_ok-kind.rest.now c.word.result h.0 h.1 h.2 c.word.ensures

pub returns-clause-goes : goal.returns-clause-goes
returns-clause-goes c =
    let h = c.in_ok-kind.ensures.cases in let e = ap length (first_left c.args.self.now.bytes.now c.in_ok-kind.kind.now c.in_ok-kind.rest.now c.word.result h.0 h.1 h.2 c.word.ensures) in search rules
