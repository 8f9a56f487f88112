use Rattle.std.proofs.lemmas.Result.{IfOk-weaker}
use Rattle.report.specs.Answer.{ring_verdict_answer}
use Rattle.answers.proofs.verifying.ring_text.Goals as goal

pub returns : goal.returns
returns c =
    IfOk-weaker c.checked.result _ _ (λ p h. record { answer = c.verify_ring.result; right = c.verify_ring.ensures; prints = h })
    (c.checked.ensures ring_verdict_answer (λ v r t. t.1))
