use Rattle.std.proofs.lemmas.Result.{IfOk-weaker}
use Rattle.report.specs.Answer.{order_verdict_answer}
use Rattle.answers.proofs.verifying.order_text.Goals as goal

pub returns : goal.returns
returns c =
    IfOk-weaker c.checked.result _ _ (λ p h. record { answer = c.verify_order.result; right = c.verify_order.ensures; prints = h })
    (c.checked.ensures order_verdict_answer (λ v r t. t.1))
