-- What `verify` prints for the bytes of two files.
use Rattle.std.specs.Prelude.{ℕ, List, Ok, Err, Option, Result}
use Rattle.grounds.specs.Checking.{RingAnswer}
use Rattle.grounds.specs.declared.verdict.NoClash.{NoClash}
use Rattle.report.specs.Answer.{refusal_answer, order_verdict_answer, ring_verdict_answer}
use Rattle.tables.specs.Orders.{OrderAnswer}
use Rattle.tables.specs.declared.refusal.Refusal.{Refusal}
use Rattle.tables.specs.declared.verdict.Torn.{Torn}
use Rattle.answers.specs.Printing.{Prints}
use Rattle.answers.specs.declared.printed.Printed.{Printed}

-- The answer is printed by the text of what is said, or the refusal.
abbrev pub PrintsAnswer : {V : Type 0} → (V → List ℕ) → Printed → Result V Refusal → Type 0
PrintsAnswer text p (Ok v) = Prints p (text v) 0
PrintsAnswer text p (Err r) = Prints p (refusal_answer r) 1

-- What is printed of an order is the answer of its check.
pub record OrderChecked (file order : List ℕ) (p : Printed) : Type 0 where
  pub answer : Result (Option Torn) Refusal
  pub right : OrderAnswer file order answer
  pub prints : PrintsAnswer order_verdict_answer p answer

-- What is printed of a ring is the answer of its check.
pub record RingChecked (file ring : List ℕ) (p : Printed) : Type 0 where
  pub answer : Result (Option NoClash) Refusal
  pub right : RingAnswer file ring answer
  pub prints : PrintsAnswer ring_verdict_answer p answer
