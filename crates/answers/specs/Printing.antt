-- What is printed.
use Rattle.std.specs.Prelude.{◌≡◌, ℕ, List, string_bytes}
use Rattle.answers.specs.declared.printed.Ending.{Ending}
use Rattle.answers.specs.declared.printed.Ending.TheVariants.{Answered, TurnedAway}
use Rattle.answers.specs.declared.printed.Printed.{Printed}

-- The status of a run that ends so.
abbrev pub status_of : Ending → ℕ
status_of Answered = 0
status_of TurnedAway = 1

-- These bytes are printed, and the run ends with this status.
pub record Prints (p : Printed) (bytes : List ℕ) (status : ℕ) : Type 0 where
  pub text_is : string_bytes p.text ≡ bytes
  pub status_is : status_of p.ending ≡ status
