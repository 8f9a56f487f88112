use Rattle.std.proofs.Common.{ℕ, ◌-◌, ◌*◌, ◌≤◌, inl, inr, ⊎_elim, mul-le-mul, arith}
use Rattle.tables.specs.Format.{graves_of}
use Rattle.answers.proofs.seriating.room_for_24.Goals as goal

-- Fewer graves have fewer pairs.
square : (n : ℕ) → n ≤ 24 → n * n ≤ 576
square n h = mul-le-mul h h

pairs : (n : ℕ) → n ≤ 24 → n * (n - 1) ≤ 552
pairs n h = let l : n - 1 ≤ 23 = omega arith in mul-le-mul h l

pub returns : goal.returns
returns c = λ file headed. (
  λ few kinds. (
    ⊎_elim (λ l. omega arith) (λ l. omega arith),
    λ l. omega (arith, square (graves_of file) few),
    λ l. omega (arith, pairs (graves_of file) few),
  ),
  λ large. (headed, ⊎_elim (λ l. inl (omega arith)) (λ l. inr l) large),
)
