-- Parities of walks as truth values: true for odd, and the parity of two walks together.
use Rattle.std.proofs.Common.{◌≡◌, ℕ, zero, suc, ◌+◌, ◌-◌, ◌/◌, ◌%◌, Bool, true, false, not, ◌≢◌, sym, refl, ap, ◌∙◌, true≢false, arith}
use mathlib.Core.Bool.{false≢true}
use Rattle.finds.specs.Parity.{odd}

-- The parity of two walks together.
abbrev pub ◌⊕◌ : Bool → Bool → Bool
a ⊕ false = a
a ⊕ true = not a

infixl 30 ◌⊕◌
pub not_not : (a : Bool) → not (not a) ≡ a
not_not true = refl
not_not false = refl

pub ⊕_not : (a b : Bool) → not (a ⊕ b) ≡ a ⊕ not b
⊕_not a true = not_not a
⊕_not a false = refl

pub not_⊕ : (a b : Bool) → not a ⊕ b ≡ a ⊕ not b
not_⊕ a true = not_not a
not_⊕ a false = refl

pub ⊕_twice : (a b : Bool) → a ⊕ b ⊕ b ≡ a
⊕_twice a true = not_not a
⊕_twice a false = refl

-- Of two truth values that differ each is the other's negation.
pub differ : (a b : Bool) → a ≢ b → b ≡ not a
differ true true h = absurd (h refl)
differ true false h = refl
differ false true h = refl
differ false false h = absurd (h refl)

-- No truth value is its own negation.
pub not_same : (b : Bool) → b ≢ not b
not_same true e = true≢false e
not_same false e = false≢true e

-- An odd number is one more than twice another.
pub half_of : (n : ℕ) → odd n ≡ true → (h : ℕ) × (n ≡ suc (h + h))
half_of zero e = absurd (false≢true e)
half_of (suc zero) e = (0, omega arith)
half_of (suc (suc n)) e = let r = half_of n (sym (not_not (odd n)) ∙ e) in (suc r.0, (let z = r.1 in omega arith))

-- Twice a number is even.
pub even : (n h : ℕ) → n ≡ h + h → odd n ≡ false
even zero h e = refl
even (suc zero) h e = absurd (omega arith)
even (suc (suc n)) h e = not_not (odd n) ∙ even n (h - 1) (omega arith)

-- A number with the rest 1 by two is odd.
pub odd_rest : (n : ℕ) → n % 2 ≡ 1 → odd n ≡ true
odd_rest n e = sym (not_not (odd n)) ∙ ap not (even (suc n) (suc n / 2) (omega arith))

-- Of two numbers that add up to an odd number one is odd.
pub odd_other : (m n : ℕ) → (m + n) % 2 ≡ 1 → odd n ≡ not (odd m)
odd_other zero n e = odd_rest n (omega arith)
odd_other (suc m) n e = sym (not_not (odd n)) ∙ ap not (odd_other m (suc n) (omega arith))
