-- Sums and counts below a number.
use Rattle.std.proofs.Common.{◌≡◌, ℕ, zero, suc, ◌+◌, ◌*◌, ◌<◌, ◌≤◌, sym, subst, suc-mul, zero-mul, arith}
use native.Mathlib.Decide.{ℕ_discrete}

-- The sum of v below n.
abbrev pub sum : (ℕ → ℕ) → ℕ → ℕ
sum v zero = 0
sum v (suc n) = v n + sum v n

pub sum_le : (v w : ℕ → ℕ) (n : ℕ) → ((g : ℕ) → g < n → v g ≤ w g) → sum v n ≤ sum w n
sum_le v w zero h = omega arith
sum_le v w (suc n) h = let here = h n (omega arith) in let below = sum_le v w n (λ g l. h g (omega arith)) in omega arith

-- One sum is less than another if it is so at one place and nowhere more.
pub sum_lt : (v w : ℕ → ℕ) (n a : ℕ) → ((g : ℕ) → g < n → v g ≤ w g) → a < n → v a < w a → sum v n < sum w n
sum_lt v w zero a h l k = absurd (omega arith)
sum_lt v w (suc n) a h l k = go (ℕ_discrete a n) (λ m. sum_lt v w n a (λ g q. h g (omega arith)) m k)
  where
    go : Dec (a ≡ n) → (a < n → sum v n < sum w n) → sum v (suc n) < sum w (suc n)
    go (yes e) more = let here = subst (λ (g : ℕ). v g < w g) e k in let below = sum_le v w n (λ g q. h g (omega arith)) in omega arith
    go (no ne) more = let here = h n (omega arith) in let below = more (omega arith) in omega arith

pub sum_same : (c n : ℕ) → sum (λ _. c) n ≡ n * c
sum_same c zero = sym (zero-mul c)
sum_same c (suc n) = let h = sum_same c n in let k = suc-mul n c in omega arith

-- 1 for what is so, and 0 for what is not.
abbrev pub one_if : {P : Type 0} → Dec P → ℕ
one_if (yes h) = 1
one_if (no h) = 0

pub one_if_le : {P Q : Type 0} (d : Dec P) (e : Dec Q) → (P → Q) → one_if d ≤ one_if e
one_if_le (yes p) (yes q) h = omega arith
one_if_le (yes p) (no q) h = absurd (q (h p))
one_if_le (no p) (yes q) h = omega arith
one_if_le (no p) (no q) h = omega arith

pub one_if_lt : {P Q : Type 0} (d : Dec P) (e : Dec Q) → (P → ⊥) → Q → one_if d < one_if e
one_if_lt (yes p) e h q = absurd (h p)
one_if_lt (no p) (yes _) h q = omega arith
one_if_lt (no p) (no n) h q = absurd (n q)

-- How many numbers below n have the property.
abbrev pub count : {P : ℕ → Type 0} → ((g : ℕ) → Dec (P g)) → ℕ → ℕ
count d n = sum (λ g. one_if (d g)) n

-- Fewer than n, if one has it not.
pub count_few : {P : ℕ → Type 0} (d : (g : ℕ) → Dec (P g)) (n a : ℕ) → a < n → (P a → ⊥) → count d n < n
count_few d n a l h =
    let all : Dec (Unit {0}) = yes tt in
    let few = sum_lt (λ g. one_if (d g)) (λ _. 1) n a (λ g _. one_if_le (d g) all (λ _. tt)) l (one_if_lt (d a) all h tt) in
    let same = sum_same 1 n in omega arith
