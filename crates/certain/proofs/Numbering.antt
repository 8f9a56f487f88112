-- Rows that can be numbered: of two sorts that exclude each other, joined from two parts, and turned round.
use Rattle.std.proofs.Common.{◌≡◌, ℕ, ◌+◌, ◌-◌, ◌*◌, ◌/◌, ◌%◌, ◌<◌, ◌≤◌, cond, ltb, ◌⊎◌, List, ◌++◌, reverse, length, take, drop, sym, refl, ap, ◌∙◌, inl, inr, mul-zero, arith, le-ltb, lt-ltb}
use mathlib.Core.List.{reverse-reverse}
use native.Mathlib.Decide.{dec_lt}
use lib.Arith.{digits_lt}
use Rattle.std.proofs.lemmas.Nat.{div_below, mod_below, div-mul-add, mod-mul-add, div-add-mod'}
use Rattle.std.proofs.lemmas.List.{take_at, drop_at}
use Rattle.certain.specs.Counting.{Number}

pub number_like : {P Q : List ℕ → Type 0} {n : ℕ} → ((l : List ℕ) → P l → Q l) → ((l : List ℕ) → Q l → P l) → Number P n → Number Q n
number_like to from p = record { row = p.row; each = λ i h. to (p.row i) (p.each i h); all = λ l q. p.all l (from l q); apart = p.apart }

-- No row, and one row.
pub number_none : {P : List ℕ → Type 0} → ((l : List ℕ) → P l → ⊥) → (l : List ℕ) → Number P 0
number_none f l = record { row = λ i. l; each = λ i h. absurd (omega arith); all = λ l q. absurd (f l q); apart = λ i j h k e. absurd (omega arith) }

pub number_one : {P : List ℕ → Type 0} (l : List ℕ) → P l → ((m : List ℕ) → P m → m ≡ l) → Number P 1
number_one l p only = record { row = λ i. l; each = λ i h. p; all = λ m q. (0, omega arith, sym (only m q)); apart = λ i j h k e. omega arith }

-- ---- two sorts of rows: the numbers of the second come after those of the first

module _ {P Q : List ℕ → Type 0} {m n : ℕ} (p : Number P m) (q : Number Q n) (not-both : (l : List ℕ) → P l → Q l → ⊥) where
  either : ℕ → List ℕ
  either i = cond (ltb i m) (p.row i) (q.row (i - m))

  either_first : (i : ℕ) → i < m → either i ≡ p.row i
  unfolding either
  either_first i h = rw (lt-ltb i m h) refl

  either_second : (i : ℕ) → m ≤ i → either i ≡ q.row (i - m)
  unfolding either
  either_second i h = rw (le-ltb i m h) refl

  either_apart : (i j : ℕ) → i < m + n → j < m + n → either i ≡ either j → i ≡ j
  either_apart i j h k e = go (dec_lt i m) (dec_lt j m)
    where
      go : Dec (i < m) → Dec (j < m) → i ≡ j
      go (yes a) (yes b) = p.apart i j a b (sym (either_first i a) ∙ e ∙ either_first j b)
      go (yes a) (no b) =
          let z : p.row i ≡ q.row (j - m) = sym (either_first i a) ∙ e ∙ either_second j (omega arith) in
          absurd (not-both (p.row i) (p.each i a) (rw z (q.each (j - m) (omega arith))))
      go (no a) (yes b) =
          let z : p.row j ≡ q.row (i - m) = sym (either_first j b) ∙ sym e ∙ either_second i (omega arith) in
          absurd (not-both (p.row j) (p.each j b) (rw z (q.each (i - m) (omega arith))))
      go (no a) (no b) =
          let z = q.apart (i - m) (j - m) (omega arith) (omega arith) (sym (either_second i (omega arith)) ∙ e ∙ either_second j (omega arith)) in omega arith

  pub number_sum : Number (λ l. P l ⊎ Q l) (m + n)
  number_sum = record { row = either; each = each; all = all; apart = either_apart }
    where
      each : (i : ℕ) → i < m + n → P (either i) ⊎ Q (either i)
      each i h = go (dec_lt i m)
        where
          go : Dec (i < m) → P (either i) ⊎ Q (either i)
          go (yes a) = inl (rw (either_first i a) (p.each i a))
          go (no a) = inr (rw (either_second i (omega arith)) (q.each (i - m) (omega arith)))

      all : (l : List ℕ) → P l ⊎ Q l → (i : ℕ) × (i < m + n) × (either i ≡ l)
      all l (inl h) = let r = p.all l h in (r.0, omega (arith, r.1), either_first r.0 r.1 ∙ r.2)
      all l (inr h) = let r = q.all l h in (m + r.0, omega (arith, r.1), either_second (m + r.0) (omega arith) ∙ ap q.row (omega arith) ∙ r.2)

-- ---- rows joined from two parts, the first of a fixed length

-- The row is one with P and then one with Q.
pub record Joined (P Q : List ℕ → Type 0) (l : List ℕ) : Type 0 where
  pub fore : List ℕ
  pub rest : List ℕ
  pub is : l ≡ fore ++ rest
  pub here : P fore
  pub there : Q rest

module _ {P Q : List ℕ → Type 0} {m n : ℕ} (s : ℕ) (long : (l : List ℕ) → P l → length l ≡ s) (p : Number P m) (q : Number Q n) where
  -- The number counts in rows of n.
  abbrev both : ℕ → List ℕ
  both i = p.row (i / n) ++ q.row (i % n)

  some : (i : ℕ) → i < m * n → 0 < n
  some i h = go (dec_lt 0 n)
    where
      go : Dec (0 < n) → 0 < n
      go (yes d) = d
      go (no d) = let z : n ≡ 0 = omega arith in absurd (let e = ap (λ (x : ℕ). m * x) z ∙ mul-zero m in omega arith)

  both_is : (i : ℕ) → i < m * n → Joined P Q (both i)
  both_is i h = record {
    fore = p.row (i / n);
    rest = q.row (i % n);
    is = refl;
    here = p.each (i / n) (div_below i n m (some i h) h);
    there = q.each (i % n) (mod_below i n (some i h));
  }

  both_all : (l : List ℕ) → Joined P Q l → (i : ℕ) × (i < m * n) × (both i ≡ l)
  both_all l h =
      let a = p.all h.fore h.here in
      let b = q.all h.rest h.there in
      let d = div-mul-add a.0 n b.0 b.1 in
      let r = mod-mul-add a.0 n b.0 b.1 in
      (a.0 * n + b.0, digits_lt a.1 b.1, cc (ap p.row d, ap q.row r, a.2, b.2, h.is))

  both_apart : (i j : ℕ) → i < m * n → j < m * n → both i ≡ both j → i ≡ j
  unfolding both_is
  both_apart i j h k e =
      let f : (i : ℕ) → i < m * n → length (p.row (i / n)) ≡ s = (λ i h. long (p.row (i / n)) (both_is i h).here) in
      let u = sym (take_at (p.row (i / n)) (q.row (i % n)) s (f i h)) ∙ ap (take s) e ∙ take_at (p.row (j / n)) (q.row (j % n)) s (f j k) in
      let v = sym (drop_at (p.row (i / n)) (q.row (i % n)) s (f i h)) ∙ ap (drop s) e ∙ drop_at (p.row (j / n)) (q.row (j % n)) s (f j k) in
      let a = p.apart (i / n) (j / n) (div_below i n m (some i h) h) (div_below j n m (some j k) k) u in
      let b = q.apart (i % n) (j % n) (mod_below i n (some i h)) (mod_below j n (some j k)) v in
      let x = div-add-mod' i n in
      let y = div-add-mod' j n in
      cc

  pub number_joined : Number (Joined P Q) (m * n)
  number_joined = record { row = both; each = both_is; all = both_all; apart = both_apart }

-- ---- rows turned round

pub number_turned : {P : List ℕ → Type 0} {n : ℕ} → Number P n → Number (λ l. P (reverse l)) n
number_turned {P} p = record {
  row = λ i. reverse (p.row i);
  each = λ i h. rw reverse-reverse (p.each i h);
  all = λ l h. let r = p.all (reverse l) h in (r.0, r.1, ap reverse r.2 ∙ reverse-reverse l);
  apart = λ i j h k e. p.apart i j h k (sym (reverse-reverse (p.row i)) ∙ ap reverse e ∙ reverse-reverse (p.row j));
}
