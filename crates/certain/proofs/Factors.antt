-- The product of what the cells of a tree add is the product over all its places.
use Rattle.std.proofs.Common.{◌≡◌, ℕ, zero, suc, ◌+◌, ◌*◌, ◌<◌, ◌≤◌, Bool, true, false, cond, eqb, sym, refl, ap, ◌∙◌, add-zero, add-suc, mul_assoc, mul_comm, suc-add, one-mul, zero-add, mul-one, add-one, arith}
use native.Mathlib.Nat.{mul-mul-mul_comm}
use Rattle.std.proofs.lemmas.Nat.{mul-le}
use Rattle.finds.specs.Trees.{Tree, grave, any, row, Trees, none, more, len}
use Rattle.trees.specs.Cells.{nodes, all_nodes, Cells, Body, Ats, Holds}
use Rattle.certain.specs.Counting.{factorial, product, all_products}
use Rattle.certain.specs.Factors.{own, among, factor}

-- ---- products over cells

-- What n cells from cell i on add.
abbrev pub factors : Cells → ℕ → ℕ → ℕ
factors R i zero = 1
factors R i (suc n) = factor R i * factors R (suc i) n

factors_plus : (R : Cells) (i m n : ℕ) → factors R i (m + n) ≡ factors R i m * factors R (i + m) n
factors_plus R i zero n = ap (factors R i) (zero-add n) ∙ ap (λ (j : ℕ). factors R j n) (sym (add-zero i)) ∙ sym (one-mul (factors R (i + 0) n))
factors_plus R i (suc m) n =
    ap (factors R i) (suc-add m n)
    ∙ ap (λ (z : ℕ). factor R i * z) (factors_plus R (suc i) m n ∙ ap (λ (j : ℕ). factors R (suc i) m * factors R j n) (suc-add i m ∙ sym (add-suc i m)))
    ∙ sym (mul_assoc (factor R i) (factors R (suc i) m) (factors R (i + suc m) n))

pub factors_more : (R : Cells) (n : ℕ) → factors R 0 (n + 1) ≡ factors R 0 n * factor R n
factors_more R n = factors_plus R 0 n 1 ∙ ap (λ (z : ℕ). factors R 0 n * z) (mul-one (factor R (0 + n)) ∙ ap (factor R) (zero-add n))

-- Each cell adds 1 at least, so with more cells the product does not get less.
factor_some : (R : Cells) (i : ℕ) → 1 ≤ factor R i
factor_some R i = mul-le 1 1 (own R i) (among R i) (one_or (eqb (R.sort i) 2) 1) (branch i)
  where
    one_or : (x : Bool) (n : ℕ) → 1 ≤ cond x (n + 1) 1
    one_or true n = omega arith
    one_or false n = omega arith

    branch : (i : ℕ) → 1 ≤ among R i
    branch zero = omega arith
    branch (suc i) = one_or (eqb (R.sort (R.parent (suc i))) 1) (R.place (suc i))

factors_some : (R : Cells) (i n : ℕ) → 1 ≤ factors R i n
factors_some R i zero = omega arith
factors_some R i (suc n) = mul-le 1 1 (factor R i) (factors R (suc i) n) (factor_some R i) (factors_some R (suc i) n)

pub factors_grow : (R : Cells) (m n : ℕ) → factors R 0 m ≤ factors R 0 (m + n)
factors_grow R m n =
    let e = factors_plus R 0 m n in let z = mul-le (factors R 0 m) 1 (factors R 0 m) (factors R (0 + m) n) (omega arith) (factors_some R (0 + m) n) in omega arith

-- ---- the branches of a cell

-- What n branches add by their places from q on, if their cell is of the sort s.
abbrev climb : ℕ → ℕ → ℕ → ℕ
climb s q zero = 1
climb s q (suc n) = cond (eqb s 1) (q + 1) 1 * climb s (suc q) n

climb_any : (q n : ℕ) → climb 1 q n * factorial q ≡ factorial (q + n)
climb_any q zero = one-mul (factorial q) ∙ ap factorial (sym (add-zero q))
climb_any q (suc n) =
    ap (λ (z : ℕ). z * climb 1 (suc q) n * factorial q) (add-one q)
    ∙ ap (λ (z : ℕ). z * factorial q) (mul_comm (suc q) (climb 1 (suc q) n))
    ∙ mul_assoc (climb 1 (suc q) n) (suc q) (factorial q)
    ∙ climb_any (suc q) n
    ∙ ap factorial (suc-add q n ∙ sym (add-suc q n))

climb_row : (q n : ℕ) → climb 2 q n ≡ 1
climb_row q zero = refl
climb_row q (suc n) = one-mul (climb 2 (suc q) n) ∙ climb_row (suc q) n

among_at : (R : Cells) (i p q : ℕ) → p < i → R.parent i ≡ p → R.place i ≡ q → among R i ≡ cond (eqb (R.sort p) 1) (q + 1) 1
among_at R zero p q h e f = absurd (omega arith)
among_at R (suc i) p q h e f = rw (e, f) refl

mutual
  body_factors : (R : Cells) (i : ℕ) (t : Tree) → Body R i t → factors R i (nodes t) ≡ among R i * product t
  body_factors R i (grave g) b = rw b.0 (simp (one-mul, mul-one))
  body_factors R i (any ts) b =
      let e = ats_factors R (suc i) i 0 ts (omega arith) b.2 in
      let c : climb (R.sort i) 0 (len ts) ≡ factorial (len ts) =
      rw b.0 (sym (mul-one (climb 1 0 (len ts))) ∙ climb_any 0 (len ts) ∙ ap factorial (zero-add (len ts))) in
      ap (λ (z : ℕ). factor R i * z) (e ∙ ap (λ (z : ℕ). z * all_products ts) c) ∙ rw b.0 (simp one-mul)
  body_factors R i (row ts) b =
      let e = ats_factors R (suc i) i 0 ts (omega arith) b.2 in
      let c : climb (R.sort i) 0 (len ts) ≡ 1 = rw b.0 (climb_row 0 (len ts)) in
      let own-two : own R i ≡ 2 = rw b.0 refl in
      ap (λ (z : ℕ). factor R i * z) (e ∙ ap (λ (z : ℕ). z * all_products ts) c ∙ one-mul (all_products ts))
      ∙ ap (λ (z : ℕ). z * among R i * all_products ts) own-two
      ∙ ap (λ (z : ℕ). z * all_products ts) (mul_comm 2 (among R i))
      ∙ mul_assoc (among R i) 2 (all_products ts)

  ats_factors : (R : Cells) (i p q : ℕ) (ts : Trees) → p < i → Ats R i p q ts → factors R i (all_nodes ts) ≡ climb (R.sort p) q (len ts) * all_products ts
  ats_factors R i p q none h a = refl
  ats_factors R i p q (more t ts) h a =
      let x = body_factors R i t a.2 ∙ ap (λ (z : ℕ). z * product t) (among_at R i p q h a.0 a.1) in
      let y = ats_factors R (i + nodes t) p (suc q) ts (omega arith) a.3 in
      factors_plus R i (nodes t) (all_nodes ts) ∙ ap (λ (z : ℕ). z * factors R (i + nodes t) (all_nodes ts)) x
      ∙ ap (λ (z : ℕ). cond (eqb (R.sort p) 1) (q + 1) 1 * product t * z) y
      ∙ mul-mul-mul_comm (cond (eqb (R.sort p) 1) (q + 1) 1) (product t) (climb (R.sort p) (suc q) (len ts)) (all_products ts)

pub tree_factors : (R : Cells) (n : ℕ) (t : Tree) → Holds R n t → factors R 0 n ≡ product t
tree_factors R n t h = ap (factors R 0) h.many ∙ body_factors R 0 t h.body ∙ one-mul (product t)
