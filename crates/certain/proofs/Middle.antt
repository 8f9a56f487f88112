-- Where graves are among branches, and what it takes for b to be in the middle of a row.
use Rattle.std.proofs.Common.{◌≡◌, ℕ, zero, suc, ◌+◌, ◌≤◌, true, eqb, ◌⊎◌, sym, refl, ap, ◌∙◌, subst, inl, inr, ⊎_elim, arith}
use Rattle.finds.specs.Branches.{◌+++◌}
use Rattle.finds.specs.Counts.{count_t, count_ts}
use Rattle.finds.specs.Trees.{Tree, grave, any, row, Trees, none, more, Mixed, no_more, put, Put, first, after}
use Rattle.finds.proofs.Counts.{count_ts_plus}
use Rattle.certain.specs.Middle.{In, InSome, Across, Sides, Middle, Middles}

-- No grave is in two branches.
abbrev pub Once : Trees → Type 0
Once ts = (g : ℕ) → count_ts (eqb g) true ts ≤ 1

-- ---- where a grave is

one_of : (m n : ℕ) → 1 ≤ m + n → (1 ≤ m) ⊎ (1 ≤ n)
one_of zero n h = inr (omega arith)
one_of (suc m) n h = inl (omega arith)

-- It is in the branches x, in t, or in the branches y.
pub in_three : (g : ℕ) (x : Trees) (t : Tree) (y : Trees) → InSome g (x +++ more t y) → InSome g x ⊎ (In g t ⊎ InSome g y)
in_three g x t y h =
    ⊎_elim (λ i. inl i) (λ i. inr (one_of (count_t (eqb g) true t) (count_ts (eqb g) true y) i))
    (one_of (count_ts (eqb g) true x) (count_ts (eqb g) true (more t y)) (let e = count_ts_plus (eqb g) true x (more t y) in omega arith))

pub in_left : (g : ℕ) (x y : Trees) → InSome g x → InSome g (x +++ y)
in_left g x y h = let e = count_ts_plus (eqb g) true x y in omega arith

pub in_right : (g : ℕ) (x y : Trees) → InSome g y → InSome g (x +++ y)
in_right g x y h = let e = count_ts_plus (eqb g) true x y in omega arith

-- The branch that has the grave, and the branches before it and behind it.
pub record Found (g : ℕ) (ts : Trees) : Type 0 where
  pub before : Trees
  pub it : Tree
  pub behind : Trees
  pub is : ts ≡ before +++ more it behind
  pub in_it : In g it

pub find : (g : ℕ) (ts : Trees) → InSome g ts → Found g ts
find g none h = absurd (omega arith)
find g (more t ts) h =
    ⊎_elim (λ i. record { before = none; it = t; behind = ts; is = refl; in_it = i })
    (λ i. let r = find g ts i in record { before = more t r.before; it = r.it; behind = r.behind; is = ap (more t) r.is; in_it = r.in_it })
    (one_of (count_t (eqb g) true t) (count_ts (eqb g) true ts) h)

-- Only one branch has it.
pub one_branch : (g : ℕ) (x y x' y' : Trees) (t t' : Tree) → x +++ more t y ≡ x' +++ more t' y' → count_ts (eqb g) true (x +++ more t y) ≤ 1 → In g t → In g t' → (x ≡ x') × (t ≡ t') × (y ≡ y')
one_branch g none y none y' t t' e o h k = (refl, cc, cc)
one_branch g none y (more u x') y' t t' e o h k =
    let z : y ≡ x' +++ more t' y' = cc in let w = ap (count_ts (eqb g) true) z ∙ count_ts_plus (eqb g) true x' (more t' y') in absurd (omega arith)
one_branch g (more u x) y none y' t t' e o h k =
    let z : x +++ more t y ≡ y' = cc in
    let u' : u ≡ t' = cc in
    let w = count_ts_plus (eqb g) true x (more t y) in
    let v = ap (count_t (eqb g) true) u' in
    absurd (omega arith)
one_branch g (more u x) y (more u' x') y' t t' e o h k =
    let r = one_branch g x y x' y' t t' (cc) (omega arith) h k in let z : u ≡ u' = cc in (cc (z, r.0), r.1, r.2)

-- ---- what the middle of a row has

sides_in : (a b c : ℕ) (ts : Trees) → Sides a b c ts → InSome a ts × InSome b ts × InSome c ts
sides_in a b c ts s =
    let x = s.before in
    let y = more s.it s.behind in
    let m = s.in_it in
    let r : InSome a (x +++ y) × InSome b (x +++ y) × InSome c (x +++ y) =
    ⊎_elim (λ k. (in_left a x y k.0, in_right b x y (omega arith), in_right c x y (omega (arith, k.1))))
    (λ k. (in_right a x y (omega (arith, k.1)), in_right b x y (omega arith), in_left c x y k.0)) s.across in
    rw s.is r

mutual
  pub middle_in : (a b c : ℕ) (t : Tree) → Middle a b c t → In a t × In b t × In c t
  middle_in a b c (grave g) m = absurd m
  middle_in a b c (any ts) m = middles_in a b c ts m
  middle_in a b c (row ts) (inl m) = middles_in a b c ts m
  middle_in a b c (row ts) (inr s) = sides_in a b c ts s

  pub middles_in : (a b c : ℕ) (ts : Trees) → Middles a b c ts → InSome a ts × InSome b ts × InSome c ts
  middles_in a b c none m = absurd m
  middles_in a b c (more t ts) (inl m) = let r = middle_in a b c t m in (omega (arith, r.0), omega (arith, r.1), omega (arith, r.2))
  middles_in a b c (more t ts) (inr m) = let r = middles_in a b c ts m in (omega (arith, r.0), omega (arith, r.1), omega (arith, r.2))

-- ---- the same in the branch that has b, or across that branch

pub middles_at : (a b c : ℕ) (x : Trees) (t : Tree) (y : Trees) → Middle a b c t → Middles a b c (x +++ more t y)
middles_at a b c none t y m = inl m
middles_at a b c (more u x) t y m = inr (middles_at a b c x t y m)

pub at_middles : (a b c : ℕ) (x : Trees) (t : Tree) (y : Trees) → count_ts (eqb b) true (x +++ more t y) ≤ 1 → In b t → Middles a b c (x +++ more t y) → Middle a b c t
at_middles a b c none t y o h (inl m) = m
at_middles a b c none t y o h (inr m) = absurd (let r = middles_in a b c y m in omega (arith, r.1))
at_middles a b c (more u x) t y o h (inl m) = absurd (let r = middle_in a b c u m in let e = count_ts_plus (eqb b) true x (more t y) in omega (arith, r.1))
at_middles a b c (more u x) t y o h (inr m) = at_middles a b c x t y (omega arith) h m

pub at_sides : (a b c : ℕ) (x : Trees) (t : Tree) (y : Trees) → count_ts (eqb b) true (x +++ more t y) ≤ 1 → In b t → Sides a b c (x +++ more t y) → Across a c x y
at_sides a b c x t y o h s =
    let r = one_branch b x y s.before s.behind t s.it s.is o h s.in_it in
    subst (λ (z : Trees). Across a c z y) (sym r.0) (subst (λ (z : Trees). Across a c s.before z) (sym r.2) s.across)

-- ---- in another order of the branches

put_middles : (a b c : ℕ) {t : Tree} {us vs : Trees} → Put t us vs → Middle a b c t ⊎ Middles a b c us → Middles a b c vs
put_middles a b c first m = m
put_middles a b c (after p) (inl m) = inr (put_middles a b c p (inl m))
put_middles a b c (after p) (inr (inl m)) = inl m
put_middles a b c (after p) (inr (inr m)) = inr (put_middles a b c p (inr m))

pub mixed_middles : (a b c : ℕ) {ts us : Trees} → Mixed ts us → Middles a b c ts → Middles a b c us
mixed_middles a b c no_more m = m
mixed_middles a b c (put x p) (inl m) = put_middles a b c p (inl m)
mixed_middles a b c (put x p) (inr m) = put_middles a b c p (inr (mixed_middles a b c x m))
