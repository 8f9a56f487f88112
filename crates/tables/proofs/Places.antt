-- The bytes of an order: n different graves below n have each grave once, and so are the row of an order.
use Rattle.std.proofs.Common.{◌≡◌, ℕ, zero, suc, ◌+◌, ◌<◌, ◌≤◌, Bool, true, false, eqb, ◌≢◌, List, [], ◌∷◌, length, get_or, sym, refl, ap, ◌∙◌, inl, inr, arith, eq-eqb, ne_eqb, eqb-true}
use native.Mathlib.Decide.{dec_lt, ℕ_discrete}
use Rattle.finds.specs.Counts.{hit, count}
use Rattle.finds.specs.Finds.{Order, OneStretch}
use Rattle.finds.specs.Exactness.{RowOf}
use Rattle.finds.proofs.Start.{Whole}
use Rattle.std.proofs.lemmas.List.{get_or_default}
use Rattle.tables.specs.Orders.{GoodOrder, Between}

-- ---- sums below n

-- The sum of f below n.
abbrev sum : (ℕ → ℕ) → ℕ → ℕ
sum f zero = 0
sum f (suc n) = sum f n + f n

sum_plus : (f g : ℕ → ℕ) (n : ℕ) → sum (λ i. f i + g i) n ≡ sum f n + sum g n
sum_plus f g zero = refl
sum_plus f g (suc n) = let z = sum_plus f g n in omega arith

-- One place counts 1 in all.
sum_hit_none : (x n : ℕ) → n ≤ x → sum (λ g. hit (eqb g x) true) n ≡ 0
sum_hit_none x zero h = refl
sum_hit_none x (suc n) h = let z = sum_hit_none x n (omega arith) in let e : hit (eqb n x) true ≡ 0 = rw (ne_eqb n x (omega arith)) in omega arith

sum_hit : (x n : ℕ) → x < n → sum (λ g. hit (eqb g x) true) n ≡ 1
sum_hit x zero h = absurd (omega arith)
sum_hit x (suc n) h = go (ℕ_discrete n x) (sum_hit x n)
  where
    go : Dec (n ≡ x) → (x < n → sum (λ g. hit (eqb g x) true) n ≡ 1) → sum (λ g. hit (eqb g x) true) (suc n) ≡ 1
    go (yes e) ih = let z = sum_hit_none x n (omega arith) in let y : hit (eqb n x) true ≡ 1 = rw (eq-eqb n x e) in omega arith
    go (no e) ih = let z = ih (omega arith) in let y : hit (eqb n x) true ≡ 0 = rw (ne_eqb n x e) in omega arith

-- If each is at most 1 and they add up to n, each is 1.
sum_few : (f : ℕ → ℕ) (n : ℕ) → ((i : ℕ) → i < n → f i ≤ 1) → sum f n ≤ n
sum_few f zero h = omega arith
sum_few f (suc n) h = let z = sum_few f n (λ i l. h i (omega arith)) in let y = h n (omega arith) in omega arith

sum_full : (f : ℕ → ℕ) (n : ℕ) → ((i : ℕ) → i < n → f i ≤ 1) → sum f n ≡ n → (i : ℕ) → i < n → f i ≡ 1
sum_full f zero h e i l = absurd (omega arith)
sum_full f (suc n) h e i l = go (dec_lt i n) (λ s. sum_full f n (λ j m. h j (omega arith)) s i)
  where
    low : sum f n ≤ n
    low = sum_few f n (λ j m. h j (omega arith))

    go : Dec (i < n) → (sum f n ≡ n → i < n → f i ≡ 1) → f i ≡ 1
    go (yes d) ih = ih (let y = h n (omega arith) in omega (arith, low)) d
    go (no d) ih = let z : i ≡ n = omega arith in let y = h n (omega arith) in rw z (omega (arith, low))

-- ---- how often a grave stands in a row

-- The graves below n, counted one by one, are all graves of a row that has no others.
count_all : (n : ℕ) (l : List ℕ) → ((p : ℕ) → p < length l → get_or l p 0 < n) → sum (λ g. count (eqb g) true l) n ≡ length l
count_all n [] h = none n
  where
    none : (n : ℕ) → sum (λ g. 0) n ≡ 0
    none zero = refl
    none (suc n) = let z = none n in omega arith
count_all n (x ∷ l) h =
    let y = count_all n l (λ p q. h (suc p) (omega arith)) in let z = sum_hit x n (h 0 (omega arith)) in
    let e = sum_plus (λ g. hit (eqb g x) true) (λ g. count (eqb g) true l) n in omega arith

-- A grave that stands at no place counts nothing.
count_absent : (g : ℕ) (l : List ℕ) → ((p : ℕ) → p < length l → get_or l p 0 ≢ g) → count (eqb g) true l ≡ 0
count_absent g [] h = refl
count_absent g (x ∷ l) h = let z = count_absent g l (λ p q. h (suc p) (omega arith)) in let y : eqb g x ≡ false = ne_eqb g x (λ e. h 0 (omega arith) (sym e)) in rw y (omega arith)

-- A grave that stands at no two places counts at most 1.
count_once : (g : ℕ) (l : List ℕ) → ((p q : ℕ) → p < q → q < length l → get_or l p 0 ≢ get_or l q 0) → count (eqb g) true l ≤ 1
count_once g [] h = omega arith
count_once g (x ∷ l) h = go (eqb g x) refl (count_once g l (λ p q u v. h (suc p) (suc q) (omega arith) (omega arith)))
  where
    go : (b : Bool) → eqb g x ≡ b → count (eqb g) true l ≤ 1 → hit b true + count (eqb g) true l ≤ 1
    go true e ih = let z = count_absent g l (λ p q d. h 0 (suc p) (omega arith) (omega arith) (sym (eqb-true g x e) ∙ sym d)) in omega arith
    go false e ih = omega arith

-- ---- the order of the bytes

module _ (n : ℕ) (l : List ℕ) (good : GoodOrder n l) where
  -- The bytes are graves below n, and no two are the same.
  pub order_below : (p : ℕ) → p < n → get_or l p 0 < n
  order_below p m = go (dec_lt (get_or l p 0) n)
    where
      go : Dec (get_or l p 0 < n) → get_or l p 0 < n
      go (yes d) = d
      go (no d) = absurd (good.1 p m (inl (omega arith)))

  order_apart : (p q : ℕ) → p < q → q < n → get_or l p 0 ≢ get_or l q 0
  order_apart p q u v e = good.1 q v (inr (p, u, e))

  -- So they have each grave once.
  pub order_whole : Whole n l
  order_whole =
      let long = good.0 in
      record {
        long = long;
        once = sum_full (λ g. count (eqb g) true l) n (λ g m. count_once g l (λ p q u v. order_apart p q u (omega arith))) (count_all n l (λ p q. order_below p (omega arith)) ∙ long);
        never = λ g m. count_absent g l (λ p q e. let z = order_below p (omega arith) in omega arith);
      }

  module _ (o : Order n) (row : RowOf n o l) where
    -- At the place of a grave stands the grave.
    at_place : (g : ℕ) → g < n → get_or l (o.place g) 0 ≡ g
    unfolding RowOf
    at_place g h = get_or_default l (o.place g) 0 n (let z = good.0 in let y = o.within g h in omega arith) ∙ row.1 g h

    -- And the place of the grave that stands at p is p.
    place_at : (p : ℕ) → p < n → o.place (get_or l p 0) ≡ p
    place_at p h = go (dec_lt q p) (dec_lt p q)
      where
        q : ℕ
        q = o.place (get_or l p 0)

        low : q < n
        low = o.within (get_or l p 0) (order_below p h)

        same : get_or l q 0 ≡ get_or l p 0
        same = at_place (get_or l p 0) (order_below p h)

        go : Dec (q < p) → Dec (p < q) → q ≡ p
        go (yes d) e = absurd (order_apart q p d h same)
        go (no d) (yes e) = absurd (order_apart p q e low (sym same))
        go (no d) (no e) = omega arith

    module _ (k : ℕ → Bool) where
      -- Where no grave lies between two of the kind without having it, the kind was in use for one stretch.
      pub untorn : ((p : ℕ) → p < length l → Between k l p → ⊥) → OneStretch n o k
      unfolding OneStretch
      untorn h a b c la lb lc ka kb kc ab bc =
          h (o.place b) (let z = good.0 in let y = o.within b lb in omega arith)
          (record {
            lacks = ap k (at_place b lb) ∙ kb;
            before = o.place a;
            before_lt = ab;
            before_has = ap k (at_place a la) ∙ ka;
            behind = o.place c;
            behind_gt = bc;
            behind_lt = let z = good.0 in let y = o.within c lc in omega arith;
            behind_has = ap k (at_place c lc) ∙ kc;
          })

      -- And where one does, it was not.
      pub torn_by : (p : ℕ) → Between k l p → OneStretch n o k → ⊥
      unfolding OneStretch
      torn_by p t h =
          let z = good.0 in let u = t.before_lt in let v = t.behind_gt in let w = t.behind_lt in
          let x = place_at t.before (omega arith) in let y = place_at p (omega arith) in let q = place_at t.behind (omega arith) in
          h (get_or l t.before 0) (get_or l p 0) (get_or l t.behind 0) (order_below t.before (omega arith)) (order_below p (omega arith)) (order_below t.behind (omega arith))
          t.before_has t.lacks t.behind_has (omega arith) (omega arith)
