-- One stretch by cuts of a row, and by places of an order, are the same.
use Rattle.std.proofs.Common.{◌≡◌, ℕ, zero, suc, ◌+◌, ◌-◌, ◌<◌, ◌≤◌, Bool, true, false, eqb, ◌⊎◌, List, [], ◌∷◌, ◌++◌, length, get_or, sym, refl, ap, ◌∙◌, inl, inr, true≢false, arith, length-append, eq-eqb}
use mathlib.Core.Bool.{false≢true}
use native.Mathlib.Decide.{dec_lt}
use lib.ListN.{get_or-append}
use Rattle.std.proofs.lemmas.List.{get_or-append_right}
use Rattle.finds.specs.Finds.{Order, OneStretch}
use Rattle.finds.specs.Exactness.{RowOf}
use Rattle.finds.specs.Counts.{hit, count}
use Rattle.finds.proofs.Start.{Whole, count_at}
use Rattle.pqtree.proofs.Words.{Rise, Stretch, rise_lacks, rise_skip, stretch_fall, stretch_lacks, stretch_skip}

-- ---- a row has the kind in one stretch, or is torn

module _ (k : ℕ → Bool) (d : ℕ) where
  -- A place of the row with the kind (b is true) or without it.
  record Place (b : Bool) (l : List ℕ) : Type 0 where
    pub at : ℕ
    pub within : at < length l
    pub is : k (get_or l at d) ≡ b

  -- A place without the kind, and one with it after that.
  record Gap (l : List ℕ) : Type 0 where
    pub at : ℕ
    pub then : Place true l
    pub before : at < then.at
    pub is : k (get_or l at d) ≡ false

  -- A place with the kind, one without it after that, and one with it after both.
  record Torn (l : List ℕ) : Type 0 where
    pub at : ℕ
    pub then : Gap l
    pub before : at < then.at
    pub is : k (get_or l at d) ≡ true

  abbrev later : {b : Bool} (x : ℕ) {l : List ℕ} → Place b l → Place b (x ∷ l)
  later x p = record { at = suc p.at; within = omega (arith, p.within); is = p.is }

  abbrev gap_later : (x : ℕ) {l : List ℕ} → Gap l → Gap (x ∷ l)
  gap_later x g = record { at = suc g.at; then = later x g.then; before = omega (arith, g.before); is = g.is }

  free_or : (b : Bool) (l : List ℕ) → (count k b l ≡ 0) ⊎ Place b l
  free_or b [] = inl refl
  free_or b (x ∷ l) = go (k x) b refl (free_or b l)
    where
      on : (y b : Bool) → hit y b ≡ 0 → (count k b l ≡ 0) ⊎ Place b l → (hit y b + count k b l ≡ 0) ⊎ Place b (x ∷ l)
      on y b e (inl h) = inl (omega arith)
      on y b e (inr p) = inr (later x p)

      go : (y b : Bool) → k x ≡ y → (count k b l ≡ 0) ⊎ Place b l → (hit y b + count k b l ≡ 0) ⊎ Place b (x ∷ l)
      go true true e r = inr (record { at = 0; within = omega arith; is = e })
      go true false e r = on true false refl r
      go false true e r = on false true refl r
      go false false e r = inr (record { at = 0; within = omega arith; is = e })

  fall_or : (l : List ℕ) → Rise k false l ⊎ Gap l
  fall_or [] = inl (rise_lacks k false true [] refl)
  fall_or (x ∷ l) = go (k x) refl (free_or true l) (fall_or l)
    where
      go : (y : Bool) → k x ≡ y → (count k true l ≡ 0) ⊎ Place true l → Rise k false l ⊎ Gap l → Rise k false (x ∷ l) ⊎ Gap (x ∷ l)
      go true e f (inl r) = inl (rise_skip k false (x ∷ []) l (rw e) r)
      go true e f (inr g) = inr (gap_later x g)
      go false e (inl f) r = inl (rise_lacks k false true (x ∷ l) (rw e (omega arith)))
      go false e (inr p) r = inr (record { at = 0; then = later x p; before = omega arith; is = e })

  stretch_or : (l : List ℕ) → Stretch k l ⊎ Torn l
  stretch_or [] = inl (stretch_lacks k true [] refl)
  stretch_or (x ∷ l) = go (k x) refl (fall_or l) (stretch_or l)
    where
      go : (y : Bool) → k x ≡ y → Rise k false l ⊎ Gap l → Stretch k l ⊎ Torn l → Stretch k (x ∷ l) ⊎ Torn (x ∷ l)
      go true e (inl r) s = inl (stretch_fall k (x ∷ l) (rise_skip k false (x ∷ []) l (rw e) r))
      go true e (inr g) s = inr (record { at = 0; then = gap_later x g; before = omega arith; is = e })
      go false e r (inl s) = inl (stretch_skip k (x ∷ []) l (rw e) s)
      go false e r (inr t) = inr (record { at = suc t.at; then = gap_later x t.then; before = omega (arith, t.before); is = t.is })

  -- ---- and not both

  free_at : (b : Bool) (l : List ℕ) (i : ℕ) → count k b l ≡ 0 → i < length l → k (get_or l i d) ≡ b → ⊥
  free_at b [] i e h q = omega arith
  free_at b (x ∷ l) zero e h q = go (k x) b q e
    where
      go : (y b : Bool) → y ≡ b → hit y b + count k b l ≡ 0 → ⊥
      go true true q e = omega arith
      go true false q e = true≢false q
      go false true q e = false≢true q
      go false false q e = omega arith
  free_at b (x ∷ l) (suc i) e h q = free_at b l i (omega arith) (omega arith) q

  -- The first place lies where the kind is lacking, or the second where it is not, or the third where it is lacking again.
  untorn : (l : List ℕ) (i j h : ℕ) → Stretch k l → i < j → j < h → h < length l → k (get_or l i d) ≡ true → k (get_or l j d) ≡ false → k (get_or l h d) ≡ true → ⊥
  untorn l i j h s u v w x y z = go (dec_lt i (length e)) (dec_lt (h - length e) (length f))
    where
      e : List ℕ
      e = s.fore

      f : List ℕ
      f = s.falls.fore

      g : List ℕ
      g = s.falls.rest

      is : l ≡ e ++ (f ++ g)
      is = s.is ∙ ap (λ (q : List ℕ). e ++ q) s.falls.is

      long : length l ≡ length e + (length f + length g)
      long = ap length is ∙ length-append e (f ++ g) ∙ ap (λ (q : ℕ). length e + q) (length-append f g)

      past : (q : ℕ) → length e ≤ q → get_or l q d ≡ get_or (f ++ g) (q - length e) d
      past q p = ap (λ (c : List ℕ). get_or c q d) is ∙ get_or-append_right e (f ++ g) (length e) q d refl p

      go : Dec (i < length e) → Dec (h - length e < length f) → ⊥
      go (yes p) q = free_at true e i s.lacks p (sym (ap k (ap (λ (c : List ℕ). get_or c i d) is ∙ get_or-append e (f ++ g) d i p)) ∙ x)
      go (no p) (yes q) =
          let lt : j - length e < length f = omega arith in
          free_at false f (j - length e) s.falls.lacks lt (sym (ap k (past j (omega arith) ∙ get_or-append f g d (j - length e) lt)) ∙ y)
      go (no p) (no q) =
          free_at true g (h - length e - length f) s.falls.keeps (omega (arith, long))
          (sym (ap k (past h (omega arith) ∙ get_or-append_right f g (length f) (h - length e) d refl (omega arith))) ∙ z)

-- ---- each place of an order's row is the place of its grave

-- A grave has one place in a row in which it is once.
one_place : (g : ℕ) (l : List ℕ) (i j d : ℕ) → count (eqb g) true l ≡ 1 → i < length l → j < length l → get_or l i d ≡ g → get_or l j d ≡ g → i ≡ j
one_place g [] i j d c h m e f = absurd (omega arith)
one_place g (x ∷ l) zero zero d c h m e f = refl
one_place g (x ∷ l) zero (suc j) d c h m e f = absurd (let z : hit (eqb g x) true ≡ 1 = rw (eq-eqb g x (sym e)) in let y = count_at g l j d (omega arith) f in omega arith)
one_place g (x ∷ l) (suc i) zero d c h m e f = absurd (let z : hit (eqb g x) true ≡ 1 = rw (eq-eqb g x (sym f)) in let y = count_at g l i d (omega arith) e in omega arith)
one_place g (x ∷ l) (suc i) (suc j) d c h m e f = ap suc (one_place g l i j d (let y = count_at g l i d (omega arith) e in omega arith) (omega arith) (omega arith) e f)

row_place : (n : ℕ) (o : Order n) (l : List ℕ) → RowOf n o l → Whole n l → (i : ℕ) → i < n → (get_or l i n < n) × (o.place (get_or l i n) ≡ i)
unfolding RowOf
row_place n o l r w i h = (lt, one_place g l (o.place g) i n (w.once g lt) (omega (arith, o.within g lt, w.long)) (omega (arith, w.long)) (r.1 g lt) refl)
  where
    g : ℕ
    g = get_or l i n

    known : Dec (g < n) → g < n
    known (yes p) = p
    known (no p) = absurd (let z = count_at g l i n (omega (arith, w.long)) refl in let y = w.never g (omega arith) in omega arith)

    lt : g < n
    lt = known (dec_lt g n)

-- ---- the two are the same

pub stretch_one : (n : ℕ) (o : Order n) (l : List ℕ) (k : ℕ → Bool) → RowOf n o l → Stretch k l → OneStretch n o k
unfolding RowOf OneStretch
stretch_one n o l k r s a b c la lb lc ka kb kc u v =
    untorn k n l (o.place a) (o.place b) (o.place c) s u v (omega (arith, o.within c lc, r.0)) (ap k (r.1 a la) ∙ ka) (ap k (r.1 b lb) ∙ kb) (ap k (r.1 c lc) ∙ kc)

pub one_stretch : (n : ℕ) (o : Order n) (l : List ℕ) (k : ℕ → Bool) → RowOf n o l → Whole n l → OneStretch n o k → Stretch k l
unfolding OneStretch
one_stretch n o l k r w f = go (stretch_or k n l)
  where
    go : Stretch k l ⊎ Torn k n l → Stretch k l
    go (inl s) = s
    go (inr t) =
        let q = t.then in
        let p = q.then in
        let y = w.long in
        let a = row_place n o l r w t.at (omega (arith, t.before, q.before, p.within)) in
        let b = row_place n o l r w q.at (omega (arith, q.before, p.within)) in
        let c = row_place n o l r w p.at (omega (arith, p.within)) in
        absurd
        (f (get_or l t.at n) (get_or l q.at n) (get_or l p.at n) a.0 b.0 c.0 t.is q.is p.is
        (omega (arith, t.before, a.1, b.1)) (omega (arith, q.before, b.1, c.1)))
