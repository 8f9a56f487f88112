-- The laws of fitting orders: what a clash and a ground exclude, and what one kind more, turning round and another sequence of kinds do.
use Rattle.std.proofs.Common.{◌≡◌, ℕ, zero, suc, ◌+◌, ◌<◌, Bool, true, false, not, ltb, ◌≢◌, List, [], ◌∷◌, length, get_or, sym, refl, ap, ◌∙◌, subst, true≢false, arith, le-ltb, lt-ltb}
use mathlib.Core.List.Permᴰ
use mathlib.Core.List.{Permᴰ}
use native.Mathlib.Decide.{dec_lt}
use Rattle.finds.specs.Finds.{Finds, Order, OneStretch, Fits, Pair, Clash, turned, between, Walk, here, on, off}
use Rattle.finds.specs.Parity.{odd}
use Rattle.finds.specs.Laws.{GroundLaw, JustOne, says, with_kind, OneKindMore, TurnedFits, AnySequence}
use Rattle.finds.proofs.Parity.{◌⊕◌, not_not, ⊕_not, not_same, even}

-- ---- of two clashing pairs just one is so

-- Graves that a kind tells apart are different.
pub told_apart : (k : ℕ → Bool) {a b : ℕ} → k a ≡ true → k b ≡ false → a ≢ b
told_apart k ka kb e = true≢false (sym ka ∙ ap k e ∙ kb)

-- If y lies neither between x and z nor between z and x, then x < y just where y < z is false.
not_between : (x y z : ℕ) → x ≢ y → y ≢ z → (x < y → y < z → ⊥) → (z < y → y < x → ⊥) → ltb x y ≡ not (ltb y z)
not_between x y z n m h k = go (dec_lt x y) (dec_lt y z)
  where
    go : Dec (x < y) → Dec (y < z) → ltb x y ≡ not (ltb y z)
    go (yes p) (yes q) = absurd (h p q)
    go (yes p) (no q) = lt-ltb x y p ∙ ap not (sym (le-ltb y z (omega arith)))
    go (no p) (yes q) = le-ltb x y (omega arith) ∙ ap not (sym (lt-ltb y z q))
    go (no p) (no q) = absurd (k (omega arith) (omega arith))

module _ (f : Finds) (o : Order f.graves) (fit : Fits f o) where
  places_differ : (a b : ℕ) → a < f.graves → b < f.graves → a ≢ b → o.place a ≢ o.place b
  places_differ a b la lb ne e = ne (o.apart a b la lb e)

  one_of : {p q : Pair} → Clash f p q → says o p ≡ not (says o q)
  unfolding says Fits OneStretch
  one_of (turned {a = a} {b = b} la lb ne) =
      not_between (o.place a) (o.place b) (o.place a) (places_differ a b la lb ne) (λ e. places_differ a b la lb ne (sym e)) (omega arith) (omega arith)
  one_of (between {a = a} {b = b} {c = c} i d h la lb lc ka kb kc) =
      let k = get_or f.kinds i d in
      not_between (o.place a) (o.place b) (o.place c) (places_differ a b la lb (told_apart k ka kb)) (λ e. places_differ c b lc lb (told_apart k kc kb) (sym e))
      (fit i d h a b c la lb lc ka kb kc) (fit i d h c b a lc lb la kc kb ka)

  -- So what is so changes at each step of a walk.
  walk_says : {n : ℕ} {p q : Pair} → Walk f n p q → says o q ≡ says o p ⊕ odd n
  walk_says here = refl
  walk_says (on {n = n} {p = p} {q = q} {r = r} w c) = sym (not_not (says o r)) ∙ ap not (sym (one_of c) ∙ walk_says w) ∙ ⊕_not (says o p) (odd n)
  walk_says (off {n = n} {p = p} w c) = one_of c ∙ ap not (walk_says w) ∙ ⊕_not (says o p) (odd n)

pub just_one : JustOne
just_one f o p q fit c = one_of f o fit c

-- A ground has an odd number of steps, so its first pair would be so and not so.
pub ground_law : GroundLaw
ground_law f g o fit =
    not_same (says o g.start) (walk_says f o fit g.walk ∙ ap (λ (b : Bool). says o g.start ⊕ not b) (even (g.half + g.half) g.half refl))

-- ---- one kind more, and the order turned round

pub one_kind_more : OneKindMore
unfolding Fits
one_kind_more f k o = ((λ h. ((λ i d l. h (suc i) d (omega arith)), h 0 k (omega arith))), more)
  where
    more : Fits f o → OneStretch f.graves o k → Fits (with_kind f k) o
    more h s zero d l = s
    more h s (suc i) d l = h i d (omega arith)

pub turned_fits : TurnedFits
unfolding Fits OneStretch
turned_fits f o q e fit i d l a b c la lb lc ka kb kc ab bc =
    let x = e a la in let y = e b lb in let z = e c lc in fit i d l c b a lc lb la kc kb ka (omega arith) (omega arith)

-- ---- the kinds in another sequence

module _ (n : ℕ) (o : Order n) where
  -- Each kind of a list was in use for one stretch.
  abbrev Each : List (ℕ → Bool) → Type 0
  Each [] = Unit {0}
  Each (k ∷ ks) = OneStretch n o k × Each ks

  each_of : (ks : List (ℕ → Bool)) → ((i : ℕ) (d : ℕ → Bool) → i < length ks → OneStretch n o (get_or ks i d)) → Each ks
  each_of [] h = tt
  each_of (k ∷ ks) h = (h 0 k (omega arith), each_of ks (λ i d l. h (suc i) d (omega arith)))

  of_each : (ks : List (ℕ → Bool)) → Each ks → (i : ℕ) (d : ℕ → Bool) → i < length ks → OneStretch n o (get_or ks i d)
  of_each [] h i d l = absurd (omega arith)
  of_each (k ∷ ks) h zero d l = h.0
  of_each (k ∷ ks) h (suc i) d l = of_each ks h.1 i d (omega arith)

  permuted : {xs ys : List (ℕ → Bool)} → Permᴰ xs ys → Each xs → Each ys
  permuted Permᴰ.nil h = h
  permuted (Permᴰ.cons e s) h = (subst (OneStretch n o) e h.0, permuted s h.1)
  permuted (Permᴰ.swap e g) h = (subst (OneStretch n o) g h.1.0, (subst (OneStretch n o) e h.0, h.1.1))
  permuted (Permᴰ.trans s t) h = permuted t (permuted s h)

  fits_permuted : {xs ys : List (ℕ → Bool)} → Permᴰ xs ys → Fits (record { graves = n; kinds = xs }) o → Fits (record { graves = n; kinds = ys }) o
  unfolding Fits
  fits_permuted {xs} {ys} s fit = of_each ys (permuted s (each_of xs fit))

pub any_sequence : AnySequence
any_sequence n xs ys o s = (fits_permuted n o s, fits_permuted n o (Permᴰ.symm s))
