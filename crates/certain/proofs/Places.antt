-- Places in rows of graves: in rows that are joined, in rows turned round, and in the rows of orders.
use Rattle.std.proofs.Common.{◌≡◌, ℕ, zero, suc, ◌+◌, ◌<◌, ◌≤◌, Bool, true, false, cond, eqb, List, [], ◌∷◌, ◌++◌, reverse, length, get_or, sym, refl, ap, ◌∙◌, inl, inr, arith, eq-eqb}
use mathlib.Core.List.{reverse-cons}
use Rattle.std.proofs.lemmas.List.{length-reverse}
use Rattle.finds.specs.Counts.{hit, count}
use Rattle.finds.specs.Exactness.{RowOf}
use Rattle.finds.specs.Finds.{Order}
use Rattle.finds.proofs.Counts.{count_reverse}
use Rattle.finds.proofs.Start.{Whole, count_at}
use Rattle.certain.specs.Certain.{Lies, place_in}

-- A grave that is in the first part has its place there.
pub place_left : (g : ℕ) (a c : List ℕ) → 1 ≤ count (eqb g) true a → (place_in (a ++ c) g ≡ place_in a g) × (place_in a g < length a)
place_left g [] c h = absurd (omega arith)
place_left g (x ∷ a) c h = go (eqb g x) h (place_left g a c)
  where
    go : (b : Bool) → 1 ≤ hit b true + count (eqb g) true a → (1 ≤ count (eqb g) true a → (place_in (a ++ c) g ≡ place_in a g) × (place_in a g < length a)) →
        (cond b 0 (suc (place_in (a ++ c) g)) ≡ cond b 0 (suc (place_in a g))) × (cond b 0 (suc (place_in a g)) < suc (length a))
    go true h ih = (refl, omega arith)
    go false h ih = let r = ih (omega arith) in (ap suc r.0, omega (arith, r.1))

-- One that is not has its place in the rest.
pub place_right : (g : ℕ) (a c : List ℕ) → count (eqb g) true a ≡ 0 → place_in (a ++ c) g ≡ length a + place_in c g
place_right g [] c h = omega arith
place_right g (x ∷ a) c h = go (eqb g x) h (place_right g a c)
  where
    go : (b : Bool) → hit b true + count (eqb g) true a ≡ 0 → (count (eqb g) true a ≡ 0 → place_in (a ++ c) g ≡ length a + place_in c g) →
        cond b 0 (suc (place_in (a ++ c) g)) ≡ suc (length a) + place_in c g
    go true h ih = absurd (omega arith)
    go false h ih = let r = ih (omega arith) in omega arith

-- Turned round, the place counts from the other end.
pub place_turn : (g : ℕ) (l : List ℕ) → count (eqb g) true l ≡ 1 → place_in (reverse l) g + place_in l g + 1 ≡ length l
place_turn g [] h = absurd (omega arith)
place_turn g (x ∷ l) h = rw reverse-cons (go (eqb g x) refl h (place_turn g l))
  where
    last : (b : Bool) → eqb g x ≡ b → b ≡ true → place_in (x ∷ []) g ≡ 0
    last b e h = rw (e ∙ h) refl

    go : (b : Bool) → eqb g x ≡ b → hit b true + count (eqb g) true l ≡ 1 → (count (eqb g) true l ≡ 1 → place_in (reverse l) g + place_in l g + 1 ≡ length l) →
        place_in (reverse l ++ (x ∷ [])) g + cond b 0 (suc (place_in l g)) + 1 ≡ suc (length l)
    go true e h ih =
        let z = place_right g (reverse l) (x ∷ []) (count_reverse (eqb g) true l ∙ (omega arith)) in let y = last true e refl in let n = length-reverse l in omega arith
    go false e h ih =
        let r = ih (omega arith) in let z = place_left g (reverse l) (x ∷ []) (let y = count_reverse (eqb g) true l in omega arith) in omega (arith, z.0)

-- A grave that is in the row once has the place where it stands.
pub place_at : (g : ℕ) (l : List ℕ) (i d : ℕ) → count (eqb g) true l ≤ 1 → i < length l → get_or l i d ≡ g → place_in l g ≡ i
place_at g [] i d c h e = absurd (omega arith)
place_at g (x ∷ l) zero d c h e = rw (eq-eqb g x (sym e)) refl
place_at g (x ∷ l) (suc i) d c h e = go (eqb g x) c (place_at g l i d)
  where
    go : (b : Bool) → hit b true + count (eqb g) true l ≤ 1 → (count (eqb g) true l ≤ 1 → i < length l → get_or l i d ≡ g → place_in l g ≡ i) → cond b 0 (suc (place_in l g)) ≡ suc i
    go true c ih = absurd (let z = count_at g l i d (omega arith) e in omega arith)
    go false c ih = ap suc (ih (omega arith) (omega arith) e)

-- By the row of an order each grave has its place in the order.
pub place_row : (n : ℕ) (o : Order n) (l : List ℕ) → RowOf n o l → Whole n l → (g : ℕ) → g < n → place_in l g ≡ o.place g
unfolding RowOf
place_row n o l r w g h = place_at g l (o.place g) n (let z = w.once g h in omega arith) (let z = o.within g h in let y = r.0 in omega arith) (r.1 g h)

-- What lies between by some places does so by places that are all moved alike.
pub lies_moved : (p q : ℕ → ℕ) (d a b c : ℕ) → q a ≡ d + p a → q b ≡ d + p b → q c ≡ d + p c → Lies p a b c → Lies q a b c
lies_moved p q d a b c x y z (inl h) = inl (omega arith, omega arith)
lies_moved p q d a b c x y z (inr h) = inr (omega arith, omega arith)
