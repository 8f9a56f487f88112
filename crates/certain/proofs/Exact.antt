-- What a tree of exactly the orders that fit says of them: its graves, and what is certain.
use Rattle.std.proofs.Common.{◌≡◌, ℕ, ◌+◌, ◌<◌, ◌≤◌, Bool, true, eqb, ◌⊎◌, List, [], ◌∷◌, length, sym, refl, ◌∙◌, inl, inr, arith}
use native.Mathlib.Decide.{dec_lt}
use Rattle.finds.specs.Counts.{count, count_t}
use Rattle.finds.specs.Exactness.{RowOf, Exactly}
use Rattle.finds.specs.Finds.{Finds, Order}
use Rattle.finds.specs.Trees.{Tree, Allows, graves}
use Rattle.finds.proofs.Counts.{allows_count}
use Rattle.finds.proofs.Start.{row_whole, has_row, fill}
use Rattle.pqtree.proofs.Reading.{reads}
use Rattle.certain.specs.Certain.{Lies, Between, place_in}
use Rattle.certain.specs.Middle.{In, Middle}
use Rattle.certain.specs.Theorems.{BetweenMiddle}
use Rattle.certain.proofs.Firm.{firm}
use Rattle.certain.proofs.Loose.{told}
use Rattle.certain.proofs.Middle.{middle_in}
use Rattle.certain.proofs.Places.{place_row, lies_moved}

none_in : (k : ℕ → Bool) (b : Bool) (l : List ℕ) → length l ≡ 0 → count k b l ≡ 0
none_in k b [] e = refl
none_in k b (g ∷ l) e = absurd (omega arith)

module _ (f : Finds) (t : Tree) (x : Exactly f t) where
  -- The tree has each grave once, and no other.
  pub exact_count : (g : ℕ) → (g < f.graves → count_t (eqb g) true t ≡ 1) × (f.graves ≤ g → count_t (eqb g) true t ≡ 0)
  unfolding Exactly RowOf
  exact_count g =
      let o = x.1 (graves t) (reads t) in
      let n = allows_count (eqb g) true (reads t) in
      ((λ h. sym n ∙ (row_whole f.graves (omega arith) o.0 (graves t) o.1).once g h), λ h. sym n ∙ go (dec_lt 0 f.graves) o h)
    where
      go : Dec (0 < f.graves) → (o : Order f.graves) × RowOf f.graves o (graves t) → f.graves ≤ g → count (eqb g) true (graves t) ≡ 0
      go (yes d) o h = (row_whole f.graves d o.0 (graves t) o.1).never g h
      go (no d) o h = none_in (eqb g) true (graves t) (omega (arith, o.1.0))

  exact_once : (g : ℕ) → count_t (eqb g) true t ≤ 1
  exact_once g = go (dec_lt g f.graves)
    where
      go : Dec (g < f.graves) → count_t (eqb g) true t ≤ 1
      go (yes d) = omega (arith, (exact_count g).0 d)
      go (no d) = omega (arith, (exact_count g).1 (omega arith))

  pub in_below : (g : ℕ) → In g t → g < f.graves
  in_below g i = go (dec_lt g f.graves)
    where
      go : Dec (g < f.graves) → g < f.graves
      go (yes d) = d
      go (no d) = absurd (omega (arith, (exact_count g).1 (omega arith)))

  -- The places in an allowed row are those of its order.
  same_place : (o : Order f.graves) (l : List ℕ) → RowOf f.graves o l → (g : ℕ) → g < f.graves → place_in l g ≡ o.place g
  same_place o l r g h = place_row f.graves o l r (row_whole f.graves (omega arith) o l r) g h

  module _ (a b c : ℕ) where
    -- In each allowed row, and so in the reading, b lies between: then the tree has it in the middle.
    to_middle : Between f a b c → Middle a b c t
    unfolding Exactly
    to_middle k = go (told a b c t exact_once (there a k.first) (there b k.middle) (there c k.last))
      where
        there : (g : ℕ) → g < f.graves → In g t
        there g h = omega (arith, (exact_count g).0 h)

        lies : (l : List ℕ) → Allows t l → Lies (place_in l) a b c
        lies l p =
            let o = x.1 l p in
            let at : (g : ℕ) → g < f.graves → place_in l g ≡ 0 + o.0.place g = (λ g h. let e = same_place o.0 l o.1 g h in omega arith) in
            lies_moved o.0.place (place_in l) 0 a b c (at a k.first) (at b k.middle) (at c k.last) (k.each o.0 ((x.0 o.0 l o.1).1 p))

        go : Middle a b c t ⊎ ((l : List ℕ) × Allows t l × (Lies (place_in l) a b c → ⊥)) → Middle a b c t
        go (inl m) = m
        go (inr w) = absurd (w.2 (lies w.0 w.1))

    from_middle : Middle a b c t → Between f a b c
    unfolding Exactly
    from_middle m = record {
      first = below a i.0;
      middle = below b i.1;
      last = below c i.2;
      each = λ o h.
          let l = fill o f.graves in
          let at : (g : ℕ) → In g t → o.place g ≡ 0 + place_in l g = (λ g i. let e = same_place o l (has_row o) g (below g i) in omega arith) in
          lies_moved (place_in l) o.place 0 a b c (at a i.0) (at b i.1) (at c i.2) (firm a b c t exact_once m l ((x.0 o l (has_row o)).0 h));
    }
      where
        below : (g : ℕ) → In g t → g < f.graves
        below = in_below

        i : In a t × In b t × In c t
        i = middle_in a b c t m

pub between_middle : BetweenMiddle
between_middle f t x a b c = (to_middle f t x a b c, from_middle f t x a b c)
