-- If the tree does not have b in the middle of a row, it allows a row in which b does not lie between a and c.
use Rattle.std.proofs.Common.{◌≡◌, ℕ, ◌+◌, ◌<◌, ◌≤◌, true, eqb, ◌⊎◌, List, [], ◌∷◌, ◌++◌, reverse, length, sym, refl, ap, ◌∙◌, subst, inl, inr, ⊎_elim, arith}
use native.Mathlib.Decide.{dec_le}
use Rattle.finds.specs.Branches.{◌+++◌}
use Rattle.finds.specs.Counts.{count_t, count_ts}
use Rattle.finds.specs.Trees.{Tree, grave, any, row, Trees, none, more, Allows, one, mixed, straight, InRow, next, graves, all_graves}
use Rattle.finds.proofs.Branches.{Alls, alls_right, mixed_refl, mixed_mid}
use Rattle.finds.proofs.Counts.{count_ts_plus, allows_count, in_plus, allows_turn}
use Rattle.pqtree.proofs.Fitting.{Held}
use Rattle.pqtree.proofs.Reading.{reads, reads_all}
use Rattle.certain.specs.Certain.{Lies, place_in}
use Rattle.certain.specs.Middle.{In, InSome, Sides, Middle, Middles}
use Rattle.certain.proofs.Places.{place_left, place_turn}
use Rattle.certain.proofs.Middle.{Once, in_three, find, middles_at}
use Rattle.certain.proofs.Firm.{at_left, at_mid, at_right}

-- The row in which t gives m, and the other branches are read as they stand.
abbrev reading : (x y : Trees) {t : Tree} (m : List ℕ) → Allows t m → Held t x y (all_graves x ++ (m ++ all_graves y))
reading x y m h = record { fore = all_graves x; mid = m; aft = all_graves y; is = refl; before = reads_all x; here = h; behind_it = reads_all y }

-- Of two graves of a tree the first is not behind the second in some allowed row: the reading, or the reading turned round.
either_way : (t : Tree) → ((g : ℕ) → count_t (eqb g) true t ≤ 1) → (g h : ℕ) → In g t → In h t → (m : List ℕ) × Allows t m × (place_in m g ≤ place_in m h)
either_way t once g h i j = go (dec_le (place_in (graves t) g) (place_in (graves t) h))
  where
    turn : (g : ℕ) → In g t → place_in (reverse (graves t)) g + place_in (graves t) g + 1 ≡ length (graves t)
    turn g i = place_turn g (graves t) (let n = allows_count (eqb g) true (reads t) in let o = once g in omega arith)

    go : Dec (place_in (graves t) g ≤ place_in (graves t) h) → (m : List ℕ) × Allows t m × (place_in m g ≤ place_in m h)
    go (yes d) = (graves t, reads t, d)
    go (no d) = (reverse (graves t), allows_turn (reads t), (let p = turn g i in let q = turn h j in omega arith))

-- A grave alone has the first place.
alone : (h g : ℕ) → In h (grave g) → place_in (g ∷ []) h < 1
alone h g i = (place_left h (g ∷ []) [] (omega arith)).1

module _ (a b c : ℕ) where
  -- There is a row with P in which b does not lie between a and c.
  abbrev Loose : (List ℕ → Type 0) → Type 0
  Loose P = (l : List ℕ) × P l × (Lies (place_in l) a b c → ⊥)

  -- The tree has b in the middle, or allows a row in which b does not lie between.
  abbrev Told : Tree → Type 0
  Told t = ((g : ℕ) → count_t (eqb g) true t ≤ 1) → In a t → In b t → In c t → Middle a b c t ⊎ Loose (Allows t)

  -- Branches as they stand: what they tell.
  abbrev ToldRow : Trees → Type 0
  ToldRow ts = Middles a b c ts ⊎ (Sides a b c ts ⊎ Loose (InRow ts))

  -- That goes by where a and c are, seen from the branch that has b.
  told_around : (x : Trees) (t : Tree) (y : Trees) → Told t → Once (x +++ more t y) → InSome a (x +++ more t y) → In b t → InSome c (x +++ more t y) → ToldRow (x +++ more t y)
  told_around x t y f o ia ib ic = go (in_three a x t y ia) (in_three c x t y ic)
    where
      once : (g : ℕ) → count_t (eqb g) true t ≤ 1
      once g = let z = o g in let s = count_ts_plus (eqb g) true x (more t y) in omega arith

      loose : (m : List ℕ) → Allows t m → (Lies (place_in (all_graves x ++ (m ++ all_graves y))) a b c → ⊥) → ToldRow (x +++ more t y)
      loose m h n = inr (inr (all_graves x ++ (m ++ all_graves y), in_plus (reads_all x) (next h (reads_all y)), n))

      mid : (m : List ℕ) → Allows t m → (g : ℕ) → In g t → (place_in (all_graves x ++ (m ++ all_graves y)) g ≡ length (all_graves x) + place_in m g) × (place_in m g < length m)
      mid m h = at_mid o (reading x y m h)

      not_behind : (m : List ℕ) → Allows t m → (g : ℕ) → InSome g x ⊎ (In g t × (place_in m g ≤ place_in m b)) →
          place_in (all_graves x ++ (m ++ all_graves y)) g ≤ place_in (all_graves x ++ (m ++ all_graves y)) b
      not_behind m h g (inl i) = let z = at_left o (reading x y m h) g i in omega (arith, z.0, z.1, (mid m h b ib).0)
      not_behind m h g (inr i) = omega (arith, (mid m h g i.0).0, i.1, (mid m h b ib).0)

      not_before : (m : List ℕ) → Allows t m → (g : ℕ) → InSome g y ⊎ (In g t × (place_in m b ≤ place_in m g)) →
          place_in (all_graves x ++ (m ++ all_graves y)) b ≤ place_in (all_graves x ++ (m ++ all_graves y)) g
      not_before m h g (inl i) = omega (arith, at_right o (reading x y m h) g i, (mid m h b ib).0, (mid m h b ib).1)
      not_before m h g (inr i) = omega (arith, (mid m h g i.0).0, i.1, (mid m h b ib).0)

      -- Neither a nor c is behind b; or neither is before it.
      last : (m : List ℕ) → Allows t m → InSome a x ⊎ (In a t × (place_in m a ≤ place_in m b)) → InSome c x ⊎ (In c t × (place_in m c ≤ place_in m b)) → ToldRow (x +++ more t y)
      last m h p q = loose m h (omega (arith, not_behind m h a p, not_behind m h c q))

      first : (m : List ℕ) → Allows t m → InSome a y ⊎ (In a t × (place_in m b ≤ place_in m a)) → InSome c y ⊎ (In c t × (place_in m b ≤ place_in m c)) → ToldRow (x +++ more t y)
      first m h p q = loose m h (omega (arith, not_before m h a p, not_before m h c q))

      -- All three in one branch: what is so there is so in the whole row.
      inside : In a t → In c t → Middle a b c t ⊎ Loose (Allows t) → ToldRow (x +++ more t y)
      inside p q (inl m) = inl (middles_at a b c x t y m)
      inside p q (inr w) = loose w.0 w.1 (λ h. w.2 (back h))
        where
          at : (g : ℕ) → In g t → place_in (all_graves x ++ (w.0 ++ all_graves y)) g ≡ length (all_graves x) + place_in w.0 g
          at g i = (mid w.0 w.1 g i).0

          back : Lies (place_in (all_graves x ++ (w.0 ++ all_graves y))) a b c → Lies (place_in w.0) a b c
          back (inl h) = inl (omega (arith, at a p, at b ib), omega (arith, at b ib, at c q))
          back (inr h) = inr (omega (arith, at c q, at b ib), omega (arith, at b ib, at a p))

      go : InSome a x ⊎ (In a t ⊎ InSome a y) → InSome c x ⊎ (In c t ⊎ InSome c y) → ToldRow (x +++ more t y)
      go (inl p) (inl q) = last (graves t) (reads t) (inl p) (inl q)
      go (inl p) (inr (inl q)) = let w = either_way t once c b q ib in last w.0 w.1 (inl p) (inr (q, w.2))
      go (inl p) (inr (inr q)) = inr (inl (record { before = x; it = t; behind = y; is = refl; in_it = ib; across = inl (p, q) }))
      go (inr (inl p)) (inl q) = let w = either_way t once a b p ib in last w.0 w.1 (inr (p, w.2)) (inl q)
      go (inr (inl p)) (inr (inl q)) = inside p q (f once p ib q)
      go (inr (inl p)) (inr (inr q)) = let w = either_way t once b a ib p in first w.0 w.1 (inr (p, w.2)) (inl q)
      go (inr (inr p)) (inl q) = inr (inl (record { before = x; it = t; behind = y; is = refl; in_it = ib; across = inr (q, p) }))
      go (inr (inr p)) (inr (inl q)) = let w = either_way t once b c ib q in first w.0 w.1 (inl p) (inr (q, w.2))
      go (inr (inr p)) (inr (inr q)) = first (graves t) (reads t) (inl p) (inl q)

  told_row : (ts : Trees) → Alls Told ts → Once ts → InSome a ts → InSome b ts → InSome c ts → ToldRow ts
  told_row ts f o ia ib ic =
      let w = find b ts ib in
      rw w.is (told_around w.before w.it w.behind (alls_right Told w.before (more w.it w.behind) (subst (Alls Told) w.is f)).0
      (subst Once w.is o) (subst (InSome a) w.is ia) w.in_it (subst (InSome c) w.is ic))

  -- Where branches may stand in any order, the one with b may come first.
  b_first : (ts : Trees) → Once ts → Sides a b c ts → Loose (Allows (any ts))
  b_first ts o s =
      let x = s.before in
      let y = s.behind in
      let t = s.it in
      let l = graves t ++ all_graves (x +++ y) in
      let h = reading none (x +++ y) (graves t) (reads t) in
      let once : Once (more t (x +++ y)) = (λ g.
      let z = o g in let e = ap (count_ts (eqb g) true) s.is ∙ count_ts_plus (eqb g) true x (more t y) in let k = count_ts_plus (eqb g) true x y in omega arith) in
      let others : (g : ℕ) → InSome g x ⊎ InSome g y → length (graves t) ≤ place_in l g = (λ g i.
      let k = count_ts_plus (eqb g) true x y in let r = at_right once h g (⊎_elim (λ i. omega arith) (λ i. omega arith) i) in omega arith) in
      let first = at_mid once h b s.in_it in (
        l,
        subst (λ (w : Trees). Allows (any w) l) (sym s.is) (mixed (mixed_mid t x y none (x +++ y) (mixed_refl (x +++ y))) (reads_all (more t (x +++ y)))),
        ⊎_elim (λ k. omega (arith, others a (inl k.0), others c (inr k.1), first.0, first.1)) (λ k. omega (arith, others c (inl k.0), others a (inr k.1), first.0, first.1)) s.across,
      )

  mutual
    pub told : (t : Tree) → Told t
    told (grave g) o ia ib ic = inr (g ∷ [], one, omega (arith, alone a g ia, alone b g ib, alone c g ic))
    told (any ts) o ia ib ic =
        ⊎_elim (λ m. inl m) (⊎_elim (λ s. inr (b_first ts o s)) (λ w. inr (w.0, mixed (mixed_refl ts) w.1, w.2))) (told_row ts (tolds ts) o ia ib ic)
    told (row ts) o ia ib ic =
        ⊎_elim (λ m. inl (inl m)) (⊎_elim (λ s. inl (inr s)) (λ w. inr (w.0, straight w.1, w.2))) (told_row ts (tolds ts) o ia ib ic)

    tolds : (ts : Trees) → Alls Told ts
    tolds none = tt
    tolds (more t ts) = (told t, tolds ts)
