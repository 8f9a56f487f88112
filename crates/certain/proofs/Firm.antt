-- If the tree has b in the middle of a row, b lies between a and c in each row that the tree allows.
use Rattle.std.proofs.Common.{◌≡◌, ℕ, ◌+◌, ◌<◌, ◌≤◌, true, eqb, List, ◌++◌, length, ap, ◌∙◌, subst, inl, inr, ⊎_elim, arith}
use Rattle.finds.specs.Branches.{◌+++◌, revs}
use Rattle.finds.specs.Counts.{count, count_t, count_ts}
use Rattle.finds.specs.Trees.{Tree, grave, any, row, Trees, none, more, Allows, mixed, straight, turned, InRow, next, Mixed}
use Rattle.finds.proofs.Branches.{Alls, plus_assoc, revs_plus, turned_is, mixed_refl, mixed_alls, mixed_revs}
use Rattle.finds.proofs.Counts.{count_ts_plus, allows_count, in_row_count, mixed_count}
use Rattle.pqtree.proofs.Fitting.{Held, held}
use Rattle.certain.specs.Certain.{Lies, place_in}
use Rattle.certain.specs.Middle.{In, InSome, Across, Sides, Middle, Middles}
use Rattle.certain.proofs.Places.{place_left, place_right, lies_moved}
use Rattle.certain.proofs.Middle.{Once, middle_in, middles_in, mixed_middles}

-- ---- places in a row that is read from the branches x, the tree t and the branches y

module _ {x y : Trees} {t : Tree} {l : List ℕ} (once : Once (x +++ more t y)) (h : Held t x y l) (g : ℕ) where
  held_counts : (count (eqb g) true h.fore ≡ count_ts (eqb g) true x) × (count (eqb g) true h.mid ≡ count_t (eqb g) true t)
  held_counts = (in_row_count (eqb g) true h.before, allows_count (eqb g) true h.here)

  pub at_left : InSome g x → (place_in l g ≡ place_in h.fore g) × (place_in h.fore g < length h.fore)
  at_left i =
      let n = held_counts in
      let z = place_left g h.fore (h.mid ++ h.aft) (omega (arith, n.0)) in
      let e = ap (λ (w : List ℕ). place_in w g) h.is in
      (e ∙ z.0, z.1)

  pub at_mid : In g t → (place_in l g ≡ length h.fore + place_in h.mid g) × (place_in h.mid g < length h.mid)
  at_mid i =
      let n = held_counts in
      let o = once g in
      let s = count_ts_plus (eqb g) true x (more t y) in
      let w = place_right g h.fore (h.mid ++ h.aft) (omega (arith, n.0)) in
      let z = place_left g h.mid h.aft (omega (arith, n.1)) in
      let e = ap (λ (w : List ℕ). place_in w g) h.is in
      (omega (arith, z.0), z.1)

  pub at_right : InSome g y → place_in l g ≡ length h.fore + (length h.mid + place_in h.aft g)
  at_right i =
      let n = held_counts in
      let o = once g in
      let s = count_ts_plus (eqb g) true x (more t y) in
      let w = place_right g h.fore (h.mid ++ h.aft) (omega (arith, n.0)) in
      let z = place_right g h.mid h.aft (omega (arith, n.1)) in
      let e = ap (λ (w : List ℕ). place_in w g) h.is in
      omega arith

module _ (a b c : ℕ) where
  -- ---- from the tree to the rows

  sides_lie : (x y : Trees) (t : Tree) (l : List ℕ) → Once (x +++ more t y) → InRow (x +++ more t y) l → In b t → Across a c x y → Lies (place_in l) a b c
  sides_lie x y t l o r m s = let h = held t x y l r in let q = at_mid o h b m in go h q s
    where
      go : (h : Held t x y l) → (place_in l b ≡ length h.fore + place_in h.mid b) × (place_in h.mid b < length h.mid) → Across a c x y → Lies (place_in l) a b c
      go h q (inl k) = inl (omega (arith, q.0, (at_left o h a k.0).0, (at_left o h a k.0).1), omega (arith, q.0, q.1, at_right o h c k.1))
      go h q (inr k) = inr (omega (arith, q.0, (at_left o h c k.0).0, (at_left o h c k.0).1), omega (arith, q.0, q.1, at_right o h a k.1))

  -- The tree is firm: if it has b in the middle, b lies between a and c in each row.
  abbrev Firm : Tree → Type 0
  Firm t = ((g : ℕ) → count_t (eqb g) true t ≤ 1) → Middle a b c t → (l : List ℕ) → Allows t l → Lies (place_in l) a b c

  firm_row : (us : Trees) → Alls Firm us → Once us → Middles a b c us → (l : List ℕ) → InRow us l → Lies (place_in l) a b c
  firm_row none f o m l r = absurd m
  firm_row (more t us) f o (inl m) l (next {k = k} {l = e} h r) =
      let i = middle_in a b c t m in
      let at : (g : ℕ) → In g t → place_in (k ++ e) g ≡ 0 + place_in k g = λ g i. (let n = allows_count (eqb g) true h in let z = place_left g k e (omega arith) in omega (arith, z.0)) in
      lies_moved (place_in k) (place_in (k ++ e)) 0 a b c (at a i.0) (at b i.1) (at c i.2) (f.0 (λ g. let z = o g in omega arith) m k h)
  firm_row (more t us) f o (inr m) l (next {k = k} {l = e} h r) =
      let i = middles_in a b c us m in
      let at : (g : ℕ) → InSome g us → place_in (k ++ e) g ≡ length k + place_in e g = λ g i. place_right g k e (let n = allows_count (eqb g) true h in let z = o g in omega arith) in
      lies_moved (place_in e) (place_in (k ++ e)) (length k) a b c (at a i.0) (at b i.1) (at c i.2) (firm_row us f.1 (λ g. let z = o g in omega arith) m e r)

  firm_mixed : {ts us : Trees} → Alls Firm ts → Once ts → Middles a b c ts → Mixed ts us → (l : List ℕ) → InRow us l → Lies (place_in l) a b c
  firm_mixed {ts} {us} f o m w l r = firm_row us (mixed_alls Firm w f) (λ g. let n = mixed_count (eqb g) true w in let z = o g in omega arith) (mixed_middles a b c w m) l r

  in_revs : (g : ℕ) (x : Trees) → InSome g x → InSome g (revs x)
  in_revs g x i = let n = mixed_count (eqb g) true (mixed_revs x) in omega arith

  turned_sides : {ts : Trees} → Once ts → (s : Sides a b c ts) → (l : List ℕ) → InRow (revs ts) l → Lies (place_in l) a b c
  turned_sides {ts} o s l r =
      sides_lie (revs y) (revs x) t l (λ g. let n = mixed_count (eqb g) true (mixed_revs ts) in let e = ap (count_ts (eqb g) true) is in let z = o g in omega arith)
      (subst (λ (w : Trees). InRow w l) is r)
      s.in_it
      (⊎_elim (λ k. inr (in_revs c y k.1, in_revs a x k.0)) (λ k. inl (in_revs a y k.1, in_revs c x k.0)) s.across)
    where
      x : Trees
      x = s.before

      t : Tree
      t = s.it

      y : Trees
      y = s.behind

      is : revs ts ≡ revs y +++ more t (revs x)
      is = ap revs s.is ∙ revs_plus x (more t y) ∙ plus_assoc (revs y) (more t none) (revs x)

  mutual
    pub firm : (t : Tree) → Firm t
    firm (grave g) o m l p = absurd m
    firm (any ts) o m l (mixed w r) = firm_mixed (firms ts) o m w l r
    firm (row ts) o (inl m) l (straight r) = firm_mixed (firms ts) o m (mixed_refl ts) l r
    firm (row ts) o (inl m) l (turned w r) = firm_mixed (firms ts) o m (mixed_revs ts) l (subst (λ (z : Trees). InRow z l) (turned_is w) r)
    firm (row ts) o (inr s) l (straight r) =
        sides_lie s.before s.behind s.it l (subst Once s.is o) (subst (λ (z : Trees). InRow z l) s.is r) s.in_it s.across
    firm (row ts) o (inr s) l (turned w r) = turned_sides o s l (subst (λ (z : Trees). InRow z l) (turned_is w) r)

    firms : (ts : Trees) → Alls Firm ts
    firms none = tt
    firms (more t ts) = (firm t, firms ts)
