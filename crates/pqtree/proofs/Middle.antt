-- Branches in any order, of which two or more have the kind: those that have it stand together, bound into a middle.
use Rattle.std.proofs.Common.{◌≡◌, ℕ, zero, suc, ◌+◌, ◌≤◌, Bool, true, false, List, ◌++◌, sym, refl, ap, ◌∙◌, subst, inl, inr, ⊎_elim, append_assoc, append-nil, arith}
use mathlib.Core.Bool.{false≢true}
use Rattle.finds.specs.Trees.{Tree, any, row, Trees, none, more, Allows, mixed, straight, turned, Mixed, put, first, InRow, nil, next, Goods}
use Rattle.finds.specs.Branches.{◌+++◌, revs}
use Rattle.finds.proofs.Branches.{plus_assoc, plus_none, revs_plus, mixed_refl, mixed_trans, mixed_sym, mixed_plus, mixed_swap, mixed_mid, mixed_one, mixed_two, is_turned, goods_plus, goods_right}
use Rattle.finds.proofs.Counts.{count_ts_plus, allows_count, in_row_count, in_plus, in_cut, in_one, one_in}
use Rattle.pqtree.specs.Status.{Status, bare, part, full, status, same, keep, sel, few, weigh, heavy}
use Rattle.pqtree.specs.Opening.{laid, group}
use Rattle.pqtree.specs.Change.{Outcome, torn, made, as_any, place, cut_middle, join, any_cut}
use Rattle.pqtree.proofs.Words.{Rise, Stretch, StretchCut, stretch_lacks, stretch_cut, stretch_second}
use Rattle.pqtree.proofs.Status.{mixed_goods, status_says, heavy_bare, bare_heavy, mixed_heavy}
use Rattle.pqtree.proofs.Chosen.{mixed_few, Are, mixed_sel, sel_goods, sel_are, sel_lacks, lined_mixed, lined_heavy, sorted_lined, in_sorted}
use Rattle.pqtree.proofs.Opening.{Anyhow, any_anyhow, anyhow_turn, group_in, in_group, group_goods, group_count}
use Rattle.pqtree.proofs.Fitting.{Fit, row_ways, Held, held, picked, any_fits}
use Rattle.pqtree.proofs.Rows.{row_fit}
use Rattle.pqtree.proofs.Leading.{Leading, leading}

-- The middle before it is changed: full branches alone; or the first partial one, the full ones as one branch, and the other partial ones in a row.
abbrev pub middle : Trees → Trees → Tree
middle none fs = any fs
middle (more p ps) fs = row (more p (group fs +++ ps))

-- What the middle allows, its branches allow in some order.
middle_in : (ps fs : Trees) (l : List ℕ) → Allows (middle ps fs) l → Anyhow (ps +++ fs) l
middle_in none fs l p = any_anyhow p
middle_in (more p ps) fs l q = ⊎_elim go (λ r. anyhow_turn (go r)) (row_ways (laid (more p (group fs +++ ps))) l q)
  where
    go : {w : List ℕ} → InRow (more p (group fs +++ ps)) w → Anyhow (more p (ps +++ fs)) w
    go (next h r) =
        let c = in_cut (group fs) ps r in
        let g = group_in fs c.fore c.here in
        record {
          way = more p (g.way +++ ps);
          mix = put (mixed_trans (mixed_swap ps fs) (mixed_plus g.mix (mixed_refl ps))) first;
          run = next h (subst (λ (z : List ℕ). InRow (g.way +++ ps) z) (sym c.is) (in_plus g.run c.there));
        }

-- ---- the forms in which the branches of the middle can stand

revs_group : (ts : Trees) → revs (group ts) ≡ group ts
revs_group none = refl
revs_group (more t none) = refl
revs_group (more t (more u us)) = refl

-- Full ones first, and then at most one partial one.
mid_full : (ps fs ps' fs' : Trees) (x y : List ℕ) → Mixed ps ps' → Mixed fs fs' → few ps' ≡ true → InRow fs' x → InRow ps' y → Allows (middle ps fs) (x ++ y)
mid_full ps fs ps' fs' x y m n e r s = go ps' y (mixed_few m e) e s
  where
    go : (ps' : Trees) (y : List ℕ) → ps ≡ ps' → few ps' ≡ true → InRow ps' y → Allows (middle ps fs) (x ++ y)
    go none y q e nil = rw q (rw append-nil (mixed n r))
    go (more p none) y q e s =
        rw q
        (turned (is_turned (more p (group fs +++ none)))
        (subst (λ (z : Trees). InRow (z +++ more p none) (x ++ y)) (sym (ap revs (plus_none (group fs)) ∙ revs_group fs)) (in_plus (in_group fs x n r) s)))
    go (more p (more u us)) y q e s = absurd (false≢true e)

-- A partial one, the full ones, and then at most one partial one.
mid_part : (p : Tree) (ps fs ps' fs' : Trees) (w x y : List ℕ) → Mixed ps (more p ps') → Mixed fs fs' → few ps' ≡ true →
    Allows p w → InRow fs' x → InRow ps' y → Allows (middle ps fs) (w ++ (x ++ y))
mid_part p ps fs ps' fs' w x y m n e h r s = go ps' m e s
  where
    go : (ps' : Trees) → Mixed ps (more p ps') → few ps' ≡ true → InRow ps' y → Allows (middle ps fs) (w ++ (x ++ y))
    go none m e s = rw (mixed_one (mixed_sym m)) (straight (next h (in_plus (in_group fs x n r) s)))
    go (more q none) m e s = ⊎_elim as_they_are swapped (mixed_two (mixed_sym m))
      where
        run : InRow (more p (group fs +++ more q none)) (w ++ (x ++ y))
        run = next h (in_plus (in_group fs x n r) s)

        as_they_are : ps ≡ more p (more q none) → Allows (middle ps fs) (w ++ (x ++ y))
        as_they_are z = rw z (straight run)

        swapped : ps ≡ more q (more p none) → Allows (middle ps fs) (w ++ (x ++ y))
        swapped z =
            rw z
            (turned (is_turned (more q (group fs +++ more p none)))
            (subst (λ (v : Trees). InRow (v +++ more q none) (w ++ (x ++ y))) (sym (revs_plus (group fs) (more p none) ∙ ap (more p) (revs_group fs))) run))
    go (more q (more u us)) m e s = absurd (false≢true e)

module _ (k : ℕ → Bool) where
  -- The branches with those that have the kind bound together.
  abbrev bound : Trees → Tree
  bound ts = any (sel k bare ts +++ more (middle (sel k part ts) (sel k full ts)) none)

  -- ---- what the bound branches allow, the branches allow

  unbind : (ts : Trees) (l : List ℕ) → Allows (bound ts) l → Allows (any ts) l
  unbind ts l p =
      let es = sel k bare ts in
      let ps = sel k part ts in
      let fs = sel k full ts in
      let q = picked (made (middle ps fs)) es none l p in
      let h = held (middle ps fs) q.left q.right l q.run in
      let a = middle_in ps fs h.mid h.here in
      let sides : Mixed es (q.left +++ q.right) = subst (λ (z : Trees). Mixed z (q.left +++ q.right)) (plus_none es) q.sides in
      let back : Mixed ((q.left +++ q.right) +++ a.way) (q.left +++ (a.way +++ q.right)) =
      subst (λ (z : Trees). Mixed z (q.left +++ (a.way +++ q.right))) (sym (plus_assoc q.left q.right a.way))
      (mixed_plus (mixed_refl q.left) (mixed_swap q.right a.way)) in
      rw h.is (mixed (mixed_trans (lined_mixed k true ts) (mixed_trans (mixed_plus sides a.mix) back)) (in_plus h.before (in_plus a.run h.behind_it)))

  -- ---- and the other way, if the kind is one stretch

  -- From the first branch that has the kind on: this one, the other full ones, and at most one partial one.
  from_lead : (ts : Trees) {us : Trees} → Mixed ts us → (d : Leading k us) → few (sel k part d.tail) ≡ true → (w x y : List ℕ) →
      Allows d.head w → InRow (sel k full d.tail) x → InRow (sel k part d.tail) y → Allows (middle (sel k part ts) (sel k full ts)) (w ++ (x ++ y))
  from_lead ts m d e w x y h i j = go (status k d.head) refl
    where
      parts : (z : Status) → status k d.head ≡ z → Mixed (sel k part ts) (keep (same z part) d.head (sel k part d.tail))
      parts z q = subst (λ (v : Trees). Mixed (sel k part ts) v) (d.parts ∙ ap (λ (z : Status). keep (same z part) d.head (sel k part d.tail)) q) (mixed_sel k part m)

      fulls : (z : Status) → status k d.head ≡ z → Mixed (sel k full ts) (keep (same z full) d.head (sel k full d.tail))
      fulls z q = subst (λ (v : Trees). Mixed (sel k full ts) v) (d.fulls ∙ ap (λ (z : Status). keep (same z full) d.head (sel k full d.tail)) q) (mixed_sel k full m)

      go : (z : Status) → status k d.head ≡ z → Allows (middle (sel k part ts) (sel k full ts)) (w ++ (x ++ y))
      go bare q = absurd (let z = status_says k d.head q in omega (arith, d.has))
      go full q =
          subst (λ (z : List ℕ). Allows (middle (sel k part ts) (sel k full ts)) z) (append_assoc w x y)
          (mid_full (sel k part ts) (sel k full ts) (sel k part d.tail) (more d.head (sel k full d.tail)) (w ++ x) y (parts full q) (fulls full q) e (next h i) j)
      go part q =
          mid_part d.head (sel k part ts) (sel k full ts) (sel k part d.tail) (sel k full d.tail) w x y (parts part q) (fulls part q) e h i j

  -- The stretch begins in the first branch that has the kind and goes on behind it, so the branches behind it fall: they come in sequence.
  bind_at : (ts : Trees) (l : List ℕ) → Goods ts → 2 ≤ heavy k ts → (a : Anyhow ts l) → Stretch k l → Leading k a.way → Allows (bound ts) l
  bind_at ts l g n a s d =
      let e = sorted_lined k false d.tail (in_sorted k false d.tail h.aft goods h.behind_it (falls (stretch_cut k h.mid h.aft s'))) in
      let c = in_cut (sel k full d.tail) (sel k part d.tail +++ sel k bare d.tail) (subst (λ (z : Trees). InRow z h.aft) e.0 h.behind_it) in
      let f = in_cut (sel k part d.tail) (sel k bare d.tail) c.there in
      let x = from_lead ts a.mix d e.1 h.mid c.fore f.fore h.here c.here f.here in
      let eq : l ≡ h.fore ++ ((h.mid ++ (c.fore ++ f.fore)) ++ f.rest) = regroup l h.fore h.mid h.aft c.fore c.rest f.fore f.rest h.is c.is f.is in
      rw eq (mixed (mixed_mid (middle (sel k part ts) (sel k full ts)) (sel k bare ts) none d.fore (sel k bare d.tail) bares) (in_plus h.before (next x f.there)))
    where
      h : Held d.head d.fore d.tail l
      h = held d.head d.fore d.tail l (subst (λ (z : Trees). InRow z l) d.is a.run)

      s' : Stretch k (h.mid ++ h.aft)
      s' = stretch_second k h.fore (h.mid ++ h.aft) (subst (λ (z : List ℕ). Stretch k z) h.is s)

      goods : Goods d.tail
      goods = (goods_right d.fore (more d.head d.tail) (subst Goods d.is (mixed_goods a.mix g))).1

      bares : Mixed (sel k bare ts +++ none) (d.fore +++ sel k bare d.tail)
      bares = rw plus_none (subst (λ (z : Trees). Mixed (sel k bare ts) z) d.bares (mixed_sel k bare a.mix))

      falls : StretchCut k h.mid h.aft → Rise k false h.aft
      falls (inl z) = absurd (let y = allows_count k true h.here in omega (arith, z.0, d.has))
      falls (inr (inl z)) = absurd (let y = bare_heavy k d.tail (sym (in_row_count k true h.behind_it) ∙ z.1) in let u = mixed_heavy k a.mix in omega (arith, d.weight))
      falls (inr (inr z)) = z.1

      regroup : (l a m y c z f r : List ℕ) → l ≡ a ++ (m ++ y) → y ≡ c ++ z → z ≡ f ++ r → l ≡ a ++ ((m ++ (c ++ f)) ++ r)
      regroup l a m y c z f r p q s = p ∙ rw (q, s) (simp append_assoc)

  bind : (ts : Trees) (l : List ℕ) → Goods ts → 2 ≤ heavy k ts → Allows (any ts) l → Stretch k l → Allows (bound ts) l
  bind ts l g n p s = let a = any_anyhow p in bind_at ts l g n a s (leading k a.way (omega (arith, mixed_heavy k a.mix)))

  -- ---- the change of the bound branches

  -- A group has the kind if one of its branches has.
  pub group_heavy : (fs ps : Trees) → 1 ≤ heavy k fs + heavy k ps → 1 ≤ heavy k (group fs +++ ps)
  group_heavy fs ps n = go (heavy k (group fs +++ ps)) refl
    where
      go : (m : ℕ) → heavy k (group fs +++ ps) ≡ m → 1 ≤ m
      go zero e =
          absurd (let x = heavy_bare k (group fs +++ ps) e in let y = count_ts_plus k true (group fs) ps in let z = group_count k true fs in
          let c = bare_heavy k fs (omega arith) in let d = bare_heavy k ps (omega arith) in omega arith)
      go (suc m) e = omega arith

  -- The middle is changed as a row is, of which two branches have the kind; or it is full and stays.
  middle_fit : (ts : Trees) → Goods ts → 2 ≤ heavy k ts → Fit k (middle (sel k part ts) (sel k full ts)) (cut_middle k (sel k part ts) (sel k full ts))
  middle_fit ts g n = go (sel k part ts) (sel_goods k part ts g) (sel_are k part ts) (lined_heavy k ts)
    where
      go : (ps : Trees) → Goods ps → Are k part ps → heavy k ts ≡ heavy k ps + heavy k (sel k full ts) → Fit k (middle ps (sel k full ts)) (cut_middle k ps (sel k full ts))
      go none h a w = λ l. ((λ p. (p, stretch_lacks k false l (allows_count k false p ∙ sel_lacks k false ts))), λ p s. p)
      go (more p ps) h a w =
          let fs = sel k full ts in
          let o : weigh (status k p) ≡ 1 = rw a.0 in
          let z = group_heavy fs ps (omega arith) in
          row_fit k (more p (group fs +++ ps)) (h.0, goods_plus (group fs) ps (group_goods fs (sel_goods k full ts g)) h.1) (omega arith)

  -- A branch that is alone needs no place around it.
  join_fit : (es : Trees) (t : Tree) (o : Outcome) → Fit k t (as_any (place o es none)) → Fit k t (join es o)
  join_fit es t torn f l = f l
  join_fit none t (made u) f l = ((λ p. (f l).0 (mixed (mixed_refl (more u none)) (in_one p))), λ p s. go ((f l).1 p s))
    where
      go : Allows (any (more u none)) l → Allows u l
      go (mixed m r) = one_in (subst (λ (z : Trees). InRow z l) (mixed_one m) r)
  join_fit (more e es) t (made u) f l = f l

  pub any_fit : (ts : Trees) → Goods ts → 2 ≤ heavy k ts → Fit k (any ts) (any_cut k ts)
  any_fit ts g n l =
      let m = middle (sel k part ts) (sel k full ts) in
      let o = cut_middle k (sel k part ts) (sel k full ts) in
      let f : Fit k (bound ts) (any_cut k ts) = join_fit (sel k bare ts) (bound ts) o (any_fits k m (sel k bare ts) none o (middle_fit ts g n) (sel_lacks k true ts) refl) in
      ((λ p. let q = (f l).0 p in (unbind ts l q.0, q.1)), λ p s. (f l).1 (bind ts l g n p s) s)
