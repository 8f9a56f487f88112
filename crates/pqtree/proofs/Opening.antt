-- A tree laid open allows just the rows of the tree that rise.
use Rattle.std.proofs.Common.{◌≡◌, ℕ, ◌≤◌, Bool, true, false, cond, not, ◌⊎◌, List, [], ◌++◌, reverse, sym, refl, ap, ◌∙◌, subst, inl, inr, arith}
use mathlib.Core.List.{reverse-reverse}
use Rattle.finds.specs.Trees.{Tree, grave, any, row, Trees, none, more, Allows, mixed, straight, turned, Mixed, InRow, nil, next, len, Good, Goods}
use Rattle.finds.specs.Branches.{◌+++◌, revs}
use Rattle.finds.specs.Counts.{count, count_t, count_ts}
use Rattle.finds.proofs.Branches.{Alls, plus_assoc, plus_none, mixed_refl, mixed_trans, mixed_plus, mixed_revs, mixed_alls, mixed_none, mixed_one, turned_is, is_turned}
use Rattle.finds.proofs.Counts.{mixed_count, allows_count, in_row_count, in_plus, in_cut, in_one, one_in, in_row_turn}
use Rattle.pqtree.specs.Status.{Status, bare, part, full, status, far, same, keep, sel, all_are, sorted, few}
use Rattle.pqtree.specs.Opening.{Opening, stuck, laid, ◌⊞◌, group, if_part, open_up, open_all, open_back, open_parts}
use Rattle.pqtree.proofs.Words.{Rise, rise_lacks, rise_skip, rise_stop, rise_first, rise_second}
use Rattle.pqtree.proofs.Status.{mixed_goods, status_says, far_lacks, same_is}
use Rattle.pqtree.proofs.Chosen.{mixed_few, all_are_so, far_count, mixed_sel, sel_alls, sel_lacks, lined_mixed, sorted_lined, few_sorted, sorted_both, in_sorted}

-- ---- openings one after the other

-- The rows that an opening allows.
abbrev pub Opened : Opening → List ℕ → Type 0
Opened stuck l = ⊥
Opened (laid us) l = InRow us l

pub glue : (x y : Opening) (a c : List ℕ) → Opened x a → Opened y c → Opened (x ⊞ y) (a ++ c)
glue stuck y a c p q = absurd p
glue (laid x) stuck a c p q = absurd q
glue (laid x) (laid y) a c p q = in_plus p q

-- A row of two openings, cut where the second begins.
pub record Halves (x y : Opening) (l : List ℕ) : Type 0 where
  pub fore : List ℕ
  pub rest : List ℕ
  pub is : l ≡ fore ++ rest
  pub here : Opened x fore
  pub there : Opened y rest

pub halves : (x y : Opening) (l : List ℕ) → Opened (x ⊞ y) l → Halves x y l
halves stuck y l p = absurd p
halves (laid x) stuck l p = absurd p
halves (laid x) (laid y) l p = let c = in_cut x y p in record { fore = c.fore; rest = c.rest; is = c.is; here = c.here; there = c.there }

laid_assoc : (x y z : Opening) → (x ⊞ y) ⊞ z ≡ x ⊞ (y ⊞ z)
laid_assoc stuck y z = refl
laid_assoc (laid x) stuck z = refl
laid_assoc (laid x) (laid y) stuck = refl
laid_assoc (laid x) (laid y) (laid z) = ap laid (plus_assoc x y z)

pub laid_none : (x : Opening) → x ⊞ laid none ≡ x
laid_none stuck = refl
laid_none (laid x) = ap laid (plus_none x)

none_laid : (x : Opening) → laid none ⊞ x ≡ x
none_laid stuck = refl
none_laid (laid x) = refl

-- ---- groups

-- The branches allow the row in some order of them.
pub record Anyhow (ts : Trees) (l : List ℕ) : Type 0 where
  pub way : Trees
  pub mix : Mixed ts way
  pub run : InRow way l

pub any_anyhow : {ts : Trees} {l : List ℕ} → Allows (any ts) l → Anyhow ts l
any_anyhow (mixed m r) = record { way = _; mix = m; run = r }

pub anyhow_turn : {ts : Trees} {l : List ℕ} → Anyhow ts (reverse l) → Anyhow ts l
anyhow_turn {l = l} a = record
    { way = revs a.way; mix = mixed_trans a.mix (mixed_revs a.way); run = subst (λ (x : List ℕ). InRow (revs a.way) x) (reverse-reverse l) (in_row_turn a.run) }

pub group_in : (ts : Trees) (l : List ℕ) → InRow (group ts) l → Anyhow ts l
group_in none l r = record { way = none; mix = mixed_refl none; run = r }
group_in (more t none) l r = record { way = more t none; mix = mixed_refl (more t none); run = r }
group_in (more t (more u us)) l r = any_anyhow (one_in r)

pub in_group : (ts : Trees) {us : Trees} (l : List ℕ) → Mixed ts us → InRow us l → InRow (group ts) l
in_group none l m r = subst (λ (x : Trees). InRow x l) (mixed_none m) r
in_group (more t none) l m r = subst (λ (x : Trees). InRow x l) (mixed_one m) r
in_group (more t (more u us)) l m r = in_one (mixed m r)

pub group_goods : (ts : Trees) → Goods ts → Goods (group ts)
group_goods none h = tt
group_goods (more t none) h = h
group_goods (more t (more u us)) h = ((omega arith, h), tt)

pub group_count : (k : ℕ → Bool) (b : Bool) (ts : Trees) → count_ts k b (group ts) ≡ count_ts k b ts
group_count k b none = refl
group_count k b (more t none) = refl
group_count k b (more t (more u us)) = omega arith

module _ (k : ℕ → Bool) where
  -- ---- what openings of several branches are

  pub open_all_plus : (b : Bool) (x y : Trees) → open_all k b (x +++ y) ≡ open_all k b x ⊞ open_all k b y
  open_all_plus b none y = sym (none_laid (open_all k b y))
  open_all_plus b (more t x) y = ap (λ (z : Opening). open_up k b t ⊞ z) (open_all_plus b x y) ∙ sym (laid_assoc (open_up k b t) (open_all k b x) (open_all k b y))

  pub open_back_is : (b : Bool) (ts : Trees) → open_back k b ts ≡ open_all k b (revs ts)
  open_back_is b none = refl
  open_back_is b (more t ts) =
      ap (λ (z : Opening). z ⊞ open_up k b t) (open_back_is b ts)
      ∙ sym (open_all_plus b (revs ts) (more t none) ∙ ap (λ (z : Opening). open_all k b (revs ts) ⊞ z) (laid_none (open_up k b t)))

  pub open_parts_is : (b : Bool) (ts : Trees) → open_parts k b ts ≡ open_all k b (sel k part ts)
  open_parts_is b none = refl
  open_parts_is b (more t ts) = go (status k t) (open_parts_is b ts)
    where
      go : (s : Status) → open_parts k b ts ≡ open_all k b (sel k part ts) →
          if_part s (open_parts k b ts) (open_up k b t ⊞ open_parts k b ts) ≡ open_all k b (keep (same s part) t (sel k part ts))
      go bare ih = ih
      go part ih = ap (λ (z : Opening). open_up k b t ⊞ z) ih
      go full ih = ih

  -- A tree that is not partial stays whole.
  pub open_whole : (b c : Bool) (t : Tree) → status k t ≡ far c → open_up k b t ≡ laid (more t none)
  open_whole b c (grave g) e = refl
  open_whole b true (any ts) e = rw e
  open_whole b false (any ts) e = rw e
  open_whole b true (row ts) e = rw e
  open_whole b false (row ts) e = rw e

  -- ---- the statement, and what follows for branches in a row

  -- The opening allows the row just if the tree allows it and it rises.
  abbrev Opens : Bool → Tree → Opening → List ℕ → Type 0
  Opens b t o l = (Opened o l → Allows t l × Rise k b l) × (Allows t l → Rise k b l → Opened o l)

  -- So it is for the tree laid open, both ways and for each row.
  abbrev pub Lays : Tree → Type 0
  Lays t = (b : Bool) (l : List ℕ) → Opens b t (open_up k b t) l

  pub open_all_in : (b : Bool) (ts : Trees) (l : List ℕ) → Alls Lays ts → Opened (open_all k b ts) l → InRow ts l
  open_all_in b none l a r = r
  open_all_in b (more t ts) l a r =
      let h = halves (open_up k b t) (open_all k b ts) l r in
      rw h.is (next ((a.0 b h.fore).0 h.here).0 (open_all_in b ts h.rest a.1 h.there))

  -- Each part of a row that rises does so.
  pub rise_open_all : (b : Bool) (ts : Trees) (l : List ℕ) → Alls Lays ts → InRow ts l → Rise k b l → Opened (open_all k b ts) l
  rise_open_all b none l a r s = r
  rise_open_all b (more t ts) l a (next {k = x} {l = y} h r) s =
      glue (open_up k b t) (open_all k b ts) x y ((a.0 b x).1 h (rise_first k b x y s)) (rise_open_all b ts y a.1 r (rise_second k b x y s))

  -- If they come in sequence, what is laid open rises: skip the branches that lack b, and stop at the first one that has it.
  pub open_all_rise : (b : Bool) (ts : Trees) (l : List ℕ) → Alls Lays ts → sorted k b ts ≡ true → Opened (open_all k b ts) l → Rise k b l
  open_all_rise b none l a e nil = rise_lacks k b b [] refl
  open_all_rise b (more t ts) l a e r =
      let h = halves (open_up k b t) (open_all k b ts) l r in
      rw h.is (go h (same (status k t) (far b)) refl e ((a.0 b h.fore).0 h.here) (λ s. open_all_rise b ts h.rest a.1 s h.there))
    where
      go : (h : Halves (open_up k b t) (open_all k b ts) l) (q : Bool) → same (status k t) (far b) ≡ q → cond q (sorted k b ts) (all_are k (far (not b)) ts) ≡ true →
          Allows t h.fore × Rise k b h.fore → (sorted k b ts ≡ true → Rise k b h.rest) → Rise k b (h.fore ++ h.rest)
      go h true d e p ih = rise_skip k b h.fore h.rest (allows_count k b p.0 ∙ far_lacks k b t (same_is (status k t) (far b) d)) (ih e)
      go h false d e p ih =
          rise_stop k b h.fore h.rest
          (in_row_count k (not b) (open_all_in b ts h.rest a.1 h.there) ∙ far_count k (not b) ts (all_are_so k (far (not b)) ts e)) p.1

  -- ---- branches in any order

  -- What such branches are laid open into.
  abbrev any_core : Bool → Trees → Opening
  any_core b ts = laid (group (sel k (far b) ts)) ⊞ (open_parts k b ts ⊞ laid (group (sel k (far (not b)) ts)))

  any_to : (b : Bool) (ts : Trees) (l : List ℕ) → Alls Lays ts → few (sel k part ts) ≡ true → Opened (any_core b ts) l → Allows (any ts) l × Rise k b l
  any_to b ts l a e r =
      let ps = sel k part ts in
      let h = halves (laid (group (sel k (far b) ts))) (open_parts k b ts ⊞ laid (group (sel k (far (not b)) ts))) l r in
      let i = halves (open_parts k b ts) (laid (group (sel k (far (not b)) ts))) h.rest h.there in
      let x = group_in (sel k (far b) ts) h.fore h.here in
      let z = group_in (sel k (far (not b)) ts) i.rest i.there in
      let o : Opened (open_all k b ps) i.fore = subst (λ (w : Opening). Opened w i.fore) (open_parts_is b ts) i.here in
      let p : Alls Lays ps = sel_alls k Lays part ts a in
      let m : Mixed ts (x.way +++ (ps +++ z.way)) = mixed_trans (lined_mixed k b ts) (mixed_plus x.mix (mixed_plus (mixed_refl ps) z.mix)) in
      let cx : count k b h.fore ≡ 0 = in_row_count k b x.run ∙ mixed_count k b x.mix ∙ sel_lacks k b ts in
      let cz : count k (not b) i.rest ≡ 0 = in_row_count k (not b) z.run ∙ mixed_count k (not b) z.mix ∙ sel_lacks k (not b) ts in
      let eq : l ≡ h.fore ++ (i.fore ++ i.rest) = h.is ∙ ap (λ (w : List ℕ). h.fore ++ w) i.is in
      rw eq (
        mixed m (in_plus x.run (in_plus (open_all_in b ps i.fore p o) z.run)),
        rise_skip k b h.fore (i.fore ++ i.rest) cx (rise_stop k b i.fore i.rest cz (open_all_rise b ps i.fore p (few_sorted k b ps e) o)),
      )

  -- A row that rises has the branches in sequence, so it is cut in three.
  any_from : (b : Bool) (ts : Trees) (l : List ℕ) → Goods ts → Alls Lays ts → Anyhow ts l → Rise k b l →
      (few (sel k part ts) ≡ true) × Opened (any_core b ts) l
  any_from b ts l g a w s =
      let us = w.way in
      let e = sorted_lined k b us (in_sorted k b us l (mixed_goods w.mix g) w.run s) in
      let c = in_cut (sel k (far b) us) (sel k part us +++ sel k (far (not b)) us) (subst (λ (x : Trees). InRow x l) e.0 w.run) in
      let d = in_cut (sel k part us) (sel k (far (not b)) us) c.there in
      let q : sel k part ts ≡ sel k part us = mixed_few (mixed_sel k part w.mix) e.1 in
      let eq : l ≡ c.fore ++ (d.fore ++ d.rest) = c.is ∙ ap (λ (x : List ℕ). c.fore ++ x) d.is in
      let s' : Rise k b d.fore = rise_first k b d.fore d.rest (rise_second k b c.fore (d.fore ++ d.rest) (rw eq at s)) in
      let r : InRow (sel k part ts) d.fore = subst (λ (x : Trees). InRow x d.fore) (sym q) d.here in
      let p : Opened (open_parts k b ts) d.fore =
      subst (λ (x : Opening). Opened x d.fore) (sym (open_parts_is b ts)) (rise_open_all b (sel k part ts) d.fore (sel_alls k Lays part ts a) r s') in (
        ap few q ∙ e.1,
        rw eq
            (glue (laid (group (sel k (far b) ts))) (open_parts k b ts ⊞ laid (group (sel k (far (not b)) ts))) c.fore (d.fore ++ d.rest)
            (in_group (sel k (far b) ts) c.fore (mixed_sel k (far b) w.mix) c.here)
            (glue (open_parts k b ts) (laid (group (sel k (far (not b)) ts))) d.fore d.rest p
            (in_group (sel k (far (not b)) ts) d.rest (mixed_sel k (far (not b)) w.mix) d.there))),
      )

  -- ---- branches in a row

  abbrev row_core : Bool → Trees → Opening
  row_core b ts = cond (sorted k b ts) (open_all k b ts) (cond (sorted k b (revs ts)) (open_back k b ts) stuck)

  row_to : (b : Bool) (ts : Trees) (l : List ℕ) → Alls Lays ts → Opened (row_core b ts) l → Allows (row ts) l × Rise k b l
  row_to b ts l a r = go (sorted k b ts) refl r
    where
      back : (x : Bool) → sorted k b (revs ts) ≡ x → Opened (cond x (open_back k b ts) stuck) l → Allows (row ts) l × Rise k b l
      back true e r =
          let o : Opened (open_all k b (revs ts)) l = subst (λ (w : Opening). Opened w l) (open_back_is b ts) r in
          let p = mixed_alls Lays (mixed_revs ts) a in
          (turned (is_turned ts) (open_all_in b (revs ts) l p o), open_all_rise b (revs ts) l p e o)
      back false e r = absurd r

      go : (x : Bool) → sorted k b ts ≡ x → Opened (cond x (open_all k b ts) (cond (sorted k b (revs ts)) (open_back k b ts) stuck)) l → Allows (row ts) l × Rise k b l
      go true e r = (straight (open_all_in b ts l a r), open_all_rise b ts l a e r)
      go false e r = back (sorted k b (revs ts)) refl r

  -- The branches of a partial tree do not come in sequence both ways, so trying one way first hides nothing.
  row_from : (b : Bool) (ts : Trees) (l : List ℕ) → 2 ≤ len ts → Goods ts → Alls Lays ts → ((count_ts k b ts ≡ 0) ⊎ (count_ts k (not b) ts ≡ 0) → ⊥) →
      Allows (row ts) l → Rise k b l → Opened (row_core b ts) l
  row_from b ts l n g a w (straight r) s = rw (in_sorted k b ts l g r s) (rise_open_all b ts l a r s)
  row_from b ts l n g a w (turned u q) s = go (sorted k b ts) refl
    where
      r : InRow (revs ts) l
      r = subst (λ (x : Trees). InRow x l) (turned_is u) q

      f : sorted k b (revs ts) ≡ true
      f = in_sorted k b (revs ts) l (mixed_goods (mixed_revs ts) g) r s

      go : (x : Bool) → sorted k b ts ≡ x → Opened (cond x (open_all k b ts) (cond (sorted k b (revs ts)) (open_back k b ts) stuck)) l
      go true e = absurd (w (sorted_both k b ts n g e f))
      go false e = rw f (subst (λ (x : Opening). Opened x l) (sym (open_back_is b ts)) (rise_open_all b (revs ts) l (mixed_alls Lays (mixed_revs ts) a) r s))

  -- ---- each well-formed tree

  part_not : (b : Bool) (ts : Trees) → status k (row ts) ≡ part → (count_ts k b ts ≡ 0) ⊎ (count_ts k (not b) ts ≡ 0) → ⊥
  part_not true ts e (inl h) = let z = status_says k (row ts) e in omega arith
  part_not true ts e (inr h) = let z = status_says k (row ts) e in omega arith
  part_not false ts e (inl h) = let z = status_says k (row ts) e in omega arith
  part_not false ts e (inr h) = let z = status_says k (row ts) e in omega arith

  -- A tree that stays whole.
  whole : (b c : Bool) (t : Tree) (l : List ℕ) → count_t k c t ≡ 0 → Opens b t (laid (more t none)) l
  whole b c t l e = ((λ r. (one_in r, rise_lacks k b c l (allows_count k c (one_in r) ∙ e))), λ p s. in_one p)

  mutual
    pub lays : (t : Tree) → Good t → Lays t
    lays (grave g) h b l = go (k g) refl
      where
        go : (x : Bool) → k g ≡ x → Opens b (grave g) (laid (more (grave g) none)) l
        go true e = whole b false (grave g) l (rw e)
        go false e = whole b true (grave g) l (rw e)
    lays (any ts) h b l = go (status k (any ts)) refl (lays_all ts h.1)
      where
        to : (x : Bool) → few (sel k part ts) ≡ x → Alls Lays ts → Opened (cond x (any_core b ts) stuck) l → Allows (any ts) l × Rise k b l
        to true e a r = any_to b ts l a e r
        to false e a r = absurd r

        from : Alls Lays ts → Allows (any ts) l → Rise k b l → Opened (cond (few (sel k part ts)) (any_core b ts) stuck) l
        from a p s = let q = any_from b ts l h.1 a (any_anyhow p) s in rw q.0 q.1

        go : (x : Status) → status k (any ts) ≡ x → Alls Lays ts → Opens b (any ts) (if_part x (laid (more (any ts) none)) (cond (few (sel k part ts)) (any_core b ts) stuck)) l
        go bare e a = whole b true (any ts) l (status_says k (any ts) e)
        go full e a = whole b false (any ts) l (status_says k (any ts) e).1
        go part e a = (to (few (sel k part ts)) refl a, from a)
    lays (row ts) h b l = go (status k (row ts)) refl (lays_all ts h.1)
      where
        go : (x : Status) → status k (row ts) ≡ x → Alls Lays ts → Opens b (row ts) (if_part x (laid (more (row ts) none)) (row_core b ts)) l
        go bare e a = whole b true (row ts) l (status_says k (row ts) e)
        go full e a = whole b false (row ts) l (status_says k (row ts) e).1
        go part e a = (row_to b ts l a, row_from b ts l (omega (arith, h.0)) h.1 a (part_not b ts e))

    pub lays_all : (ts : Trees) → Goods ts → Alls Lays ts
    lays_all none h = tt
    lays_all (more t ts) h = (lays t h.0, lays_all ts h.1)
