-- Rows of graves cut by a kind: rows that rise, and rows in which the kind is one stretch.
use Rattle.std.proofs.Common.{◌≡◌, ℕ, ◌+◌, ◌≤◌, Bool, true, false, not, ◌⊎◌, List, [], ◌∷◌, ◌++◌, reverse, sym, refl, ap, ◌∙◌, subst, inl, inr, ⊎_elim, append_assoc, append-nil, arith}
use mathlib.Core.List.{reverse-append}
use Rattle.finds.specs.Counts.{hit, count}
use Rattle.finds.proofs.Counts.{count_append, count_reverse}

-- The row rises to b: first what lacks b, then what lacks the other.
pub record Rise (k : ℕ → Bool) (b : Bool) (l : List ℕ) : Type 0 where
  pub fore : List ℕ
  pub rest : List ℕ
  pub is : l ≡ fore ++ rest
  pub lacks : count k b fore ≡ 0
  pub keeps : count k (not b) rest ≡ 0

-- The kind is one stretch of the row: first what lacks it, then what falls from it.
pub record Stretch (k : ℕ → Bool) (l : List ℕ) : Type 0 where
  pub fore : List ℕ
  pub rest : List ℕ
  pub is : l ≡ fore ++ rest
  pub lacks : count k true fore ≡ 0
  pub falls : Rise k false rest

-- Of two cuts of a row, into a and c and into e and f, the second lies within a.
record Within (a c e f : List ℕ) : Type 0 where
  pub mid : List ℕ
  pub first : a ≡ e ++ mid
  pub second : f ≡ mid ++ c

-- One of two cuts of a row lies within the first part of the other.
cuts : (a c e f : List ℕ) → a ++ c ≡ e ++ f → Within a c e f ⊎ Within e f a c
cuts [] c e f h = inr (record { mid = e; first = refl; second = h })
cuts (x ∷ a) c [] f h = inl (record { mid = x ∷ a; first = refl; second = sym h })
cuts (x ∷ a) c (y ∷ e) f h =
    ⊎_elim (λ w. inl (record { mid = w.mid; first = cc; second = w.second })) (λ w. inr (record { mid = w.mid; first = cc; second = w.second })) (cuts a c e f (cc))

-- A row that rises, cut into a and c: the turn lies in one of the parts.
abbrev pub RiseCut : (ℕ → Bool) → Bool → List ℕ → List ℕ → Type 0
RiseCut k b a c = ((count k b a ≡ 0) × Rise k b c) ⊎ (Rise k b a × (count k (not b) c ≡ 0))

-- A row with the kind in one stretch, cut into a and c: the stretch lies in one of the parts, or the first rises to it and the second falls.
abbrev pub StretchCut : (ℕ → Bool) → List ℕ → List ℕ → Type 0
StretchCut k a c = ((count k true a ≡ 0) × Stretch k c) ⊎ ((Stretch k a × (count k true c ≡ 0)) ⊎ (Rise k true a × Rise k false c))

module _ (k : ℕ → Bool) where
  within_counts : (b : Bool) {a c e f : List ℕ} (w : Within a c e f) →
      (count k b a ≡ count k b e + count k b w.mid) × (count k b f ≡ count k b w.mid + count k b c)
  within_counts b {c = c} {e = e} w = (ap (count k b) w.first ∙ count_append k b e w.mid, ap (count k b) w.second ∙ count_append k b w.mid c)

  -- ---- rows that rise

  rise_free : (b : Bool) (l : List ℕ) → count k b l ≡ 0 → Rise k b l
  rise_free b l h = record { fore = l; rest = []; is = sym (append-nil l); lacks = h; keeps = refl }

  rise_all : (b : Bool) (l : List ℕ) → count k (not b) l ≡ 0 → Rise k b l
  rise_all b l h = record { fore = []; rest = l; is = refl; lacks = refl; keeps = h }

  -- What lacks either rises both ways.
  pub rise_lacks : (b c : Bool) (l : List ℕ) → count k c l ≡ 0 → Rise k b l
  rise_lacks true true l h = rise_free true l h
  rise_lacks true false l h = rise_all true l h
  rise_lacks false true l h = rise_all false l h
  rise_lacks false false l h = rise_free false l h

  pub rise_skip : (b : Bool) (a c : List ℕ) → count k b a ≡ 0 → Rise k b c → Rise k b (a ++ c)
  rise_skip b a c h r = record {
    fore = a ++ r.fore;
    rest = r.rest;
    is = ap (λ (x : List ℕ). a ++ x) r.is ∙ sym (append_assoc a r.fore r.rest);
    lacks = (let z = count_append k b a r.fore in omega arith);
    keeps = r.keeps;
  }

  pub rise_stop : (b : Bool) (a c : List ℕ) → count k (not b) c ≡ 0 → Rise k b a → Rise k b (a ++ c)
  rise_stop b a c h r = record {
    fore = r.fore;
    rest = r.rest ++ c;
    is = ap (λ (x : List ℕ). x ++ c) r.is ∙ append_assoc r.fore r.rest c;
    lacks = r.lacks;
    keeps = (let z = count_append k (not b) r.rest c in omega arith);
  }

  pub rise_cut : (b : Bool) (a c : List ℕ) → Rise k b (a ++ c) → RiseCut k b a c
  rise_cut b a c r = go (cuts a c r.fore r.rest r.is)
    where
      go : Within a c r.fore r.rest ⊎ Within r.fore r.rest a c → RiseCut k b a c
      go (inl w) = let z = within_counts (not b) w in inr (record { fore = r.fore; rest = w.mid; is = w.first; lacks = r.lacks; keeps = omega arith }, omega arith)
      go (inr w) = let z = within_counts b w in inl (omega arith, record { fore = w.mid; rest = r.rest; is = w.second; lacks = omega arith; keeps = r.keeps })

  -- Each part of a row that rises does so.
  pub rise_first : (b : Bool) (a c : List ℕ) → Rise k b (a ++ c) → Rise k b a
  rise_first b a c r = ⊎_elim (λ h. rise_free b a h.0) (λ h. h.0) (rise_cut b a c r)

  pub rise_second : (b : Bool) (a c : List ℕ) → Rise k b (a ++ c) → Rise k b c
  rise_second b a c r = ⊎_elim (λ h. h.1) (λ h. rise_all b c h.1) (rise_cut b a c r)

  pub rise_turn : (b : Bool) (l : List ℕ) → Rise k b l → Rise k (not b) (reverse l)
  rise_turn b l r = record {
    fore = reverse r.rest;
    rest = reverse r.fore;
    is = ap reverse r.is ∙ reverse-append r.fore r.rest;
    lacks = count_reverse k (not b) r.rest ∙ r.keeps;
    keeps = count_reverse k (not (not b)) r.fore ∙ twice b r.lacks;
  }
    where
      twice : (b : Bool) → count k b r.fore ≡ 0 → count k (not (not b)) r.fore ≡ 0
      twice true h = h
      twice false h = h

  -- What rises both ways lacks one of the two.
  pub rise_both : (l : List ℕ) → Rise k true l → Rise k false l → (count k true l ≡ 0) ⊎ (count k false l ≡ 0)
  rise_both l r s = go (rise_cut true s.fore s.rest (subst (λ (z : List ℕ). Rise k true z) s.is r))
    where
      go : RiseCut k true s.fore s.rest → (count k true l ≡ 0) ⊎ (count k false l ≡ 0)
      go (inl h) = inl (ap (count k true) s.is ∙ (let z = count_append k true s.fore s.rest in omega arith))
      go (inr h) = inr (ap (count k false) s.is ∙ (let z = count_append k false s.fore s.rest in omega arith))

  -- ---- rows in which the kind is one stretch

  pub stretch_fall : (l : List ℕ) → Rise k false l → Stretch k l
  stretch_fall l r = record { fore = []; rest = l; is = refl; lacks = refl; falls = r }

  -- What lacks the kind, and what has nothing else.
  pub stretch_lacks : (b : Bool) (l : List ℕ) → count k b l ≡ 0 → Stretch k l
  stretch_lacks b l h = stretch_fall l (rise_lacks false b l h)

  pub stretch_skip : (a c : List ℕ) → count k true a ≡ 0 → Stretch k c → Stretch k (a ++ c)
  stretch_skip a c h s = record {
    fore = a ++ s.fore;
    rest = s.rest;
    is = ap (λ (x : List ℕ). a ++ x) s.is ∙ sym (append_assoc a s.fore s.rest);
    lacks = (let z = count_append k true a s.fore in omega arith);
    falls = s.falls;
  }

  pub stretch_stop : (a c : List ℕ) → count k true c ≡ 0 → Stretch k a → Stretch k (a ++ c)
  stretch_stop a c h s = record {
    fore = s.fore;
    rest = s.rest ++ c;
    is = ap (λ (x : List ℕ). x ++ c) s.is ∙ append_assoc s.fore s.rest c;
    lacks = s.lacks;
    falls = rise_stop false s.rest c h s.falls;
  }

  -- What rises to the kind, and then what falls from it.
  pub stretch_join : (a c : List ℕ) → Rise k true a → Rise k false c → Stretch k (a ++ c)
  stretch_join a c r s = record {
    fore = r.fore;
    rest = r.rest ++ c;
    is = ap (λ (x : List ℕ). x ++ c) r.is ∙ append_assoc r.fore r.rest c;
    lacks = r.lacks;
    falls = rise_skip false r.rest c r.keeps s;
  }

  pub stretch_cut : (a c : List ℕ) → Stretch k (a ++ c) → StretchCut k a c
  stretch_cut a c s = go (cuts a c s.fore s.rest s.is)
    where
      go : Within a c s.fore s.rest ⊎ Within s.fore s.rest a c → StretchCut k a c
      go (inl w) =
          ⊎_elim (λ h. inr (inr (record { fore = s.fore; rest = w.mid; is = w.first; lacks = s.lacks; keeps = h.0 }, h.1)))
          (λ h. inr (inl (record { fore = s.fore; rest = w.mid; is = w.first; lacks = s.lacks; falls = h.0 }, h.1)))
          (rise_cut false w.mid c (rw w.second at s.falls))
      go (inr w) = let z = within_counts true w in inl (omega arith, record { fore = w.mid; rest = s.rest; is = w.second; lacks = omega arith; falls = s.falls })

  -- The kind is one stretch of each part.
  pub stretch_first : (a c : List ℕ) → Stretch k (a ++ c) → Stretch k a
  stretch_first a c s = ⊎_elim (λ h. stretch_lacks true a h.0) (⊎_elim (λ h. h.0) (λ h. rises h.0)) (stretch_cut a c s)
    where
      rises : Rise k true a → Stretch k a
      rises r = record { fore = r.fore; rest = r.rest; is = r.is; lacks = r.lacks; falls = rise_free false r.rest r.keeps }

  pub stretch_second : (a c : List ℕ) → Stretch k (a ++ c) → Stretch k c
  stretch_second a c s = ⊎_elim (λ h. h.1) (⊎_elim (λ h. stretch_lacks true c h.1) (λ h. stretch_fall c h.1)) (stretch_cut a c s)

  pub stretch_turn : (l : List ℕ) → Stretch k l → Stretch k (reverse l)
  stretch_turn l s =
      rw s.is
      (rw reverse-append
      (stretch_join (reverse s.rest) (reverse s.fore) (rise_turn false s.rest s.falls) (rise_all false (reverse s.fore) (count_reverse k true s.fore ∙ s.lacks))))

  -- A kind that lay in one grave at most is one stretch of each row.
  pub stretch_few : (l : List ℕ) → count k true l ≤ 1 → Stretch k l
  stretch_few [] h = stretch_lacks true [] refl
  stretch_few (g ∷ l) h = go (k g) refl h (stretch_few l)
    where
      go : (x : Bool) → k g ≡ x → hit x true + count k true l ≤ 1 → (count k true l ≤ 1 → Stretch k l) → Stretch k (g ∷ l)
      go true e h ih = stretch_fall (g ∷ l) (rise_skip false (g ∷ []) l (rw e) (rise_all false l (omega arith)))
      go false e h ih = stretch_skip (g ∷ []) l (rw e) (ih (omega arith))
