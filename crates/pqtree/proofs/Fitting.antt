-- What a change has to do, and how it follows for a tree from what is done in a row of branches or inside one branch.
use Rattle.std.proofs.Common.{◌≡◌, ℕ, Bool, true, ◌⊎◌, List, ◌++◌, reverse, sym, refl, ap, ◌∙◌, subst, inl, inr, ⊎_elim, arith}
use mathlib.Core.List.{reverse-reverse}
use Rattle.finds.specs.Trees.{Tree, any, row, Trees, more, Allows, mixed, straight, turned, Mixed, InRow, next}
use Rattle.finds.specs.Branches.{◌+++◌, revs}
use Rattle.finds.specs.Counts.{count_ts}
use Rattle.finds.proofs.Branches.{revs_revs, mixed_out, mixed_mid, put_in_middle, put_around, turned_is, is_turned}
use Rattle.finds.proofs.Counts.{count_ts_plus, mixed_count, in_row_count, in_plus, Cut, in_cut, in_row_turn}
use Rattle.pqtree.specs.Opening.{Opening, stuck, laid}
use Rattle.pqtree.specs.Change.{Outcome, torn, made, as_row, as_any, place}
use Rattle.pqtree.proofs.Words.{Stretch, stretch_skip, stretch_stop, stretch_first, stretch_second, stretch_turn}
use Rattle.pqtree.proofs.Opening.{Opened}

-- The rows that an outcome allows.
abbrev pub Changed : Outcome → List ℕ → Type 0
Changed torn l = ⊥
Changed (made t) l = Allows t l

-- ---- a row that may be turned round

pub row_ways : (o : Opening) (l : List ℕ) → Changed (as_row o) l → Opened o l ⊎ Opened o (reverse l)
row_ways stuck l p = absurd p
row_ways (laid us) l (straight r) = inl r
row_ways (laid us) l (turned w r) = inr (subst (λ (x : Trees). InRow x (reverse l)) (ap revs (turned_is w) ∙ revs_revs us) (in_row_turn r))

pub ways_row : (o : Opening) (l : List ℕ) → Opened o l ⊎ Opened o (reverse l) → Changed (as_row o) l
ways_row stuck l (inl p) = p
ways_row stuck l (inr p) = p
ways_row (laid us) l (inl r) = straight r
ways_row (laid us) l (inr r) = turned (is_turned us) (subst (λ (x : List ℕ). InRow (revs us) x) (reverse-reverse l) (in_row_turn r))

-- ---- a branch among others

-- The row cut before and behind the branch c, which has x before it and y behind it.
pub record Held (c : Tree) (x y : Trees) (l : List ℕ) : Type 0 where
  pub fore : List ℕ
  pub mid : List ℕ
  pub aft : List ℕ
  pub is : l ≡ fore ++ (mid ++ aft)
  pub before : InRow x fore
  pub here : Allows c mid
  pub behind_it : InRow y aft

pub held : (c : Tree) (x y : Trees) (l : List ℕ) → InRow (x +++ more c y) l → Held c x y l
held c x y l r = let d = in_cut x (more c y) r in go d d.there refl
  where
    go : (d : Cut x (more c y) l) {w : List ℕ} → InRow (more c y) w → w ≡ d.rest → Held c x y l
    go d (next {k = m} {l = e} h q) eq = record
        { fore = d.fore; mid = m; aft = e; is = d.is ∙ ap (λ (z : List ℕ). d.fore ++ z) (sym eq); before = d.here; here = h; behind_it = q }

-- What was made, as one of branches in any order: what stands on its left and on its right.
pub record Picked (o : Outcome) (x y : Trees) (l : List ℕ) : Type 0 where
  pub left : Trees
  pub right : Trees
  pub sides : Mixed (x +++ y) (left +++ right)
  pub run : Opened (place o left right) l

pub picked : (o : Outcome) (x y : Trees) (l : List ℕ) → Changed (as_any (place o x y)) l → Picked o x y l
picked torn x y l p = absurd p
picked (made c) x y l (mixed m r) =
    let o = mixed_out (put_in_middle c x y) m in
    let a = put_around o.2 in
    record {
      left = a.left;
      right = a.right;
      sides = subst (λ (z : Trees). Mixed (x +++ y) z) a.out o.1;
      run = subst (λ (z : Trees). InRow z l) a.with_it r;
    }

unpicked : (o : Outcome) (x y : Trees) (l : List ℕ) → Picked o x y l → Changed (as_any (place o x y)) l
unpicked torn x y l q = q.run
unpicked (made c) x y l q = mixed (mixed_mid c x y q.left q.right q.sides) q.run

module _ (k : ℕ → Bool) where
  -- The outcome allows just those rows of the tree in which the kind is one stretch.
  abbrev pub Fit : Tree → Outcome → Type 0
  Fit t o = (l : List ℕ) → (Changed o l → Allows t l × Stretch k l) × (Allows t l → Stretch k l → Changed o l)

  -- The opening allows just those rows of the branches, as they stand, in which the kind is one stretch.
  abbrev pub FitRow : Trees → Opening → Type 0
  FitRow ts o = (l : List ℕ) → (Opened o l → InRow ts l × Stretch k l) × (InRow ts l → Stretch k l → Opened o l)

  -- What is done to the branches as they stand does for the row that may be turned.
  pub row_fits : (ts : Trees) (o : Opening) → FitRow ts o → Fit (row ts) (as_row o)
  row_fits ts o f l = (
    (λ p. ⊎_elim (λ r. let q = (f l).0 r in (straight q.0, q.1))
        (λ r. let q = (f (reverse l)).0 r in (ways_row (laid ts) l (inr q.0), subst (λ (x : List ℕ). Stretch k x) (reverse-reverse l) (stretch_turn k (reverse l) q.1)))
        (row_ways o l p)),
    (λ p s. ways_row o l (⊎_elim (λ r. inl ((f l).1 r s)) (λ r. inr ((f (reverse l)).1 r (stretch_turn k l s))) (row_ways (laid ts) l p))),
  )

  -- If c alone has the kind, it is enough to change c.
  pub place_fit : (c : Tree) (x y : Trees) (o : Outcome) → Fit c o → count_ts k true x ≡ 0 → count_ts k true y ≡ 0 → FitRow (x +++ more c y) (place o x y)
  place_fit c x y o f cx cy l = (to o f, λ r s. let h = held c x y l r in from o h ((f h.mid).1 h.here (inner h s)))
    where
      inner : (h : Held c x y l) → Stretch k l → Stretch k h.mid
      inner h s = stretch_first k h.mid h.aft (stretch_second k h.fore (h.mid ++ h.aft) (subst (λ (z : List ℕ). Stretch k z) h.is s))

      to : (o : Outcome) → Fit c o → Opened (place o x y) l → InRow (x +++ more c y) l × Stretch k l
      to torn f p = absurd p
      to (made u) f r =
          let h = held u x y l r in
          let p = (f h.mid).0 h.here in
          rw h.is (
            in_plus h.before (next p.0 h.behind_it),
            stretch_skip k h.fore (h.mid ++ h.aft) (in_row_count k true h.before ∙ cx) (stretch_stop k h.mid h.aft (in_row_count k true h.behind_it ∙ cy) p.1),
          )

      from : (o : Outcome) (h : Held c x y l) → Changed o h.mid → Opened (place o x y) l
      from torn h q = absurd q
      from (made u) h q = rw h.is (in_plus h.before (next q h.behind_it))

  -- The same for branches in any order.
  pub any_fits : (c : Tree) (x y : Trees) (o : Outcome) → Fit c o → count_ts k true x ≡ 0 → count_ts k true y ≡ 0 → Fit (any (x +++ more c y)) (as_any (place o x y))
  any_fits c x y o f cx cy l = (
    (λ p. let q = picked o x y l p in let h = (at o q).0 q.run in
        (unpicked (made c) x y l (record { left = q.left; right = q.right; sides = q.sides; run = h.0 }), h.1)),
    (λ p s. let q = picked (made c) x y l p in
        unpicked o x y l (record { left = q.left; right = q.right; sides = q.sides; run = (at (made c) q).1 q.run s })),
  )
    where
      at : (o' : Outcome) (q : Picked o' x y l) →
          (Opened (place o q.left q.right) l → InRow (q.left +++ more c q.right) l × Stretch k l)
          × (InRow (q.left +++ more c q.right) l → Stretch k l → Opened (place o q.left q.right) l)
      at o' q =
          let a = mixed_count k true q.sides in
          let b = count_ts_plus k true x y in
          let d = count_ts_plus k true q.left q.right in
          place_fit c q.left q.right o f (omega arith) (omega arith) l
