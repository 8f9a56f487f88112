-- The nearest graves of a tree, from those of the branch that has b.
use Rattle.std.proofs.Common.{◌≡◌, ℕ, ◌+◌, ◌<◌, ◌≤◌, true, eqb, ◌⊎◌, List, [], ◌∷◌, ◌++◌, length, Some, None, Option, sym, refl, ap, ◌∙◌, subst, inl, inr, ⊎_elim, append_assoc, arith, eq-eqb}
use Rattle.std.proofs.lemmas.List.{length_push}
use Rattle.std.specs.Option.{option_or}
use Rattle.finds.specs.Branches.{◌+++◌}
use Rattle.finds.specs.Counts.{count}
use Rattle.finds.specs.Finds.{Finds}
use Rattle.finds.specs.Exactness.{Exactly}
use Rattle.finds.specs.Trees.{Tree, grave, any, row, Trees, none, more, len, graves, all_graves}
use Rattle.finds.proofs.Branches.{len_plus}
use Rattle.finds.proofs.Counts.{count_append, in_row_count, count_ts_plus}
use Rattle.pqtree.proofs.Fitting.{Held}
use Rattle.pqtree.proofs.Reading.{reads, reads_all}
use Rattle.trees.specs.Cells.{kids, Cells, Body}
use Rattle.certain.specs.Certain.{place_in}
use Rattle.certain.specs.Middle.{In, InSome, Across, Middle}
use Rattle.certain.specs.Near.{Told, Flank, Flanks}
use Rattle.certain.specs.declared.neighbours.Neighbours.{Neighbours}
use Rattle.certain.proofs.Descent.{to_branch, from_branch, from_across}
use Rattle.certain.proofs.Exact.{between_middle}
use Rattle.certain.proofs.Firm.{at_left, at_mid, at_right}
use Rattle.certain.proofs.Places.{place_right}
use Rattle.certain.proofs.Middle.{Once, middle_in}

-- a and c are the nearest to b, by the tree and its reading.
pub record Nigh (t : Tree) (a b c : ℕ) : Type 0 where
  pub middle : Middle a b c t
  pub before : place_in (graves t) a < place_in (graves t) b
  pub behind : place_in (graves t) b < place_in (graves t) c
  pub none_before : (x y : ℕ) → Middle x b y t → place_in (graves t) x < place_in (graves t) b → place_in (graves t) x ≤ place_in (graves t) a
  pub none_behind : (x y : ℕ) → Middle x b y t → place_in (graves t) b < place_in (graves t) y → place_in (graves t) c ≤ place_in (graves t) y

-- What is told of b is right for the tree.
abbrev pub Right : Tree → ℕ → Option Neighbours → Type 0
Right t b None = (x y : ℕ) → Middle x b y t → ⊥
Right t b (Some p) = Nigh t p.before b p.behind

-- What is right for the tree is right for the orders that fit.
pub right_told : (f : Finds) (t : Tree) → Exactly f t → (b : ℕ) (r : Option Neighbours) → Right t b r → Told f (graves t) b r
right_told f t e b None h = λ x y k. h x y ((between_middle f t e x b y).0 k)
right_told f t e b (Some p) h = record {
  certain = (between_middle f t e p.before b p.behind).1 h.middle;
  before = h.before;
  behind = h.behind;
  none_before = λ x y k. h.none_before x y ((between_middle f t e x b y).0 k);
  none_behind = λ x y k. h.none_behind x y ((between_middle f t e x b y).0 k);
}

all_graves_plus : (x y : Trees) → all_graves (x +++ y) ≡ all_graves x ++ all_graves y
all_graves_plus none y = refl
all_graves_plus (more t x) y = ap (λ (z : List ℕ). graves t ++ z) (all_graves_plus x y) ∙ sym (append_assoc (graves t) (all_graves x) (all_graves y))

kids_graves : (u : Tree) → 1 ≤ len (kids u) → graves u ≡ all_graves (kids u)
kids_graves (grave g) h = absurd (omega arith)
kids_graves (any ts) h = refl
kids_graves (row ts) h = refl

-- ---- one level of the tree

module _ (b : ℕ) (R : Cells) (i : ℕ) (u : Tree) (body : Body R i u) (once : Once (kids u)) (x : Trees) (t : Tree) (y : Trees) (is : kids u ≡ x +++ more t y) (ib : In b t) where
  cut_once : Once (x +++ more t y)
  cut_once = subst Once is once

  -- The reading of the tree, cut before and behind the branch.
  abbrev reading : Held t x y (graves u)
  reading = record {
    fore = all_graves x;
    mid = graves t;
    aft = all_graves y;
    is = kids_graves u (let n = ap len is ∙ len_plus x (more t y) in omega arith) ∙ ap all_graves is ∙ all_graves_plus x (more t y);
    before = reads_all x;
    here = reads t;
    behind_it = reads_all y;
  }

  -- The places of graves before the branch, in it, and behind it.
  left : (g : ℕ) → InSome g x → (place_in (graves u) g ≡ place_in (all_graves x) g) × (place_in (all_graves x) g < length (all_graves x))
  left = at_left cut_once reading

  mid : (g : ℕ) → In g t → (place_in (graves u) g ≡ length (all_graves x) + place_in (graves t) g) × (place_in (graves t) g < length (graves t))
  mid = at_mid cut_once reading

  right : (g : ℕ) → InSome g y → place_in (graves u) g ≡ length (all_graves x) + (length (graves t) + place_in (all_graves y) g)
  right = at_right cut_once reading

  -- Either b is in the middle within the branch, or the two graves are on its two sides.
  ways : (a c : ℕ) → Middle a b c u → Middle a b c t ⊎ (Across a c x y × (R.sort i ≡ 2))
  ways a c m = to_branch a b c R i x t y ib u is once body m

  -- Two graves are the nearest if they are not outside the graves next to the branch, and no pair inside it is nearer.
  nearest_two : (p : Neighbours) → Middle p.before b p.behind u → place_in (graves u) p.before < place_in (graves u) b → place_in (graves u) b < place_in (graves u) p.behind →
      length (all_graves x) ≤ place_in (graves u) p.before + 1 → place_in (graves u) p.behind ≤ length (all_graves x) + length (graves t) →
      ((a c : ℕ) → Middle a b c t → place_in (graves u) a < place_in (graves u) b → place_in (graves u) a ≤ place_in (graves u) p.before) →
      ((a c : ℕ) → Middle a b c t → place_in (graves u) b < place_in (graves u) c → place_in (graves u) p.behind ≤ place_in (graves u) c) → Nigh u p.before b p.behind
  nearest_two p m h k v w e f = record {
    middle = m;
    before = h;
    behind = k;
    none_before = λ a c n l. before a c l (ways a c n);
    none_behind = λ a c n l. behind a c l (ways a c n);
  }
    where
      before : (a c : ℕ) → place_in (graves u) a < place_in (graves u) b → Middle a b c t ⊎ (Across a c x y × (R.sort i ≡ 2)) → place_in (graves u) a ≤ place_in (graves u) p.before
      before a c l (inl n) = e a c n l
      before a c l (inr (inl q, r)) = omega (arith, (left a q.0).0, (left a q.0).1)
      before a c l (inr (inr q, r)) = absurd (omega (arith, right a q.1, (mid b ib).0, (mid b ib).1))

      behind : (a c : ℕ) → place_in (graves u) b < place_in (graves u) c → Middle a b c t ⊎ (Across a c x y × (R.sort i ≡ 2)) → place_in (graves u) p.behind ≤ place_in (graves u) c
      behind a c l (inl n) = f a c n l
      behind a c l (inr (inl q, r)) = omega (arith, right c q.1)
      behind a c l (inr (inr q, r)) = absurd (omega (arith, (left c q.0).0, (left c q.0).1, (mid b ib).0))

  -- The nearest pair inside the branch stays the nearest.
  inner : (p : Neighbours) → Nigh t p.before b p.behind → Nigh u p.before b p.behind
  inner p h =
      let ends = middle_in p.before b p.behind t h.middle in
      let here = mid p.before ends.0 in
      let there = mid p.behind ends.2 in
      let at = mid b ib in
      nearest_two p (from_branch p.before b p.behind R i x t y ib u is h.middle) (omega (arith, here.0, at.0, h.before)) (omega (arith, there.0, at.0, h.behind))
      (omega (arith, here.0)) (omega (arith, there.0, there.1))
      (λ a c m l. let k = mid a (middle_in a b c t m).0 in let z = h.none_before a c m (omega (arith, k.0, at.0)) in omega (arith, k.0, here.0))
      (λ a c m l. let k = mid c (middle_in a b c t m).2 in let z = h.none_behind a c m (omega (arith, k.0, at.0)) in omega (arith, k.0, there.0))

  -- If there is none inside, the nearest are the graves next to the branch in a row.
  outer : (p : Neighbours) → ((a c : ℕ) → Middle a b c t → ⊥) → R.sort i ≡ 2 → Flank x y p.before p.behind → Nigh u p.before b p.behind
  outer p h e k =
      let at = mid b ib in
      nearest_two p (from_across p.before b p.behind R i x t y ib u is body e (inl (in_x, in_y))) (omega (arith, here, at.0)) (omega (arith, there, at.0, at.1))
      (omega (arith, here)) (omega (arith, there)) (λ a c m l. absurd (h a c m)) (λ a c m l. absurd (h a c m))
    where
      self : (g : ℕ) (l : List ℕ) → (count (eqb g) true (g ∷ l) ≡ 1 + count (eqb g) true l) × (place_in (g ∷ l) g ≡ 0)
      self g l = rw (eq-eqb g g refl) (refl, refl)

      ends : count (eqb p.before) true (all_graves x) ≡ count (eqb p.before) true k.fore + 1
      ends =
          let z = ap (count (eqb p.before) true) k.last ∙ count_append (eqb p.before) true k.fore (p.before ∷ []) in omega (arith, (self p.before []).0)

      in_x : InSome p.before x
      in_x = let n = in_row_count (eqb p.before) true (reads_all x) in let z = ends in omega arith

      in_y : InSome p.behind y
      in_y = let n = in_row_count (eqb p.behind) true (reads_all y) in let z = ap (count (eqb p.behind) true) k.first in omega (arith, (self p.behind k.rest).0)

      here : place_in (graves u) p.before + 1 ≡ length (all_graves x)
      here =
          let n = in_row_count (eqb p.before) true (reads_all x) in
          let m = ends in
          let o = cut_once p.before in
          let s = count_ts_plus (eqb p.before) true x (more t y) in
          let w = place_right p.before k.fore (p.before ∷ []) (omega arith) in
          let z = ap (λ (z : List ℕ). place_in z p.before) k.last in
          let c = ap length k.last ∙ length_push k.fore p.before in
          omega (arith, (left p.before in_x).0, (self p.before []).1)

      there : place_in (graves u) p.behind ≡ length (all_graves x) + length (graves t)
      there = let z = ap (λ (z : List ℕ). place_in z p.behind) k.first in omega (arith, right p.behind in_y, (self p.behind k.rest).1)

  -- If there are none there either, there are none.
  neither : ((a c : ℕ) → Middle a b c t → ⊥) → (R.sort i ≡ 2 → 1 ≤ len x → 1 ≤ len y → ⊥) → (a c : ℕ) → Middle a b c u → ⊥
  neither h k a c m = ⊎_elim (λ m. h a c m) (λ s. ⊎_elim (λ z. k s.1 (some a x z.0) (some c y z.1)) (λ z. k s.1 (some c x z.0) (some a y z.1)) s.0) (ways a c m)
    where
      some : (g : ℕ) (ts : Trees) → InSome g ts → 1 ≤ len ts
      some g none h = h
      some g (more v ts) h = omega arith

  -- So it goes from the branch to the tree.
  pub level : (r q : Option Neighbours) → Right t b r → Flanks (R.sort i) x y q → Right u b (option_or r q)
  level (Some p) q h k = inner p h
  level None (Some p) h k = outer p h k.0 k.1
  level None None h k = neither h k
