-- The smallest part that holds all graves of a kind: where it stands in the cells, and that changing it in its place changes the whole tree.
use Rattle.std.proofs.Common.{◌≡◌, ℕ, zero, suc, ◌+◌, ◌<◌, ◌≤◌, Bool, true, false, eqb, sym, refl, ap, ◌∙◌, subst, ⊎_elim, add_assoc, arith}
use lib.Bits.{bit_and}
use lib.Count.{ones}
use Rattle.std.proofs.lemmas.Bool.{cases_lt}
use Rattle.finds.specs.Trees.{Tree, grave, any, row, Trees, none, more}
use Rattle.finds.specs.Counts.{hit, count_t, count_ts}
use Rattle.finds.proofs.Branches.{Alls}
use Rattle.pqtree.specs.Status.{Status, bare, part, full, status, weigh, heavy}
use Rattle.pqtree.specs.Opening.{stuck, laid}
use Rattle.pqtree.specs.Change.{Outcome, torn, made, if_one, place, change, inside}
use Rattle.pqtree.proofs.Status.{status_says, heavy_bare}
use Rattle.pqtree.proofs.Change.{change_counts}
use Rattle.trees.specs.Cells.{nodes, all_nodes, set_of, kids, Sound, Sounds, Cells, Body, Ats, Ends, Part}
use Rattle.trees.specs.Masks.{Mask}
use Rattle.trees.proofs.Cells.{some_nodes, kids_nodes, kids_ats, body_set, first_part, kids_end}
use Rattle.trees.proofs.Sets.{sound_kids, sounds_first, sounds_rest, same_set, set_count}
use Rattle.changes.specs.Draft.{Kept}
use Rattle.changes.specs.Splice.{having, Shifted}
use Rattle.changes.specs.Template.{template}
use Rattle.changes.proofs.Shifting.{shifted_ats}
use Rattle.changes.proofs.Writing.{ats_kept}

-- The tree with other branches.
abbrev regrown : Tree → Trees → Tree
regrown (grave g) us = grave g
regrown (any ts) us = any us
regrown (row ts) us = row us

-- ---- how the kind lies in the branches

module _ (k : ℕ → Bool) where
  each_less : (c : ℕ) (ts : Trees) → count_ts k true ts < c → Alls (λ (t : Tree). count_t k true t < c) ts
  each_less c none h = tt
  each_less c (more t ts) h = (omega arith, each_less c ts (omega arith))

  weigh_count : (t : Tree) → (weigh (status k t) ≤ 1) × (weigh (status k t) ≤ count_t k true t)
  weigh_count t = go (status k t) refl
    where
      go : (s : Status) → status k t ≡ s → (weigh s ≤ 1) × (weigh s ≤ count_t k true t)
      go bare e = (omega arith, omega arith)
      go part e = (omega arith, omega (arith, status_says k t e))
      go full e = (omega arith, omega (arith, status_says k t e))

  heavy_count : (ts : Trees) → heavy k ts ≤ count_ts k true ts
  heavy_count none = omega arith
  heavy_count (more t ts) = omega (arith, weigh_count t, heavy_count ts)

  -- Where two branches or more have the kind, none of them has all of it. (h of those before have it, with c graves.)
  two_less : (n : ℕ) (ts : Trees) (h c : ℕ) → h ≤ c → 2 ≤ h + heavy k ts → c + count_ts k true ts ≡ n → Alls (λ (t : Tree). count_t k true t < n) ts
  two_less n none h c l w e = tt
  two_less n (more t ts) h c l w e =
      let a = weigh_count t in
      let b = heavy_count ts in
      (omega arith, two_less n ts (h + weigh (status k t)) (c + count_t k true t) (omega arith) (omega arith) (omega arith))

  -- ---- the change in one branch, and the change here

  inside_torn : (t : Tree) → heavy k (kids t) ≡ 1 → inside k (kids t) ≡ stuck → change k t ≡ torn
  inside_torn (grave g) e f = absurd (omega arith)
  inside_torn (any ts) e f = rw (e, f)
  inside_torn (row ts) e f = rw (e, f)

  inside_made : (t : Tree) (us : Trees) → heavy k (kids t) ≡ 1 → inside k (kids t) ≡ laid us → change k t ≡ made (regrown t us)
  inside_made (grave g) us e f = absurd (omega arith)
  inside_made (any ts) us e f = rw (e, f)
  inside_made (row ts) us e f = rw (e, f)

  regrown_nodes : (t : Tree) (us : Trees) → heavy k (kids t) ≡ 1 → nodes (regrown t us) ≡ suc (all_nodes us)
  regrown_nodes (grave g) us e = absurd (omega arith)
  regrown_nodes (any ts) us e = refl
  regrown_nodes (row ts) us e = refl

  regrown_body : (R S : Cells) (i : ℕ) (t : Tree) (us : Trees) → S.sort i ≡ R.sort i → S.set i ≡ R.set i → set_of (regrown t us) ≡ set_of t → Ats S (suc i) i 0 us → Body R i t → Body S i (regrown t us)
  regrown_body R S i (grave g) us p q e a b = (p ∙ b.0, q ∙ b.1)
  regrown_body R S i (any ts) us p q e a b = (p ∙ b.0, q ∙ b.1 ∙ sym e, a)
  regrown_body R S i (row ts) us p q e a b = (p ∙ b.0, q ∙ b.1 ∙ sym e, a)

  if_many : (m : ℕ) (x y : Outcome) → 2 ≤ m → if_one m x y ≡ y
  if_many zero x y h = refl
  if_many (suc zero) x y h = absurd (omega arith)
  if_many (suc (suc m)) x y h = refl

  change_here : (t : Tree) → 2 ≤ heavy k (kids t) → change k t ≡ template k t
  change_here (grave g) h = refl
  change_here (any ts) h = if_many (heavy k ts) _ _ h
  change_here (row ts) h = if_many (heavy k ts) _ _ h

-- ---- the cells with a changed part

-- S has the cells of R with a changed part in cell r: those before it, its parent and its place are kept, and those from e on are moved to o.
pub record Spliced (R S : Cells) (n r e o : ℕ) : Type 0 where
  pub kept : Kept R S r
  pub parent_is : S.parent r ≡ R.parent r
  pub place_is : S.place r ≡ R.place r
  pub behind : Shifted R S e n o

-- A part whose root is not behind r keeps its parent and its place.
pub links : (R S : Cells) (n r e o i : ℕ) → Spliced R S n r e o → i ≤ r → (S.parent i ≡ R.parent i) × (S.place i ≡ R.place i)
links R S n r e o i s h = ⊎_elim (λ l. (s.kept.parents i l, s.kept.places i l)) (λ l. let z : i ≡ r = omega arith in rw z (s.parent_is, s.place_is)) (cases_lt i r)

-- ---- the part to change

module _ (k : ℕ → Bool) (n r : ℕ) (R : Cells) where
  -- What follows for the whole if the part `it` becomes u: `whole` is made, and lies in the cells with the changed part.
  pub record Follows (A : Type 0) (makes : A → Type 0) (many : A → ℕ) (was : ℕ) (Lies : Cells → A → Type 0) (it u : Tree) : Type 0 where
    pub whole : A
    pub is : makes whole
    pub cells : many whole + nodes it ≡ was + nodes u
    pub lies : (S : Cells) → Spliced R S n r (r + nodes it) (r + nodes u) → Body S r u → Lies S whole

  -- In the cells from i on, `was` of them, the part `it` with the root in cell r is the smallest that holds the kind; what comes of it decides what comes of the whole.
  pub record Found (A fails : Type 0) (makes : A → Type 0) (many : A → ℕ) (i was : ℕ) (Lies : Cells → A → Type 0) : Type 0 where
    pub from : i ≤ r
    pub it : Tree
    pub is_part : Part R n r it
    pub within : r + nodes it ≤ i + was
    pub sound : Sound it
    pub spread : 2 ≤ heavy k (kids it)
    pub torn_so : template k it ≡ torn → fails
    pub made_so : (u : Tree) → template k it ≡ made u → Follows A makes many was Lies it u

  -- The part is found in the tree that lies from cell i on.
  abbrev pub FoundIn : ℕ → Tree → Type 0
  FoundIn i t = Found Tree (change k t ≡ torn) (λ w. change k t ≡ made w) nodes i (nodes t) (λ S w. Body S i w)

  -- The part is found in one of the branches that lie from cell i on.
  abbrev pub FoundAmong : ℕ → ℕ → ℕ → Trees → Type 0
  FoundAmong i p q ts = Found Trees (inside k ts ≡ stuck) (λ us. inside k ts ≡ laid us) all_nodes i (all_nodes ts) (λ S us. Ats S i p q us)

  -- What is found in cells is found in more cells around them.
  lift : {A B fails fails' : Type 0} {makes : A → Type 0} {makes' : B → Type 0} {many : A → ℕ} {many' : B → ℕ} {i j was was' : ℕ} {Lies : Cells → A → Type 0} {Lies' : Cells → B → Type 0} →
      Found A fails makes many i was Lies → j ≤ i → i + was ≤ j + was' → (fails → fails') → (f : A → B) → ((w : A) → makes w → makes' (f w)) → ((w : A) → many' (f w) + was ≡ was' + many w) →
      ((S : Cells) (e o : ℕ) (w : A) → Spliced R S n r e o → r < e → e ≤ i + was → many w + e ≡ was + o → makes w → Lies S w → Lies' S (f w)) → Found B fails' makes' many' j was' Lies'
  lift x h l fail f make size put = record {
    from = omega (arith, x.from);
    it = x.it;
    is_part = x.is_part;
    within = omega (arith, x.within);
    sound = x.sound;
    spread = x.spread;
    torn_so = λ e. fail (x.torn_so e);
    made_so = λ u e. let d = x.made_so u e in record {
      whole = f d.whole;
      is = make d.whole d.is;
      cells = omega (arith, size d.whole, d.cells);
      lies = λ S s b. put S (r + nodes x.it) (r + nodes u) d.whole s (omega (arith, some_nodes x.it)) x.within (omega (arith, d.cells)) d.is (d.lies S s b);
    };
  }

-- Of a tree the cell of its root has the graves of the kind that the tree has.
pub having_body : (k : ℕ → Bool) (m : ℕ) → Mask k true m → (R : Cells) (i : ℕ) (t : Tree) → Body R i t → Sound t → having R m i ≡ count_t k true t
having_body k m mask R i t b s = ap (λ (x : ℕ). ones (bit_and x m)) (body_set R i t b) ∙ set_count k true t m s mask

hit_one : (x : Bool) → hit x true ≤ 1
hit_one true = omega arith
hit_one false = omega arith

module _ (k : ℕ → Bool) (n r : ℕ) (R : Cells) (m all : ℕ) (mask : Mask k true m) (two : 2 ≤ all)
    (holds : having R m r ≡ all) (last : (x : ℕ) → r < x → x < n → having R m x ≡ all → ⊥) where
  -- Cell r is no cell of a tree that has less of the kind.
  root_light : (i : ℕ) (t : Tree) → Body R i t → Sound t → count_t k true t < all → i ≤ r → (suc i ≤ r → ⊥) → ⊥
  root_light i t b s l h below =
      ⊎_elim (λ z. let e : r ≡ i = omega arith in omega (arith, having_body k m mask R i t b s, ap (having R m) e, holds)) below (cases_lt r (suc i))

  mutual
    body_light : (i : ℕ) (t : Tree) → Body R i t → Sound t → count_t k true t < all → i ≤ r → r < i + nodes t → ⊥
    body_light i (grave g) b s l h u = root_light i (grave g) b s l h (λ z. omega arith)
    body_light i (any ts) b s l h u = root_light i (any ts) b s l h (λ z. ats_light (suc i) i 0 ts b.2 (sound_kids (any ts) s) (each_less k all ts l) z (omega arith))
    body_light i (row ts) b s l h u = root_light i (row ts) b s l h (λ z. ats_light (suc i) i 0 ts b.2 (sound_kids (row ts) s) (each_less k all ts l) z (omega arith))

    ats_light : (i p q : ℕ) (ts : Trees) → Ats R i p q ts → Sounds ts → Alls (λ (t : Tree). count_t k true t < all) ts → i ≤ r → r < i + all_nodes ts → ⊥
    ats_light i p q none a s f h u = omega arith
    ats_light i p q (more t ts) a s f h u =
        ⊎_elim (body_light i t a.2 (sounds_first t ts s) f.0 h) (λ w. ats_light (i + nodes t) p (suc q) ts a.3 (sounds_rest t ts s) f.1 w (omega arith)) (cases_lt r (i + nodes t))

  -- A branching: the kind lies in one branch, and the part is found there; or in more of them, and it is the branching itself.
  node : (t : Tree) (i : ℕ) → Part R n i t → Sound t → count_t k true t ≡ all → count_ts k true (kids t) ≡ all → i ≤ r → r < i + nodes t →
      (heavy k (kids t) ≡ 1 → FoundAmong k n r R (suc i) i 0 (kids t)) → FoundIn k n r R i t
  node t i p s c d h u inner = go (heavy k (kids t)) refl
    where
      go : (x : ℕ) → heavy k (kids t) ≡ x → FoundIn k n r R i t
      go zero e = absurd (omega (arith, heavy_bare k (kids t) e))
      go (suc zero) e =
          let x = inner e in
          lift k n r R x (omega arith) (omega (arith, kids_nodes t)) (inside_torn k t e) (regrown t) (λ w. inside_made k t w e)
          (λ w. omega (arith, regrown_nodes k t w e, kids_nodes t))
          (λ S b o w z l v j g a.
          let y : i < r = omega (arith, x.from) in
          let same = same_set (regrown t w) t (λ q. change_counts k (eqb q) true t (regrown t w) s.good (omega arith) (inside_made k t w e g)) in
          regrown_body k R S i t w (z.kept.sorts i y) (z.kept.sets i y) same a p.0)
      go (suc (suc x)) e =
          let v = two_less k all (kids t) 0 0 (omega arith) (omega arith) (omega arith) in
          let z : r ≡ i = ⊎_elim (λ (y : r < suc i). omega arith) (λ (y : suc i ≤ r). absurd (ats_light (suc i) i 0 (kids t) (kids_ats R i t p.0) (sound_kids t s) v y (omega (arith, kids_nodes t)))) (cases_lt r (suc i)) in
          record {
            from = h;
            it = t;
            is_part = rw z p;
            within = omega arith;
            sound = s;
            spread = omega arith;
            torn_so = λ f. change_here k t (omega arith) ∙ f;
            made_so = λ w f. record { whole = w; is = change_here k t (omega arith) ∙ f; cells = omega arith; lies = λ S y b. rw z at b };
          }

  -- Branches: the kind lies in the first one, and the part is found there; or among the others.
  branch : (t : Tree) (ts : Trees) (i p q : ℕ) → p < i → Ats R i p q (more t ts) → i + (nodes t + all_nodes ts) ≤ n → Sounds (more t ts) →
      count_ts k true (more t ts) ≡ all → heavy k (more t ts) ≡ 1 → r < i + (nodes t + all_nodes ts) →
      (count_t k true t ≡ all → i ≤ r → r < i + nodes t → FoundIn k n r R i t) → (count_ts k true ts ≡ all → heavy k ts ≡ 1 → FoundAmong k n r R (i + nodes t) p (suc q) ts) →
      FoundAmong k n r R i p q (more t ts)
  branch t ts i p q l a room s c one u first rest = go (status k t) refl one
    where
      here : inside k (more t ts) ≡ place (change k t) none ts → heavy k ts ≡ 0 → FoundAmong k n r R i p q (more t ts)
      here so e =
          let b = heavy_bare k ts e in
          let sound = sounds_first t ts s in
          let c' : count_t k true t ≡ all = omega arith in
          let early : i ≤ r = ⊎_elim (λ z. absurd (last i z (omega (arith, some_nodes t)) (having_body k m mask R i t a.2 sound ∙ c'))) (λ z. z) (cases_lt r i) in
          let late : r < i + nodes t = ⊎_elim (λ z. z) (λ z. absurd (ats_light (i + nodes t) p (suc q) ts a.3 (sounds_rest t ts s) (each_less k all ts (omega arith)) z (omega arith))) (cases_lt r (i + nodes t)) in
          lift k n r R (first c' early late) (omega arith) (omega arith) (λ y. so ∙ ap (λ (o : Outcome). place o none ts) y) (λ w. more w ts) (λ w y. so ∙ ap (λ (o : Outcome). place o none ts) y) (λ w. omega arith)
          (λ S b o w z y v j g f.
          let k = links R S n r b o i z early in
          (k.0 ∙ a.0, k.1 ∙ a.1, f, shifted_ats R S b n o (i + nodes t) (i + nodes w) p (suc q) ts z.behind v (omega arith) (omega arith) (omega arith) a.3))

      go : (x : Status) → status k t ≡ x → weigh x + heavy k ts ≡ 1 → FoundAmong k n r R i p q (more t ts)
      go bare f e =
          let b = status_says k t f in
          let x = rest (omega arith) (omega arith) in
          lift k n r R x (omega arith) (omega arith) (λ y. rw (f, y)) (more t) (λ w y. rw (f, y)) (λ w. omega arith)
          (λ S b o w z l v j g d. let h = ats_kept i p q (more t none) z.kept (omega (arith, x.from)) (a.0, a.1, a.2, tt) in (h.0, h.1, h.2, d))
      go part f e = here (rw f) (omega arith)
      go full f e = here (rw f) (omega arith)

  -- In a tree that has the whole kind, and that has cell r among its cells, the part is found.
  mutual
    pub found_in : (t : Tree) (i : ℕ) → Part R n i t → Sound t → count_t k true t ≡ all → i ≤ r → r < i + nodes t → FoundIn k n r R i t
    found_in (grave g) i p s c h u = absurd (omega (arith, hit_one (k g)))
    found_in (any ts) i p s c h u =
        node (any ts) i p s c c h u (λ e. found_among ts (suc i) i 0 (omega arith) p.0.2 (omega (arith, p.1)) (kids_end R n i (any ts) p) (sound_kids (any ts) s) c e (omega arith))
    found_in (row ts) i p s c h u =
        node (row ts) i p s c c h u (λ e. found_among ts (suc i) i 0 (omega arith) p.0.2 (omega (arith, p.1)) (kids_end R n i (row ts) p) (sound_kids (row ts) s) c e (omega arith))

    found_among : (ts : Trees) (i p q : ℕ) → p < i → Ats R i p q ts → i + all_nodes ts ≤ n → Ends R n (suc p) (i + all_nodes ts) → Sounds ts →
        count_ts k true ts ≡ all → heavy k ts ≡ 1 → r < i + all_nodes ts → FoundAmong k n r R i p q ts
    found_among none i p q l a room end s c e u = absurd (omega arith)
    found_among (more t ts) i p q l a room end s c e u =
        branch t ts i p q l a room s c e u (found_in t i (first_part R n i p q t ts l a room end) (sounds_first t ts s))
        (λ d f. found_among ts (i + nodes t) p (suc q) (omega arith) a.3 (omega arith) (subst (Ends R n (suc p)) (sym (add_assoc i (nodes t) (all_nodes ts))) end) (sounds_rest t ts s) d f (omega arith))
