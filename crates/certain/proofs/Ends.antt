-- The first grave and the last grave of trees, in their cells.
use Rattle.std.proofs.Common.{◌≡◌, ℕ, suc, ◌+◌, ◌≤◌, List, [], ◌∷◌, ◌++◌, sym, refl, ap, ◌∙◌, subst, append_assoc, append-nil, arith}
use lib.Count.{count_trailing_zeros}
use Rattle.finds.specs.Branches.{◌+++◌}
use Rattle.finds.specs.Trees.{Tree, grave, any, row, Trees, none, more, len, graves, all_graves}
use Rattle.finds.proofs.Branches.{plus_assoc}
use Rattle.finds.proofs.Size.{some_nodes, nodes_plus}
use Rattle.trees.specs.Cells.{nodes, all_nodes, kids, Cells, Body, Ats, Part, Sound, Sounds}
use Rattle.trees.specs.Rows.{seen, Stands}
use Rattle.trees.specs.declared.rows.View.{View}
use Rattle.trees.proofs.Cells.{part_at, ats_cut, kids_ats, kids_nodes, len_nodes}
use Rattle.trees.proofs.Leaves.{trailing_pow}
use Rattle.trees.proofs.Sets.{sound_kids, sounds_first, sounds_rest, sounds_cut, grave_small}
use Rattle.certain.specs.Near.{BranchAt}

-- The grave of a cell.
abbrev pub grave_in : Cells → ℕ → ℕ
grave_in R k = count_trailing_zeros 64 (R.set k)

grave_is : (R : Cells) (i g : ℕ) → Body R i (grave g) → Sound (grave g) → grave_in R i ≡ g
grave_is R i g b s = ap (count_trailing_zeros 64) b.1 ∙ trailing_pow 64 g (grave_small g s)

-- Where another part is, a sound tree stands.
pub stands_at : {v : View} {n i : ℕ} → Stands v n i → (c : ℕ) (t : Tree) → Part (seen v) n c t → Sound t → Stands v n c
stands_at s c t p o = record { long = s.long; few = s.few; below = omega (arith, p.1, some_nodes t); tree = t; part = p; sound = o }

-- ---- the last grave

-- The row ends with the grave g.
abbrev pub EndsWith : List ℕ → ℕ → Type 0
EndsWith l g = (fore : List ℕ) × (l ≡ fore ++ (g ∷ []))

-- The last cell of a tree is its last grave.
mutual
  body_last : (R : Cells) (i : ℕ) (t : Tree) → Body R i t → Sound t → (k : ℕ) → suc k ≡ i + nodes t → EndsWith (graves t) (grave_in R k)
  body_last R i (grave g) b s k e = let z : k ≡ i = omega arith in ([], ap (λ (x : ℕ). x ∷ []) (sym (ap (grave_in R) z ∙ grave_is R i g b s)))
  body_last R i (any ts) b s k e = ats_last R (suc i) i 0 ts b.2 (sound_kids (any ts) s) (let h = s.good.0 in omega arith) k (omega arith)
  body_last R i (row ts) b s k e = ats_last R (suc i) i 0 ts b.2 (sound_kids (row ts) s) (let h = s.good.0 in omega arith) k (omega arith)

  pub ats_last : (R : Cells) (i p q : ℕ) (ts : Trees) → Ats R i p q ts → Sounds ts → 1 ≤ len ts → (k : ℕ) → suc k ≡ i + all_nodes ts → EndsWith (all_graves ts) (grave_in R k)
  ats_last R i p q none a s l k e = absurd (omega arith)
  ats_last R i p q (more t none) a s l k e = rw append-nil (body_last R i t a.2 (sounds_first t none s) k (omega arith))
  ats_last R i p q (more t (more u us)) a s l k e =
      let h = ats_last R (i + nodes t) p (suc q) (more u us) a.3 (sounds_rest t (more u us) s) (omega arith) k (omega arith) in
      (graves t ++ h.0, ap (λ (z : List ℕ). graves t ++ z) h.1 ∙ sym (append_assoc (graves t) h.0 (grave_in R k ∷ [])))

-- ---- the first grave

-- The tree begins with the grave g.
abbrev pub Begins : Tree → ℕ → Type 0
Begins t g = (rest : List ℕ) × (graves t ≡ g ∷ rest)

-- A tree begins as its first branch does.
pub begins_kids : (u t : Tree) (ts : Trees) → kids u ≡ more t ts → (g : ℕ) → Begins t g → Begins u g
begins_kids (grave x) t ts e g h = absurd (let n = ap len e in omega arith)
begins_kids (any us) t ts e g h = (h.0 ++ all_graves ts, ap all_graves e ∙ ap (λ (z : List ℕ). z ++ all_graves ts) h.1)
begins_kids (row us) t ts e g h = (h.0 ++ all_graves ts, ap all_graves e ∙ ap (λ (z : List ℕ). z ++ all_graves ts) h.1)

-- Only the cell of a grave has the sort 0.
pub leaf : (R : Cells) (i : ℕ) (u : Tree) → Body R i u → R.sort i ≡ 0 → kids u ≡ none
leaf R i (grave g) b e = refl
leaf R i (any ts) b e = absurd (omega (arith, b.0))
leaf R i (row ts) b e = absurd (omega (arith, b.0))

-- A sound tree without branches has the cell of a grave.
bare : (R : Cells) (i : ℕ) (u : Tree) → Body R i u → Sound u → kids u ≡ none → R.sort i ≡ 0
bare R i (grave g) b s e = b.0
bare R i (any ts) b s e = absurd (let n = ap len e in omega (arith, s.good.0))
bare R i (row ts) b s e = absurd (let n = ap len e in omega (arith, s.good.0))

-- The first branch of a tree that is no grave is in the next cell.
pub first_kid : (R : Cells) (n i : ℕ) (u : Tree) → Part R n i u → Sound u → (R.sort i ≡ 0 → ⊥) → (t : Tree) × (ts : Trees) × (kids u ≡ more t ts) × Part R n (i + 1) t
first_kid R n i u p s k = go (kids u) refl
  where
    go : (ts : Trees) → kids u ≡ ts → (t : Tree) × (us : Trees) × (kids u ≡ more t us) × Part R n (i + 1) t
    go none e = absurd (k (bare R i u p.0 s e))
    go (more t ts) e = (t, ts, e, subst (λ (z : ℕ). Part R n z t) (omega arith) (part_at R n i u none t ts p e))

-- One without branches is a grave.
pub grave_begins : (R : Cells) (i : ℕ) (u : Tree) → Body R i u → Sound u → kids u ≡ none → Begins u (grave_in R i)
grave_begins R i (grave g) b s e = ([], ap (λ (z : ℕ). z ∷ []) (sym (grave_is R i g b s)))
grave_begins R i (any ts) b s e = absurd (let n = ap len e in omega (arith, s.good.0))
grave_begins R i (row ts) b s e = absurd (let n = ap len e in omega (arith, s.good.0))

-- ---- the graves next to a branch

module _ (R : Cells) (n : ℕ) {i c : ℕ} {u : Tree} (p : Part R n i u) (s : Sound u) (w : BranchAt i c u) where
  pub branch_part : Part R n c w.it
  branch_part = subst (λ (z : ℕ). Part R n z w.it) (sym w.at) (part_at R n i u w.before w.it w.behind p w.is)

  sides : Sounds w.before × Sounds (more w.it w.behind)
  sides = sounds_cut w.before (more w.it w.behind) (subst Sounds w.is (sound_kids u s))

  -- The cell before a branch that is not the first is the last grave before it.
  pub before_it : (k : ℕ) → suc k ≡ c → (c ≡ i + 1 → ⊥) → EndsWith (all_graves w.before) (grave_in R k)
  before_it k e f = ats_last R (suc i) i 0 w.before (ats_cut R (suc i) i 0 w.before (more w.it w.behind) (subst (Ats R (suc i) i 0) w.is (kids_ats R i u p.0))).0
      sides.0 (some w.before (let z = w.at in omega arith)) k (e ∙ w.at)
    where
      some : (x : Trees) → 1 ≤ all_nodes x → 1 ≤ len x
      some none h = h
      some (more t x) h = omega arith

  -- The branch behind it, if it is not the last.
  pub record Behind (e : ℕ) : Type 0 where
    pub next : Tree
    pub others : Trees
    pub is : w.behind ≡ more next others
    pub part : Part R n e next
    pub sound : Sound next

  cells : i + nodes u ≡ c + nodes w.it + all_nodes w.behind
  cells = let a = kids_nodes u in let b = ap all_nodes w.is ∙ nodes_plus w.before (more w.it w.behind) in let d = w.at in omega arith

  pub behind_it : (e end : ℕ) → e ≡ c + nodes w.it → end ≡ i + nodes u → (e ≡ end → ⊥) → Behind e
  behind_it e end h m k = go w.behind refl
    where
      go : (y : Trees) → w.behind ≡ y → Behind e
      go none z = absurd (k (let a = cells in let b = ap all_nodes z in omega arith))
      go (more v y) z = record {
        next = v;
        others = y;
        is = z;
        part = subst (λ (x : ℕ). Part R n x v) (let a = nodes_plus w.before (more w.it none) in let b = w.at in omega arith)
            (part_at R n i u (w.before +++ more w.it none) v y p
            (w.is ∙ ap (λ (x : Trees). w.before +++ more w.it x) z ∙ sym (plus_assoc w.before (more w.it none) (more v y))));
        sound = sounds_first v y (subst Sounds z (sounds_rest w.it w.behind sides.1));
      }

  -- There are no branches before the first, or behind the last.
  pub none_before_it : c ≡ i + 1 → 1 ≤ len w.before → ⊥
  none_before_it e l = let a = len_nodes w.before in let b = w.at in omega arith

  pub none_behind_it : (e end : ℕ) → e ≡ c + nodes w.it → end ≡ i + nodes u → e ≡ end → 1 ≤ len w.behind → ⊥
  none_behind_it e end h m k l = let a = len_nodes w.behind in let b = cells in omega arith
