-- Where a part ends, and walks over its branches from root to root.
use Rattle.std.proofs.Common.{◌≡◌, ℕ, ◌+◌, ◌-◌, ◌<◌, ◌≤◌, Option, Some, None, List, get_or, take, drop, length, sym, refl, ap, ◌∙◌, subst, inl, inr, add-one, arith}
use Rattle.std.proofs.lemmas.List.{get_or-take, get_or-drop, length-take, length-drop}
use Rattle.finds.specs.Trees.{Tree, Trees, none, more}
use Rattle.trees.specs.Cells.{nodes, all_nodes, kids, Part, Parts, roots, Sounds}
use Rattle.trees.specs.Rows.{seen, Long, Row, Stands}
use Rattle.trees.specs.Subtrees.{Is, Begins, Ahead, Yields, Lists}
use Rattle.trees.specs.declared.rows.View.{View}
use Rattle.trees.specs.declared.subtree.Branches.{Branches}
use Rattle.trees.specs.declared.subtree.Subtree.{Subtree}
use Rattle.trees.proofs.Cells.{some_nodes, kids_nodes, kids_parts, end_is}
use Rattle.trees.proofs.Sets.{sound_kids, sounds_first, sounds_rest}

-- The parents behind cell i, up to cell n.
abbrev pub behind : List ℕ → ℕ → ℕ → List ℕ
behind ps n i = take (n - (i + 1)) (drop (i + 1) ps)

inner : (ps : List ℕ) (n i x : ℕ) → i + 1 + x < n → get_or (behind ps n i) x 0 ≡ get_or ps (i + 1 + x) 0
inner ps n i x l = get_or-take (n - (i + 1)) (drop (i + 1) ps) x 0 (omega arith) ∙ get_or-drop (i + 1) ps x 0

many : (ps : List ℕ) (n i : ℕ) → n ≤ length ps → length (behind ps n i) ≡ n - (i + 1)
many ps n i l = simp (length-take, length-drop) (omega arith)

-- Inside a part no parent comes before its root.
within : (ps : List ℕ) (n i k : ℕ) → i + 1 + k ≤ n → ((x : ℕ) → x < k → i ≤ get_or (behind ps n i) x 0) → (x : ℕ) → i < x → x < i + 1 + k → i ≤ get_or ps x 0
within ps n i k l f x h b =
    let e : i + 1 + (x - (i + 1)) ≡ x = omega arith in
    let a = f (x - (i + 1)) (omega arith) in
    let d = inner ps n i (x - (i + 1)) (omega arith) ∙ ap (λ (y : ℕ). get_or ps y 0) e in
    omega arith

-- The first parent that comes before the root stands behind the part; without one the part ends with the cells.
pub end_some : {v : View} {n i k : ℕ} → Long v n → (k < length (behind v.parents.now n i)) × (get_or (behind v.parents.now n i) k 0 < i) × ((x : ℕ) → x < k → i ≤ get_or (behind v.parents.now n i) x 0) →
    (t : Tree) → Part (seen v) n i t → i + 1 + k ≡ i + nodes t
end_some {v} {n} {i} {k} long f t p =
    let m = many v.parents.now n i long.parents_long in
    let d = inner v.parents.now n i k (omega (arith, f.0)) in
    end_is (seen v) n i (i + 1 + k) t p (omega arith) (omega (arith, f.0)) (within v.parents.now n i k (omega (arith, f.0)) f.2) (inr (omega (arith, f.0), omega (arith, f.1)))

pub end_none : {v : View} {n i : ℕ} → Long v n → i < n → ((x : ℕ) → x < length (behind v.parents.now n i) → i ≤ get_or (behind v.parents.now n i) x 0) →
    (t : Tree) → Part (seen v) n i t → n ≡ i + nodes t
end_none {v} {n} {i} long l f t p =
    let m = many v.parents.now n i long.parents_long in
    let e : i + 1 + (n - (i + 1)) ≡ n = omega arith in
    end_is (seen v) n i n t p l (omega arith) (λ x h b. within v.parents.now n i (n - (i + 1)) (omega arith) (λ y c. f y (omega arith)) x h (omega arith)) (inl refl)

-- ---- from root to root

-- Where trees stand one after the other, the first of them stands in the first cell, and the others behind it.
pub row_first : {v : View} {n i e : ℕ} → Row v n i e → i < e → Stands v n i
row_first {v} {n} {i} {e} r l = go r.trees r.parts r.sounds r.end
  where
    go : (ts : Trees) → Parts (seen v) n (roots i ts) ts → Sounds ts → e ≡ i + all_nodes ts → Stands v n i
    go none p s d = absurd (omega arith)
    go (more t ts) p s d = record { long = r.long; few = r.few; below = (let w = r.ended in omega arith); tree = t; part = p.0; sound = sounds_first t ts s }

pub row_rest : {v : View} {n i e : ℕ} → Row v n i e → i < e → (b : ℕ) → ((t : Tree) → Part (seen v) n i t → b ≡ i + nodes t) → Row v n b e
row_rest {v} {n} {i} {e} r l b f = go r.trees r.parts r.sounds r.end
  where
    go : (ts : Trees) → Parts (seen v) n (roots i ts) ts → Sounds ts → e ≡ i + all_nodes ts → Row v n b e
    go none p s d = absurd (omega arith)
    go (more t ts) p s d = let at = f t p.0 in record {
      long = r.long;
      few = r.few;
      within = omega arith;
      ended = r.ended;
      trees = ts;
      parts = subst (λ (x : ℕ). Parts (seen v) n (roots x ts) ts) (sym at) p.1;
      sounds = sounds_rest t ts s;
      end = omega arith;
    }

-- The branches of a part stand so behind its root.
pub kids_row : {v : View} {n i : ℕ} → Stands v n i → (e : ℕ) → ((t : Tree) → Part (seen v) n i t → e ≡ i + nodes t) → Row v n (i + 1) e
kids_row {v} {n} {i} s e f =
    let at = f s.tree s.part in let m = kids_nodes s.tree in let w = s.part.1 in record {
      long = s.long;
      few = s.few;
      within = omega (arith, some_nodes s.tree);
      ended = omega arith;
      trees = kids s.tree;
      parts = subst (λ (x : ℕ). Parts (seen v) n (roots x (kids s.tree)) (kids s.tree)) (sym (add-one i)) (kids_parts (seen v) n i s.tree s.part);
      sounds = sound_kids s.tree s.sound;
      end = omega arith;
    }

-- ---- what a walk yields

-- A walk from cell i up to the end of trees that lie one after the other from there on yields just their roots.
pub lists : (ts : Trees) {v : View} {n i e : ℕ} → Parts (seen v) n (roots i ts) ts → e ≡ i + all_nodes ts → (b : Branches) → b.rows ≡ v → b.count ≡ n → b.at ≡ i → b.end ≡ e → Lists b (roots i ts)
lists none {v} {n} {i} {e} p h b rs k a d = go
  where
    go : (o : Option Subtree) (b' : Branches) → Yields b o b' → o ≡ None
    go None b' y = refl
    go (Some s) b' y = absurd (omega (arith, y.some))
lists (more t ts) {v} {n} {i} {e} p h b rs k a d = go (λ b'. lists ts p.1 (omega arith) b')
  where
    go : ((b' : Branches) → b'.rows ≡ v → b'.count ≡ n → b'.at ≡ i + nodes t → b'.end ≡ e → Lists b' (roots (i + nodes t) ts)) →
        (o : Option Subtree) (b' : Branches) → Yields b o b' → (s : Subtree) × (o ≡ Some s) × (s.root ≡ i) × Lists b' (roots (i + nodes t) ts)
    go f None b' y = absurd (let z = some_nodes t in omega (arith, y.0))
    go f (Some s) b' y =
        let at : s.root ≡ i = y.root ∙ a in
        let it : Is s t = subst (λ (x : View). Part (seen x) s.count s.root t) (sym (y.rows ∙ rs)) (subst (λ (m : ℕ). Part (seen v) m s.root t) (sym (y.count ∙ k)) (subst (λ (c : ℕ). Part (seen v) n c t) (sym at) p.0)) in
        (s, refl, at, f b' (y.rows_after ∙ rs) (y.count_after ∙ k) (y.at_after t it ∙ ap (λ (x : ℕ). x + nodes t) at) (y.end_after ∙ d))

-- Where the next branch of a walk ends.
pub ahead_ends : {b : Branches} {x : Subtree} → Ahead b x → (e : ℕ) → ((t : Tree) → Is x t → e ≡ x.root + nodes t) → (t : Tree) → Part (seen b.rows) b.count b.at t → e ≡ b.at + nodes t
ahead_ends {b} {x} h e f t p =
    let it : Is x t = subst (λ (v : View). Part (seen v) x.count x.root t) (sym h.rows) (subst (λ (m : ℕ). Part (seen b.rows) m x.root t) (sym h.count) (subst (λ (c : ℕ). Part (seen b.rows) b.count c t) (sym h.root) p)) in
    f t it ∙ ap (λ (c : ℕ). c + nodes t) h.root

-- A walk from the cell behind the root of a part up to its end goes over all its branches.
pub begins : (s : Subtree) (b : Branches) → b.rows ≡ s.rows → b.count ≡ s.count → b.at ≡ s.root + 1 → ((t : Tree) → Is s t → b.end ≡ s.root + nodes t) → Begins s b
begins s b rs k a d = record {
  rows = rs;
  count = k;
  at = a;
  end = d;
  all = λ t p. lists (kids t) (kids_parts (seen s.rows) s.count s.root t p) (omega (arith, kids_nodes t)) b rs k (a ∙ add-one s.root) (d t p);
}
