-- Trees in rows of cells: how many cells there are, where parents and ends lie, and that a tree can be moved, cut and joined.
use Rattle.std.proofs.Common.{◌≡◌, ℕ, suc, ◌+◌, ◌<◌, ◌≤◌, ◌⊎◌, List, [], ◌∷◌, ◌++◌, reverse, length, sym, refl, ap, ◌∙◌, subst, inl, inr, add-zero, add_assoc, arith}
use mathlib.Core.List.{reverse-cons}
use Rattle.std.proofs.lemmas.Bool.{cases_lt}
use Rattle.finds.specs.Trees.{Tree, grave, any, row, Trees, none, more, len}
use Rattle.finds.specs.Branches.{◌+++◌, revs}
pub use Rattle.finds.proofs.Size.{some_nodes, nodes_plus, few_nodes, all_few_nodes}
use Rattle.trees.specs.Cells.{nodes, all_nodes, set_of, kids, Cells, Body, Ats, Holds, Ends, Part, roots, Parts}

-- ---- how many cells

-- Each branch takes a cell at least.
pub len_nodes : (ts : Trees) → len ts ≤ all_nodes ts
len_nodes none = omega arith
len_nodes (more t ts) = let y = some_nodes t in let z = len_nodes ts in omega arith

pub kids_nodes : (t : Tree) → nodes t ≡ suc (all_nodes (kids t))
kids_nodes (grave g) = refl
kids_nodes (any ts) = refl
kids_nodes (row ts) = refl

pub kids_ats : (R : Cells) (i : ℕ) (t : Tree) → Body R i t → Ats R (suc i) i 0 (kids t)
kids_ats R i (grave g) b = tt
kids_ats R i (any ts) b = b.2
kids_ats R i (row ts) b = b.2

pub body_set : (R : Cells) (i : ℕ) (t : Tree) → Body R i t → R.set i ≡ set_of t
body_set R i (grave g) b = b.1
body_set R i (any ts) b = b.1
body_set R i (row ts) b = b.1

-- ---- parents

-- Below the root the parent of a cell lies between the root and the cell.
mutual
  pub body_inner : (R : Cells) (i : ℕ) (t : Tree) → Body R i t → (x : ℕ) → i < x → x < i + nodes t → (i ≤ R.parent x) × (R.parent x < x)
  body_inner R i (grave g) b x h l = absurd (omega arith)
  body_inner R i (any ts) b x h l = ats_inner R (suc i) i 0 ts (omega arith) b.2 x (omega arith) (omega arith)
  body_inner R i (row ts) b x h l = ats_inner R (suc i) i 0 ts (omega arith) b.2 x (omega arith) (omega arith)

  pub ats_inner : (R : Cells) (i p q : ℕ) (ts : Trees) → p < i → Ats R i p q ts → (x : ℕ) → i ≤ x → x < i + all_nodes ts → (p ≤ R.parent x) × (R.parent x < x)
  ats_inner R i p q none n a x h l = absurd (omega arith)
  ats_inner R i p q (more t ts) n a x h l =
      go (cases_lt x (suc i)) (cases_lt x (i + nodes t)) (body_inner R i t a.2 x) (λ u. ats_inner R (i + nodes t) p (suc q) ts (omega arith) a.3 x u (omega arith))
    where
      go : (x < suc i) ⊎ (suc i ≤ x) → (x < i + nodes t) ⊎ (i + nodes t ≤ x) →
          (i < x → x < i + nodes t → (i ≤ R.parent x) × (R.parent x < x)) → (i + nodes t ≤ x → (p ≤ R.parent x) × (R.parent x < x)) → (p ≤ R.parent x) × (R.parent x < x)
      go (inl e) d f g = let z : x ≡ i = omega arith in rw z (omega (arith, a.0), omega (arith, a.0))
      go (inr e) (inl d) f g = let z = f e d in (omega arith, z.1)
      go (inr e) (inr d) f g = g d

-- ---- moving

-- What lies in R from lo to below hi lies in S as well, a cell x of R in that cell y of S for which y + c ≡ x + o, with parents moved alike.
abbrev pub Moved : Cells → Cells → ℕ → ℕ → ℕ → ℕ → Type 0
Moved R S c o lo hi = (x y : ℕ) → lo ≤ x → x < hi → y + c ≡ x + o →
    (S.sort y ≡ R.sort x) × (S.set y ≡ R.set x) × (S.place y ≡ R.place x) × (S.parent y + c ≡ R.parent x + o)

-- A tree that is moved is still that tree. (With c and o both 0: what leaves the cells of a tree as they are leaves the tree.)
mutual
  pub body_moved : (R S : Cells) (c o i j : ℕ) (t : Tree) → j + c ≡ i + o → S.sort j ≡ R.sort i → S.set j ≡ R.set i → Moved R S c o (suc i) (i + nodes t) → Body R i t → Body S j t
  body_moved R S c o i j (grave g) e p q m b = (p ∙ b.0, q ∙ b.1)
  body_moved R S c o i j (any ts) e p q m b = (p ∙ b.0, q ∙ b.1, ats_moved R S c o (suc i) (suc j) i j 0 ts (omega arith) e (λ x y u v w. m x y u (omega arith) w) b.2)
  body_moved R S c o i j (row ts) e p q m b = (p ∙ b.0, q ∙ b.1, ats_moved R S c o (suc i) (suc j) i j 0 ts (omega arith) e (λ x y u v w. m x y u (omega arith) w) b.2)

  pub ats_moved : (R S : Cells) (c o i j p p' q : ℕ) (ts : Trees) → j + c ≡ i + o → p' + c ≡ p + o → Moved R S c o i (i + all_nodes ts) → Ats R i p q ts → Ats S j p' q ts
  ats_moved R S c o i j p p' q none e f m a = tt
  ats_moved R S c o i j p p' q (more t ts) e f m a =
      let r = m i j (omega arith) (omega (arith, some_nodes t)) e in (
        omega (arith, a.0, r.3),
        r.2 ∙ a.1,
        body_moved R S c o i j t e r.0 r.1 (λ x y u v w. m x y (omega arith) (omega arith) w) a.2,
        ats_moved R S c o (i + nodes t) (j + nodes t) p p' (suc q) ts (omega arith) f (λ x y u v w. m x y (omega arith) (omega arith) w) a.3,
      )

-- ---- cutting and joining

-- Cells and places may be given by sums that are equal.
pub ats_at : (R : Cells) {i j q r : ℕ} (p : ℕ) (ts : Trees) → i ≡ j → q ≡ r → Ats R i p q ts → Ats R j p r ts
ats_at R {i} {j} {q} {r} p ts e f a = subst (λ (w : ℕ). Ats R j p w ts) f (subst (λ (w : ℕ). Ats R w p q ts) e a)

pub ats_plus : (R : Cells) (i p q : ℕ) (x y : Trees) → Ats R i p q x → Ats R (i + all_nodes x) p (q + len x) y → Ats R i p q (x +++ y)
ats_plus R i p q none y a b = ats_at R p y (omega arith) (omega arith) b
ats_plus R i p q (more t x) y a b = (a.0, a.1, a.2, ats_plus R (i + nodes t) p (suc q) x y a.3 (ats_at R p y (omega arith) (omega arith) b))

pub ats_cut : (R : Cells) (i p q : ℕ) (x y : Trees) → Ats R i p q (x +++ y) → Ats R i p q x × Ats R (i + all_nodes x) p (q + len x) y
ats_cut R i p q none y a = (tt, ats_at R p y (omega arith) (omega arith) a)
ats_cut R i p q (more t x) y a =
    let r = ats_cut R (i + nodes t) p (suc q) x y a.3 in ((a.0, a.1, a.2, r.0), ats_at R p y (omega arith) (omega arith) r.1)

-- ---- parts

pub holds_part : (R : Cells) (n : ℕ) (t : Tree) → Holds R n t → Part R n 0 t
holds_part R n t h = let m = h.many in (h.body, omega arith, inl (omega arith))

-- A search for the end of a part finds it: inside parents do not come before the root, and at the end they do.
pub end_is : (R : Cells) (n i r : ℕ) (t : Tree) → Part R n i t → i < r → r ≤ n → ((x : ℕ) → i < x → x < r → i ≤ R.parent x) → Ends R n i r → r ≡ i + nodes t
end_is R n i r t p h m f e = go (cases_lt r (i + nodes t)) (cases_lt (i + nodes t) r)
  where
    early : Ends R n i r → r < i + nodes t → ⊥
    early (inl z) l = let y = p.1 in omega arith
    early (inr z) l = let y = body_inner R i t p.0 r h l in omega (arith, z.1)

    late : Ends R n i (i + nodes t) → i + nodes t < r → ⊥
    late (inl z) l = omega arith
    late (inr z) l = let y = f (i + nodes t) (let s = some_nodes t in omega arith) l in omega (arith, z.1)

    go : (r < i + nodes t) ⊎ (i + nodes t ≤ r) → (i + nodes t < r) ⊎ (r ≤ i + nodes t) → r ≡ i + nodes t
    go (inl a) b = absurd (early e a)
    go (inr a) (inl b) = absurd (late p.2 b)
    go (inr a) (inr b) = omega arith

-- Of branches of one cell each is a part, if the last of them is.
pub first_part : (R : Cells) (n i p q : ℕ) (t : Tree) (ts : Trees) → p < i → Ats R i p q (more t ts) → i + (nodes t + all_nodes ts) ≤ n → Ends R n (suc p) (i + (nodes t + all_nodes ts)) → Part R n i t
first_part R n i p q t none l a h e = (a.2, omega arith, go e)
  where
    same : i + (nodes t + 0) ≡ i + nodes t
    same = omega arith

    go : Ends R n (suc p) (i + (nodes t + 0)) → Ends R n i (i + nodes t)
    go (inl z) = inl (sym same ∙ z)
    go (inr z) = inr (omega (arith, z.0), (let y = ap R.parent same in omega (arith, z.1)))
first_part R n i p q t (more u us) l a h e = (a.2, omega arith, inr (omega (arith, some_nodes u), omega (arith, a.3.0)))

pub ats_parts : (R : Cells) (n i p q : ℕ) (ts : Trees) → p < i → Ats R i p q ts → i + all_nodes ts ≤ n → Ends R n (suc p) (i + all_nodes ts) → Parts R n (roots i ts) ts
ats_parts R n i p q none l a h e = tt
ats_parts R n i p q (more t ts) l a h e =
    (first_part R n i p q t ts l a h e, ats_parts R n (i + nodes t) p (suc q) ts (omega arith) a.3 (omega arith) (subst (λ (z : ℕ). Ends R n (suc p) z) (sym (add_assoc i (nodes t) (all_nodes ts))) e))

-- What ends a part ends its branches.
pub kids_end : (R : Cells) (n i : ℕ) (t : Tree) → Part R n i t → Ends R n (suc i) (suc i + all_nodes (kids t))
kids_end R n i t p = go p.2
  where
    same : i + nodes t ≡ suc i + all_nodes (kids t)
    same = omega (arith, kids_nodes t)

    go : Ends R n i (i + nodes t) → Ends R n (suc i) (suc i + all_nodes (kids t))
    go (inl z) = inl (sym same ∙ z)
    go (inr z) = inr (omega (arith, z.0, same), (let y = ap R.parent same in omega (arith, z.1)))

pub kids_parts : (R : Cells) (n i : ℕ) (t : Tree) → Part R n i t → Parts R n (roots (suc i) (kids t)) (kids t)
kids_parts R n i t p = ats_parts R n (suc i) i 0 (kids t) (omega arith) (kids_ats R i t p.0) (omega (arith, kids_nodes t, p.1)) (kids_end R n i t p)

-- The branch behind some others is a part.
pub part_at : (R : Cells) (n i : ℕ) (t : Tree) (x : Trees) (u : Tree) (y : Trees) → Part R n i t → kids t ≡ x +++ more u y → Part R n (suc i + all_nodes x) u
part_at R n i t x u y p e =
    first_part R n (suc i + all_nodes x) i (0 + len x) u y (omega arith) (ats_cut R (suc i) i 0 x (more u y) (subst (Ats R (suc i) i 0) e (kids_ats R i t p.0))).1
    (omega (arith, sum, kids_nodes t, p.1))
    (subst (Ends R n (suc i)) (omega (arith, sum)) (kids_end R n i t p))
  where
    sum : all_nodes (kids t) ≡ all_nodes x + (nodes u + all_nodes y)
    sum = ap all_nodes e ∙ nodes_plus x (more u y)

pub roots_plus : (i : ℕ) (x y : Trees) → roots i (x +++ y) ≡ roots i x ++ roots (i + all_nodes x) y
roots_plus i none y = ap (λ (w : ℕ). roots w y) (sym (add-zero i))
roots_plus i (more t x) y = ap (λ (w : List ℕ). i ∷ w) (roots_plus (i + nodes t) x y ∙ ap (λ (w : ℕ). roots (i + nodes t) x ++ roots w y) (add_assoc i (nodes t) (all_nodes x)))

-- ---- lists of cells that are the roots of trees

pub parts_plus : (R : Cells) (n : ℕ) (cs ds : List ℕ) (ts us : Trees) → Parts R n cs ts → Parts R n ds us → Parts R n (cs ++ ds) (ts +++ us)
parts_plus R n [] ds none us a b = b
parts_plus R n [] ds (more t ts) us a b = absurd a
parts_plus R n (c ∷ cs) ds none us a b = absurd a
parts_plus R n (c ∷ cs) ds (more t ts) us a b = (a.0, parts_plus R n cs ds ts us a.1 b)

pub parts_rev : (R : Cells) (n : ℕ) (cs : List ℕ) (ts : Trees) → Parts R n cs ts → Parts R n (reverse cs) (revs ts)
parts_rev R n [] none a = tt
parts_rev R n [] (more t ts) a = absurd a
parts_rev R n (c ∷ cs) none a = absurd a
parts_rev R n (c ∷ cs) (more t ts) a = rw reverse-cons (parts_plus R n (reverse cs) (c ∷ []) (revs ts) (more t none) (parts_rev R n cs ts a.1) (a.0, tt))

pub parts_len : (R : Cells) (n : ℕ) (cs : List ℕ) (ts : Trees) → Parts R n cs ts → length cs ≡ len ts
parts_len R n [] none a = refl
parts_len R n [] (more t ts) a = absurd a
parts_len R n (c ∷ cs) none a = absurd a
parts_len R n (c ∷ cs) (more t ts) a = ap suc (parts_len R n cs ts a.1)
