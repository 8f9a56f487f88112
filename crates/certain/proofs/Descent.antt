-- From a tree to the branch that has b: what is in the middle there, and what lies on either side of it.
use Rattle.std.proofs.Common.{◌≡◌, ℕ, suc, ◌+◌, ◌<◌, ◌≤◌, Bool, true, eqb, ◌⊎◌, Decides, sym, refl, ap, ◌∙◌, subst, inl, inr, ⊎_elim, arith}
use Rattle.finds.specs.Branches.{◌+++◌}
use Rattle.finds.specs.Counts.{count_t, count_ts}
use Rattle.finds.specs.Finds.{Finds}
use Rattle.finds.specs.Sets.{bit}
use Rattle.finds.specs.Trees.{Tree, grave, any, row, Trees, none, more}
use Rattle.finds.proofs.Counts.{count_ts_plus}
use Rattle.finds.proofs.Size.{some_nodes}
use Rattle.trees.specs.Cells.{nodes, all_nodes, sets_of, kids, Cells, Body, Holds, Sound}
use Rattle.trees.specs.Rows.{seen}
use Rattle.trees.specs.Subtrees.{Is, Within}
use Rattle.trees.specs.Walks.{BranchWith}
use Rattle.trees.specs.declared.subtree.Subtree.{Subtree}
use Rattle.trees.specs.declared.whole.WholeTree.{WholeTree}
use Rattle.trees.proofs.Sets.{sound_kids, bit_set, bit_sets}
use Rattle.trees.proofs.Stepping.{branch_is}
use Rattle.certain.specs.Certain.{Between}
use Rattle.certain.specs.Shown.{ShownBy}
use Rattle.certain.specs.Middle.{In, InSome, Across, Sides, Middle, Middles}
use Rattle.trees.proofs.Walking.{with_sound}
use Rattle.certain.proofs.Exact.{between_middle}
use Rattle.certain.proofs.Middle.{Once, in_right, middle_in, middles_at, at_middles, at_sides}

-- The way down the tree has come to this part of it, of which P holds.
pub record Come (s : Subtree) (P : Tree → Type 0) : Type 0 where
  pub it : Tree
  pub part : Is s it
  pub sound : Sound it
  pub so : P it

-- ---- one level of the tree

module _ (a b c : ℕ) (R : Cells) (i : ℕ) (x : Trees) (t : Tree) (y : Trees) (ib : In b t) where
  -- b is in the middle within its branch, or a and c are on its two sides in a row.
  pub to_branch : (u : Tree) → kids u ≡ x +++ more t y → Once (kids u) → Body R i u → Middle a b c u → Middle a b c t ⊎ (Across a c x y × (R.sort i ≡ 2))
  to_branch (grave g) is o body m = absurd m
  to_branch (any ts) is o body m = inl (at_middles a b c x t y (subst Once is o b) ib (subst (Middles a b c) is m))
  to_branch (row ts) is o body (inl m) = inl (at_middles a b c x t y (subst Once is o b) ib (subst (Middles a b c) is m))
  to_branch (row ts) is o body (inr s) = inr (at_sides a b c x t y (subst Once is o b) ib (subst (Sides a b c) is s), body.0)

  -- And the other way round.
  pub from_branch : (u : Tree) → kids u ≡ x +++ more t y → Middle a b c t → Middle a b c u
  from_branch (grave g) is m = absurd (let n = ap (count_ts (eqb b) true) is ∙ count_ts_plus (eqb b) true x (more t y) in omega arith)
  from_branch (any ts) is m = rw is (middles_at a b c x t y m)
  from_branch (row ts) is m = inl (rw is (middles_at a b c x t y m))

  pub from_across : (u : Tree) → kids u ≡ x +++ more t y → Body R i u → R.sort i ≡ 2 → Across a c x y → Middle a b c u
  from_across (grave g) is body e s = absurd (omega (arith, body.0))
  from_across (any ts) is body e s = absurd (omega (arith, body.0))
  from_across (row ts) is body e s = inr (record { before = x; it = t; behind = y; is = is; in_it = ib; across = s })

-- ---- where another grave is, by the cell of its branch

-- Cell d of the branch of g comes before the cell e of the branch t, is that cell, or comes behind it; and so does g.
pub data Lay (g d e : ℕ) (x : Trees) (t : Tree) (y : Trees) : Type 0 where
  ahead : d < e → InSome g x → Lay g d e x t y
  level : d ≡ e → In g t → Lay g d e x t y
  past : e < d → InSome g y → Lay g d e x t y

-- The same with all cells moved alike, and with a branch in front.
lay_moved : (n : ℕ) {g d e : ℕ} {x : Trees} {t : Tree} {y : Trees} → Lay g d e x t y → Lay g (n + d) (n + e) x t y
lay_moved n (ahead h k) = ahead (omega arith) k
lay_moved n (level h k) = level (omega arith) k
lay_moved n (past h k) = past (omega arith) k

lay_under : {g d e : ℕ} {x : Trees} {t : Tree} {y : Trees} (u : Tree) → Lay g d e x t y → Lay g d e (more u x) t y
lay_under u (ahead h k) = ahead h (omega arith)
lay_under u (level h k) = level h k
lay_under u (past h k) = past h k

-- Of two branches of the same place, each with the branches before it and behind it: where the second lies, seen from the first.
lay_nodes : (g : ℕ) (x : Trees) (t : Tree) (y x' : Trees) (t' : Tree) (y' : Trees) → x +++ more t y ≡ x' +++ more t' y' → In g t' → Lay g (all_nodes x') (all_nodes x) x t y
lay_nodes g none t y none t' y' e h = let z : t' ≡ t = cc in level refl (subst (In g) z h)
lay_nodes g none t y (more u x') t' y' e h =
    let z : y ≡ x' +++ more t' y' = cc in past (omega (arith, some_nodes u)) (rw z (in_right g x' (more t' y') (omega arith)))
lay_nodes g (more u x) t y none t' y' e h =
    let z : t' ≡ u = cc in let w = ap (count_t (eqb g) true) z in ahead (omega (arith, some_nodes u)) (omega arith)
lay_nodes g (more u x) t y (more u' x') t' y' e h =
    let z : u ≡ u' = cc in
    subst (λ (w : Tree). Lay g (nodes w + all_nodes x') (nodes u + all_nodes x) (more u x) t y) z
    (lay_under u (lay_moved (nodes u) (lay_nodes g x t y x' t' y' (cc) h)))

-- The same in the cells of a tree.
pub in_it : {i g d : ℕ} {u : Tree} (h : BranchWith i g u d) → In g h.it
in_it {g = g} h = let z = bit_set g h.it in let w = h.in_it in omega arith

pub lay : {i b g e d : ℕ} {u : Tree} (w : BranchWith i b u e) → BranchWith i g u d → Lay g d e w.before w.it w.behind
lay {i} {b} {g} {e} {d} {u} w h =
    subst (λ (z : ℕ). Lay g z e w.before w.it w.behind) (sym h.at)
    (subst (λ (z : ℕ). Lay g (suc i + all_nodes h.before) z w.before w.it w.behind) (sym w.at)
    (lay_moved (suc i) (lay_nodes g w.before w.it w.behind h.before h.it h.behind (sym w.is ∙ h.is) (in_it h))))

-- By the cells it is told in which of the branches g is, and the other way round.
pub told_by : {g d e : ℕ} {x : Trees} {t : Tree} {y : Trees} → Lay g d e x t y → (d < e → InSome g x) × (d ≡ e → In g t) × (e < d → InSome g y)
told_by (ahead h k) = ((λ z. k), (λ z. absurd (omega arith)), (λ z. absurd (omega arith)))
told_by (level h k) = ((λ z. absurd (omega arith)), (λ z. k), (λ z. absurd (omega arith)))
told_by (past h k) = ((λ z. absurd (omega arith)), (λ z. absurd (omega arith)), (λ z. k))

pub tells : {g d e : ℕ} {x : Trees} {t : Tree} {y : Trees} → Once (x +++ more t y) → Lay g d e x t y → (InSome g x → d < e) × (In g t → d ≡ e) × (InSome g y → e < d)
tells {g} {x = x} {t = t} {y = y} o l = go l (let n = o g in let s = count_ts_plus (eqb g) true x (more t y) in omega arith)
  where
    go : {d e : ℕ} → Lay g d e x t y → count_ts (eqb g) true x + (count_t (eqb g) true t + count_ts (eqb g) true y) ≤ 1 → (InSome g x → d < e) × (In g t → d ≡ e) × (InSome g y → e < d)
    go (ahead h k) n = ((λ z. h), (λ z. absurd (omega arith)), (λ z. absurd (omega arith)))
    go (level h k) n = ((λ z. absurd (omega arith)), (λ z. h), (λ z. absurd (omega arith)))
    go (past h k) n = ((λ z. absurd (omega arith)), (λ z. absurd (omega arith)), (λ z. h))

-- ---- whether b is in the middle, by the cells of the branches of a, b and c

-- By their cells b's branch is between those of a and c.
abbrev pub Amid : ℕ → ℕ → ℕ → Type 0
Amid d e h = ((d < e) × (e < h)) ⊎ ((h < e) × (e < d))

module _ {a b c : ℕ} (R : Cells) {i d e h : ℕ} {u : Tree} (s : Sound u) (body : Body R i u) (p : BranchWith i a u d) (w : BranchWith i b u e) (q : BranchWith i c u h) where
  once : Once (kids u)
  once = (sound_kids u s).once

  there : (g : ℕ) (j : ℕ) → BranchWith i g u j → (InSome g w.before → j < e) × (In g w.it → j ≡ e) × (InSome g w.behind → e < j)
  there g j k = tells (subst Once w.is once) (lay w k)

  -- All three are in one branch: it is to be seen there.
  pub one_way_down : d ≡ e → e ≡ h → (Middle a b c u → Middle a b c w.it) × (Middle a b c w.it → Middle a b c u)
  one_way_down m n = (
    (λ k. ⊎_elim (λ r. r) (λ r. absurd (⊎_elim (λ z. omega (arith, (there a d p).0 z.0)) (λ z. omega (arith, (there c h q).0 z.0)) r.0))
        (to_branch a b c R i w.before w.it w.behind (in_it w) u w.is once body k)),
    from_branch a b c R i w.before w.it w.behind (in_it w) u w.is,
  )

  -- They are not: it is to be seen here.
  pub parting : ((d ≡ e) × (e ≡ h) → ⊥) → (Middle a b c u → (R.sort i ≡ 2) × Amid d e h) × ((R.sort i ≡ 2) → Amid d e h → Middle a b c u)
  parting n = (
    (λ k. ⊎_elim (λ r. let m = middle_in a b c w.it r in absurd (n ((there a d p).1 m.0, sym ((there c h q).1 m.2))))
        (λ r. (r.1, ⊎_elim (λ z. inl ((there a d p).0 z.0, (there c h q).2 z.1)) (λ z. inr ((there c h q).0 z.0, (there a d p).2 z.1)) r.0))
        (to_branch a b c R i w.before w.it w.behind (in_it w) u w.is once body k)),
    (λ m z. from_across a b c R i w.before w.it w.behind (in_it w) u w.is body m
        (⊎_elim (λ z. inl ((told_by (lay w p)).0 z.0, (told_by (lay w q)).2 z.1)) (λ z. inr ((told_by (lay w q)).0 z.0, (told_by (lay w p)).2 z.1)) z)),
  )

-- What is in the middle, and on its sides, is in the branches.
pub kids_in : (a b c : ℕ) (u : Tree) → Middle a b c u → InSome a (kids u) × InSome b (kids u) × InSome c (kids u)
kids_in a b c (grave g) m = absurd m
kids_in a b c (any ts) m = middle_in a b c (any ts) m
kids_in a b c (row ts) m = middle_in a b c (row ts) m

pub gone : (g : ℕ) (ts : Trees) → bit g (sets_of ts) ≡ 0 → InSome g ts → ⊥
gone g ts e i = let z = bit_sets g ts in omega arith

-- ---- the answer for the whole tree

-- b is in the middle of the whole tree just if it is in the middle of the part.
pub record Narrowed (a b c : ℕ) (w : WholeTree) (s : Subtree) : Type 0 where
  pub come : (t : Tree) → Holds (seen w.rows) w.count t → Sound t → Come s (λ u. (Middle a b c t → Middle a b c u) × (Middle a b c u → Middle a b c t))

-- All three are in one branch.
pub narrowed_more : {a b c d e : ℕ} {w : WholeTree} {s x : Subtree} → Narrowed a b c w s → ((u : Tree) → Is s u → BranchWith s.root a u d) →
    Within s x → ((u : Tree) → Is s u → BranchWith s.root b u x.root) → ((u : Tree) → Is s u → BranchWith s.root c u e) → d ≡ x.root → x.root ≡ e → Narrowed a b c w x
narrowed_more {s = s} k p i q r m n = record {
  come = λ t h o.
      let j = k.come t h o in
      let x = q j.it j.part in
      let y = one_way_down (seen s.rows) j.sound j.part.0 (p j.it j.part) x (r j.it j.part) m n in
      record {
        it = x.it;
        part = branch_is i x j.part;
        sound = with_sound j.sound x;
        so = ((λ m. y.0 (j.so.0 m)), λ m. j.so.1 (y.1 m));
      };
}

-- What is told of that part is told of the orders that fit.
pub decided : {a b c : ℕ} {w : WholeTree} {s : Subtree} (r : Bool) → Narrowed a b c w s → ((u : Tree) → Is s u → Sound u → Decides r (Middle a b c u)) →
    (f : Finds) (t : Tree) → ShownBy w f t → Decides r (Between f a b c)
decided {a} {b} {c} r k d f t s =
    let o = k.come t s.holds s.sound in
    let e = between_middle f t s.exact a b c in
    let m = d o.it o.part o.sound in
    ((λ z. e.1 (o.so.1 (m.0 z))), λ z. m.1 (o.so.0 (e.0 z)))
