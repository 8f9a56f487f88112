-- What is written into a draft stays: all writes are at the first free cell or behind it.
use Rattle.std.proofs.Common.{◌≡◌, ℕ, suc, ◌+◌, ◌*◌, ◌<◌, ◌≤◌, ◌⊎◌, refl, ap, ◌∙◌, subst, inl, inr, add-one, arith}
use lib.Count.{ones}
use Rattle.std.proofs.lemmas.Bool.{cases_lt}
use Rattle.finds.specs.Trees.{Tree, any, row, Trees, none, more, len}
use Rattle.finds.specs.Branches.{◌+++◌}
use Rattle.finds.proofs.Branches.{len_plus}
use Rattle.trees.specs.Cells.{nodes, all_nodes, sets_of, Cells, Body, Ats, Part}
use Rattle.trees.specs.Rows.{seen, Stands}
use Rattle.trees.specs.declared.rows.View.{View}
use Rattle.trees.proofs.Cells.{few_nodes, nodes_plus, body_inner, Moved, body_moved, ats_moved, ats_plus, ats_at}
use Rattle.trees.proofs.Standing.{part_size}
use Rattle.changes.specs.declared.draft.Spot.{Spot}
use Rattle.changes.specs.Draft.{Kept, Lies}
use Rattle.changes.specs.Written.{first_in, Headed, Wrote}
use Rattle.changes.proofs.Fronts.{front, tree_at, front_more}

-- ---- what is kept

pub kept_refl : (R : Cells) (o : ℕ) → Kept R R o
kept_refl R o = record { parents = λ x l. refl; sorts = λ x l. refl; places = λ x l. refl; sets = λ x l. refl }

pub kept_trans : {R S T : Cells} {o e : ℕ} → Kept R S o → o ≤ e → Kept S T e → Kept R T o
kept_trans h l k = record {
  parents = λ x m. k.parents x (omega arith) ∙ h.parents x m;
  sorts = λ x m. k.sorts x (omega arith) ∙ h.sorts x m;
  places = λ x m. k.places x (omega arith) ∙ h.places x m;
  sets = λ x m. k.sets x (omega arith) ∙ h.sets x m;
}

pub headed_kept : {R S : Cells} {e : ℕ} (at : Spot) {s m : ℕ} → Kept R S e → at.cell < e → Headed R at s m → Headed S at s m
headed_kept at k l h = record {
  parent_is = k.parents at.cell l ∙ h.parent_is;
  sort_is = k.sorts at.cell l ∙ h.sort_is;
  place_is = k.places at.cell l ∙ h.place_is;
  set_is = k.sets at.cell l ∙ h.set_is;
}

-- Trees that lie below e stay.
pub ats_kept : {R S : Cells} {e : ℕ} (i p q : ℕ) (ts : Trees) → Kept R S e → i + all_nodes ts ≤ e → Ats R i p q ts → Ats S i p q ts
ats_kept {R} {S} i p q ts k l a = ats_moved R S 0 0 i i p p q ts refl refl
    (λ x y u v w. let z : y ≡ x = omega arith in rw z (k.sorts x (omega arith), k.sets x (omega arith), k.places x (omega arith), ap (λ (n : ℕ). n + 0) (k.parents x (omega arith)))) a

-- ---- copying a part, cell by cell

-- One cell more is copied.
pub moved_more : (R S T : Cells) (c o lo x : ℕ) (at : Spot) → Moved R S c o lo x → at.cell + c ≡ x + o → at.parent + c ≡ R.parent x + o → at.place ≡ R.place x →
    Kept S T at.cell → Headed T at (R.sort x) (R.set x) → Moved R T c o lo (x + 1)
moved_more R S T c o lo x at m e f g k h = λ u y l n d. go u y l n d (cases_lt u x)
  where
    go : (u y : ℕ) → lo ≤ u → u < x + 1 → y + c ≡ u + o → (u < x) ⊎ (x ≤ u) →
        (T.sort y ≡ R.sort u) × (T.set y ≡ R.set u) × (T.place y ≡ R.place u) × (T.parent y + c ≡ R.parent u + o)
    go u y l n d (inl s) =
        let r = m u y l s d in
        (k.sorts y (omega arith) ∙ r.0, k.sets y (omega arith) ∙ r.1, k.places y (omega arith) ∙ r.2, ap (λ (z : ℕ). z + c) (k.parents y (omega arith)) ∙ r.3)
    go u y l n d (inr s) =
        let p : u ≡ x = omega arith in
        let q : y ≡ at.cell = omega arith in
        rw (p, q) (h.sort_is, h.set_is, h.place_is ∙ g, ap (λ (z : ℕ). z + c) h.parent_is ∙ f)

-- All cells are copied.
pub copied : (R S : Cells) (i e : ℕ) (at next : Spot) (t : Tree) → Body R i t → Headed S at (R.sort i) (R.set i) → Moved R S i at.cell (i + 1) e → i + nodes t ≤ e →
    next.cell ≡ at.cell + nodes t → next.parent ≡ at.parent → next.place ≡ at.place + 1 → Wrote S at next (more t none)
copied R S i e at next t b h m l c f g = record {
  lie = (h.parent_is, h.place_is, body_moved R S i at.cell i at.cell t (omega arith) h.sort_is h.set_is (λ x y u v w. m x y (omega arith) (omega arith) w) b, tt);
  cell_is = omega arith;
  parent_is = f;
  place_is = g;
}

-- ---- how much room a part takes

pub stands_nodes : (v : View) (n i : ℕ) → (s : Stands v n i) → nodes s.tree + 1 ≤ 2 * ones ((seen v).set i)
stands_nodes v n i s =
    let e = part_size (seen v) n i s.tree s.part s.sound in let l = few_nodes s.tree s.sound.good in omega arith

-- The end of the part was found: below its root parents lie between the root and the cell, and the copy fits in.
module _ (v : View) (n i end : ℕ) (s : Stands v n i) (h : (t : Tree) → Part (seen v) n i t → end ≡ i + nodes t) (x : ℕ) (l : x < end) where
  pub stands_inner : i < x → (i ≤ (seen v).parent x) × ((seen v).parent x < x)
  stands_inner m = body_inner (seen v) i s.tree s.part.0 x m (omega (arith, h s.tree s.part))

  pub stands_within : (o : ℕ) → o + 2 * ones ((seen v).set i) ≤ 256 → o + x < 256 + i
  stands_within o r = omega (arith, stands_nodes v n i s, h s.tree s.part)

-- ---- one after the other

pub wrote_none : (R : Cells) (at : Spot) → Wrote R at at none
wrote_none R at = record { lie = tt; cell_is = omega arith; parent_is = refl; place_is = omega arith }

-- First some branches were written, and then others behind them.
pub wrote_plus : {R S : Cells} {at mid next : Spot} (x y : Trees) → Wrote R at mid x → Kept R S mid.cell → Wrote S mid next y → Wrote S at next (x +++ y)
wrote_plus {S = S} {at = at} {mid = mid} x y w k u = record {
  lie = ats_plus S at.cell at.parent at.place x y (ats_kept at.cell at.parent at.place x k (omega (arith, w.cell_is)) w.lie)
      (rw (← w.cell_is, ← w.parent_is, ← w.place_is) u.lie);
  cell_is = (let e = nodes_plus x y in omega (arith, w.cell_is, u.cell_is));
  parent_is = u.parent_is ∙ w.parent_is;
  place_is = (let e = len_plus x y in omega (arith, w.place_is, u.place_is));
}

-- One branch more of a list.
pub wrote_front : {R S : Cells} {at mid next : Spot} (x : ℕ) (ts : Trees) → x < len ts → Wrote R at mid (front x ts) → Kept R S mid.cell → Wrote S mid next (more (tree_at x ts) none) → Wrote S at next (front (x + 1) ts)
wrote_front x ts l w k u = rw (front_more x ts l) (wrote_plus (front x ts) (more (tree_at x ts) none) w k u)

-- What was written lies at the spot or behind it.
pub wrote_on : {R : Cells} {at next : Spot} (ts : Trees) → Wrote R at next ts → at.cell ≤ next.cell
wrote_on ts w = omega (arith, w.cell_is)

-- ---- a cell and its branches behind it

-- After the cell was written, branches were written from the first spot inside it on.
module _ {S T : Cells} (at : Spot) {first : Spot} (i : first ≡ first_in at) (k : Kept S T first.cell) where
  behind : Kept S T (at.cell + 1)
  behind = rw i at k

  pub kept_inside : {R : Cells} → Kept R S at.cell → Kept R T at.cell
  kept_inside h = kept_trans h (omega arith) behind

  module _ {end : Spot} {m : ℕ} (ts : Trees) (e : m ≡ sets_of ts) (w : Wrote T first end ts) where
    inner : Wrote T (first_in at) end ts
    inner = subst (λ (z : Spot). Wrote T z end ts) i w

    lies : (t : Tree) (s : ℕ) → Headed T at s m → nodes t ≡ suc (all_nodes ts) → Body T at.cell t → Lies T at.cell at.parent at.place end.cell t
    lies t s h n b = record { parent_is = h.parent_is; place_is = h.place_is; body = b; ends = omega (arith, inner.cell_is) }

    ats : Ats T (suc at.cell) at.cell 0 ts
    ats = ats_at T at.cell ts (add-one at.cell) refl inner.lie

    pub lies_any : Headed S at 1 m → Lies T at.cell at.parent at.place end.cell (any ts)
    lies_any g = let h = headed_kept at behind (omega arith) g in lies (any ts) 1 h refl (h.sort_is, h.set_is ∙ e, ats)

    pub lies_row : Headed S at 2 m → Lies T at.cell at.parent at.place end.cell (row ts)
    lies_row g = let h = headed_kept at behind (omega arith) g in lies (row ts) 2 h refl (h.sort_is, h.set_is ∙ e, ats)

-- A tree that lies at the spot is one branch that was written.
pub lies_wrote : {R : Cells} {at next : Spot} (t : Tree) → Lies R at.cell at.parent at.place next.cell t → next.parent ≡ at.parent → next.place ≡ at.place + 1 → Wrote R at next (more t none)
lies_wrote t l e f = record { lie = (l.parent_is, l.place_is, l.body, tt); cell_is = omega (arith, l.ends); parent_is = e; place_is = f }
