-- What stays when cells are written.
use Rattle.std.proofs.Common.{◌≡◌, ℕ, ◌+◌, ◌<◌, ◌≤◌, ◌≢◌, List, length, get_or, drop, set, sym, refl, ap, ◌∙◌, arith}
use Rattle.std.proofs.lemmas.List.{get_or-set_same, get_or-set_other, drop-set-lt, drop-drop}
use Rattle.finds.specs.Trees.{Trees}
use Rattle.trees.specs.Cells.{all_nodes, Cells, Lent, held, shortest, Ats}
use Rattle.trees.specs.Rows.{lent_rows, SameSlices}
use Rattle.trees.specs.Starting.{SameFrom}
use Rattle.trees.specs.declared.rows.Rows.{Rows}
use Rattle.trees.proofs.Cells.{Moved, ats_moved}

-- Cell x holds the same in R and in S.
pub record Same (R S : Cells) (x : ℕ) : Type 0 where
  pub parent : S.parent x ≡ R.parent x
  pub sort : S.sort x ≡ R.sort x
  pub place : S.place x ≡ R.place x
  pub graves : S.set x ≡ R.set x

-- What leaves the cells of a tree as they are leaves the tree.
unmoved : (R S : Cells) (lo hi : ℕ) → ((x : ℕ) → lo ≤ x → x < hi → Same R S x) → Moved R S 0 0 lo hi
unmoved R S lo hi f x y a b e =
    let z : y ≡ x = omega arith in
    let s = f x a b in
    (ap S.sort z ∙ s.sort, ap S.set z ∙ s.graves, ap S.place z ∙ s.place, (let p = ap S.parent z ∙ s.parent in omega arith))

pub ats_kept : (R S : Cells) (i p q : ℕ) (ts : Trees) → ((x : ℕ) → i ≤ x → x < i + all_nodes ts → Same R S x) → Ats R i p q ts → Ats S i p q ts
ats_kept R S i p q ts f = ats_moved R S 0 0 i i p p q ts (omega arith) (omega arith) (unmoved R S i (i + all_nodes ts) f)

-- In S the cell i holds what was written, and the other cells what they hold in R.
pub record Written (R S : Cells) (i p s q m : ℕ) : Type 0 where
  pub parent_is : S.parent i ≡ p
  pub sort_is : S.sort i ≡ s
  pub place_is : S.place i ≡ q
  pub set_is : S.set i ≡ m
  pub others : (x : ℕ) → x ≢ i → Same R S x

-- One cell is written into the rows.
pub record Put (i p s q m : ℕ) (before after : Lent) : Type 0 where
  pub parents : after.parents ≡ set before.parents i p
  pub sorts : after.sorts ≡ set before.sorts i s
  pub places : after.places ≡ set before.places i q
  pub sets : after.sets ≡ set before.sets i m

pub written : {i p s q m : ℕ} {before after : Lent} → Put i p s q m before after → i < shortest before → Written (held before) (held after) i p s q m
written {i} {p} {s} {q} {m} {before = r} w l = record {
  parent_is = at r.parents p w.parents (omega arith);
  sort_is = at r.sorts s w.sorts (omega arith);
  place_is = at r.places q w.places (omega arith);
  set_is = at r.sets m w.sets (omega arith);
  others = λ x n. record { parent = off r.parents p w.parents x n; sort = off r.sorts s w.sorts x n; place = off r.places q w.places x n; graves = off r.sets m w.sets x n };
}
  where
    at : (xs : List ℕ) {ys : List ℕ} (v : ℕ) → ys ≡ set xs i v → i < length xs → get_or ys i 0 ≡ v
    at xs v e l = ap (λ (zs : List ℕ). get_or zs i 0) e ∙ get_or-set_same xs i v 0 l

    off : (xs : List ℕ) {ys : List ℕ} (v : ℕ) → ys ≡ set xs i v → (x : ℕ) → x ≢ i → get_or ys x 0 ≡ get_or xs x 0
    off xs v e x n = ap (λ (zs : List ℕ). get_or zs x 0) e ∙ get_or-set_other xs i x v 0 n

-- One element more is written, and those behind it are as before.
pub kept_more : (m v : ℕ) (xs old : List ℕ) → drop m xs ≡ drop m old → drop (m + 1) (set xs m v) ≡ drop (m + 1) old
kept_more m v xs old e = drop-set-lt (m + 1) xs m v (omega arith) ∙ sym (drop-drop 1 m xs) ∙ ap (drop 1) e ∙ drop-drop 1 m old

pub put_kept : {p s q m : ℕ} (n : ℕ) {before r after : Lent} → Put n p s q m r after → SameFrom n before r → SameFrom (n + 1) before after
put_kept {p} {s} {q} {m} n {before = b} {r = r} w k = record {
  parents = ap (drop (n + 1)) w.parents ∙ kept_more n p r.parents b.parents k.parents;
  sorts = ap (drop (n + 1)) w.sorts ∙ kept_more n s r.sorts b.sorts k.sorts;
  places = ap (drop (n + 1)) w.places ∙ kept_more n q r.places b.places k.places;
  sets = ap (drop (n + 1)) w.sets ∙ kept_more n m r.sets b.sets k.sets;
}

-- The same slices have room for as many cells as before.
pub same_room : {r s : Rows} → SameSlices r s → shortest (lent_rows s) ≡ shortest (lent_rows r)
same_room k = rw (k.parents_long, k.sorts_long, k.places_long, k.sets_long) refl

pub slices_kept : {r s u : Rows} → SameSlices r s → SameSlices s u → SameSlices r u
slices_kept k l = record {
  parents = l.parents ∙ k.parents;
  sorts = l.sorts ∙ k.sorts;
  places = l.places ∙ k.places;
  sets = l.sets ∙ k.sets;
  parents_long = l.parents_long ∙ k.parents_long;
  sorts_long = l.sorts_long ∙ k.sorts_long;
  places_long = l.places_long ∙ k.places_long;
  sets_long = l.sets_long ∙ k.sets_long;
}
