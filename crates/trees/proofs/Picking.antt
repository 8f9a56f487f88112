-- Branches in any order read against a row of graves, branch by branch: the first grave of what is left of the row picks the branch that comes next.
use Rattle.std.proofs.Common.{◌≡◌, ℕ, ◌+◌, ◌<◌, ◌≤◌, Bool, true, false, eqb, List, length, get_or, take, drop, sym, refl, ap, ◌∙◌, subst, add-zero, arith}
use lib.Bits.{bit_and, bit_or, bit_xor, xor_assoc, xor_self, xor_zero_r, xor_disjoint, or_disjoint}
use Rattle.std.proofs.lemmas.List.{get_or-drop, drop_all, drop-drop, length-drop}
use Rattle.std.proofs.lemmas.Bool.{eqb-true, eqb-false}
use Rattle.finds.specs.Branches.{◌+++◌}
use Rattle.finds.specs.Counts.{count_t, count_ts}
use Rattle.finds.specs.Sets.{bit, has}
use Rattle.finds.specs.Trees.{Tree, any, Trees, none, more, Allows, mixed, nil, Mixed, no_more}
use Rattle.finds.proofs.Branches.{Alls, plus_assoc, mixed_refl, mixed_trans, mixed_plus, mixed_mid, mixed_out, mixed_alls, alls_right, put_in_middle, put_around}
use Rattle.finds.proofs.Counts.{count_ts_plus, mixed_count, allows_count}
use Rattle.finds.proofs.Start.{count_at}
use Rattle.trees.specs.Cells.{size, sizes, set_of, sets_of, kids, Sound}
use Rattle.trees.specs.Walks.{BranchWith}
use Rattle.finds.proofs.Bits.{bit_zero, bit_of_and, bit_of_or, bit_ext}
use Rattle.trees.proofs.Sets.{sound_kids, bit_set, bit_sets}
use Rattle.trees.proofs.Allowing.{goods_sizes, sizes_plus, any_to, any_from}

-- A branch with a grave that the branches in front do not have stands behind them.
behind_them : (k : ℕ → Bool) (x y w z : Trees) (t : Tree) → x +++ y ≡ w +++ more t z → count_ts k true x ≡ 0 → 1 ≤ count_t k true t → (a : Trees) × (c : Trees) × (y ≡ a +++ more t c)
behind_them k none y w z t e h l = (w, z, e)
behind_them k (more u x) y none z t e h l = let s : u ≡ t = cc in absurd (let c = ap (count_t k true) s in omega arith)
behind_them k (more u x) y (more v w) z t e h l = behind_them k x y w z t (cc) (omega arith) l

-- The set of branches without one of them.
set_out : (x : Trees) (t : Tree) (y : Trees) → ((g : ℕ) → count_ts (eqb g) true (x +++ more t y) ≤ 1) → sets_of (x +++ more t y) ≡ bit_xor (sets_of (x +++ y)) (set_of t)
set_out x t y once = joined ∙ or_disjoint (sets_of (x +++ y)) (set_of t) apart ∙ sym (xor_disjoint (sets_of (x +++ y)) (set_of t) apart)
  where
    sums : (g : ℕ) → (count_ts (eqb g) true (x +++ more t y) ≡ count_ts (eqb g) true x + (count_t (eqb g) true t + count_ts (eqb g) true y)) × (count_ts (eqb g) true (x +++ y) ≡ count_ts (eqb g) true x + count_ts (eqb g) true y)
    sums g = (count_ts_plus (eqb g) true x (more t y), count_ts_plus (eqb g) true x y)

    apart : bit_and (sets_of (x +++ y)) (set_of t) ≡ 0
    apart = bit_ext (bit_and (sets_of (x +++ y)) (set_of t)) 0
        (λ g. let a = bit_of_and g (sets_of (x +++ y)) (set_of t) in let b = bit_sets g (x +++ y) in let c = bit_set g t in let s = sums g in let o = once g in let z = bit_zero g in omega arith)

    joined : sets_of (x +++ more t y) ≡ bit_or (sets_of (x +++ y)) (set_of t)
    joined = bit_ext (sets_of (x +++ more t y)) (bit_or (sets_of (x +++ y)) (set_of t))
        (λ g. let a = bit_of_or g (sets_of (x +++ y)) (set_of t) in let b = bit_sets g (x +++ y) in let c = bit_set g t in let d = bit_sets g (x +++ more t y) in let s = sums g in omega arith)

-- So far `at` graves of the row l are read, against some branches of t; the rest of the branches have the graves of the set `left`, and t allows l if they allow the rest of it.
pub record Picked (t : Tree) (l : List ℕ) (left at : ℕ) : Type 0 where
  pub done : Trees
  pub rest : Trees
  pub mix : Mixed (kids t) (done +++ rest)
  pub left_is : left ≡ sets_of rest
  pub long : at + sizes rest ≡ length l
  pub to : Allows (any rest) (drop at l) → Allows (any (kids t)) l
  pub from : Allows (any (kids t)) l → Allows (any rest) (drop at l)

pub picked_start : (t : Tree) (l : List ℕ) (left : ℕ) → left ≡ sets_of (kids t) → sizes (kids t) ≡ length l → Picked t l left 0
picked_start t l left e s = record { done = none; rest = kids t; mix = mixed_refl (kids t); left_is = e; long = omega arith; to = λ a. a; from = λ a. a }

-- The branch that has the next grave is one of the rest.
pub record Pick (rest : Trees) (u : Tree) : Type 0 where
  pub before : Trees
  pub behind : Trees
  pub is : rest ≡ before +++ more u behind

module _ {t : Tree} {l : List ℕ} {left at : ℕ} (s : Sound t) (p : Picked t l left at) where
  once : (g : ℕ) → count_ts (eqb g) true p.done + count_ts (eqb g) true p.rest ≤ 1
  once g =
      let a = mixed_count (eqb g) true p.mix in let b = count_ts_plus (eqb g) true p.done p.rest in let c = (sound_kids t s).once g in omega arith

  big : Alls (λ u. 1 ≤ size u) p.rest
  big = alls_right (λ u. 1 ≤ size u) p.done p.rest (mixed_alls (λ u. 1 ≤ size u) p.mix (goods_sizes (kids t) (sound_kids t s).good))

  first : get_or (drop at l) 0 0 ≡ get_or l at 0
  first = get_or-drop at l 0 0 ∙ ap (λ (x : ℕ). get_or l x 0) (add-zero at)

  pub pick : {i c : ℕ} (b : BranchWith i (get_or l at 0) t c) → has left (get_or l at 0) ≡ true → Pick p.rest b.it
  pick b h =
      let g = get_or l at 0 in
      let m = subst (λ (z : Trees). Mixed z (p.done +++ p.rest)) b.is p.mix in
      let r = put_around (mixed_out (put_in_middle b.it b.before b.behind) m).2 in
      let x = eqb-true (bit g left) 1 h in
      let y = ap (bit g) p.left_is ∙ bit_sets g p.rest in
      let z = bit_set g b.it in
      let q = behind_them (eqb g) p.done p.rest r.left r.right b.it r.with_it (let o = once g in omega arith) (omega (arith, b.in_it)) in
      record { before = q.0; behind = q.1; is = q.2 }

  pub pick_size : {u : Tree} → Pick p.rest u → (1 ≤ size u) × (at + size u ≤ length l)
  pick_size {u} k = (
    (alls_right (λ u. 1 ≤ size u) k.before (more u k.behind) (subst (Alls (λ u. 1 ≤ size u)) k.is big)).0,
    (let a = ap sizes k.is ∙ sizes_plus k.before (more u k.behind) in let b = p.long in omega arith),
  )

  -- If the branch with the next grave allows its part, the others may go on behind it; and only then.
  picked_on : {u : Tree} (k : Pick p.rest u) → at < length l → bit (get_or l at 0) (set_of u) ≡ 1 →
      Allows (any (kids t)) l → Allows u (take (size u) (drop at l)) × Allows (any (k.before +++ k.behind)) (drop (size u) (drop at l))
  picked_on {u} k h b a =
      any_to k.before u k.behind (drop at l) (subst (Alls (λ u. 1 ≤ size u)) k.is big)
      (let o = once (get_or (drop at l) 0 0) in let e = ap (count_ts (eqb (get_or (drop at l) 0 0)) true) k.is in omega arith)
      (let e = length-drop at l in omega arith)
      (let e = ap (λ (g : ℕ). count_t (eqb g) true u) first in let z = bit_set (get_or l at 0) u in omega arith)
      (subst (λ (z : Trees). Allows (any z) (drop at l)) k.is (p.from a))

  pub picked_more : {u : Tree} (k : Pick p.rest u) → at < length l → bit (get_or l at 0) (set_of u) ≡ 1 → Allows u (take (size u) (drop at l)) → Picked t l (bit_xor left (set_of u)) (at + size u)
  picked_more {u} k h b w = record {
    done = p.done +++ more u none;
    rest = k.before +++ k.behind;
    mix =
        rw plus_assoc (mixed_trans (subst (λ (z : Trees). Mixed (kids t) (p.done +++ z)) k.is p.mix)
        (mixed_plus (mixed_refl p.done) (mixed_mid u k.before k.behind none (k.before +++ k.behind) (mixed_refl (k.before +++ k.behind)))));
    left_is =
        ap (λ (x : ℕ). bit_xor x (set_of u)) (p.left_is ∙ ap sets_of k.is ∙ set_out k.before u k.behind (λ g. let o = once g in let e = ap (count_ts (eqb g) true) k.is in omega arith))
        ∙ xor_assoc (sets_of (k.before +++ k.behind)) (set_of u) (set_of u)
        ∙ ap (bit_xor (sets_of (k.before +++ k.behind))) (xor_self (set_of u))
        ∙ xor_zero_r (sets_of (k.before +++ k.behind));
    long =
        (let a = ap sizes k.is ∙ sizes_plus k.before (more u k.behind) in let c = sizes_plus k.before k.behind in let d = p.long in omega arith);
    to = λ a. p.to (subst (λ (z : Trees). Allows (any z) (drop at l)) (sym k.is)
        (any_from k.before u k.behind (size u) (drop at l) w (subst (Allows (any (k.before +++ k.behind))) (sym (drop-drop (size u) at l)) a)));
    from = λ a. subst (Allows (any (k.before +++ k.behind))) (drop-drop (size u) at l) (picked_on k h b a).1;
  }

  pub picked_not : {u : Tree} (k : Pick p.rest u) → at < length l → bit (get_or l at 0) (set_of u) ≡ 1 → (Allows u (take (size u) (drop at l)) → ⊥) → Allows (any (kids t)) l → ⊥
  picked_not k h b n a = n (picked_on k h b a).0

  -- A grave that is not among the rest of the branches stops the reading.
  pub picked_gone : at < length l → has left (get_or l at 0) ≡ false → Allows (any (kids t)) l → ⊥
  picked_gone h e a =
      let g = get_or l at 0 in
      let c = count_at g (drop at l) 0 0 (let e = length-drop at l in omega arith) first in
      let d = allows_count (eqb g) true (p.from a) in
      let b = ap (bit g) p.left_is ∙ bit_sets g p.rest in
      let o = once g in
      eqb-false (bit g left) 1 e (omega arith)

  -- When the row is read, no branch is left.
  pub picked_end : length l ≤ at → Allows (any (kids t)) l
  picked_end h = go p.rest refl big
    where
      go : (w : Trees) → p.rest ≡ w → Alls (λ u. 1 ≤ size u) w → Allows (any (kids t)) l
      go none e a = p.to (subst (λ (z : Trees). Allows (any z) (drop at l)) (sym e) (subst (Allows (any none)) (sym (drop_all at l h)) (mixed no_more nil)))
      go (more u w) e a = absurd (let c = ap sizes e in let d = p.long in omega (arith, a.0))

-- A grave that no branch has stops it too.
pub picked_none : (t : Tree) (l : List ℕ) (at : ℕ) → at < length l → bit (get_or l at 0) (sets_of (kids t)) ≡ 0 → Allows (any (kids t)) l → ⊥
picked_none t l at h e a =
    let g = get_or l at 0 in
    let c = count_at g l at 0 h refl in
    let d = allows_count (eqb g) true a in
    let b = bit_sets g (kids t) in
    omega arith
