-- How a row of graves is read against branches: which part of it stands for which branch.
use Rattle.std.proofs.Common.{◌≡◌, ℕ, ◌+◌, ◌-◌, ◌^◌, ◌<◌, ◌≤◌, Bool, true, false, not, eqb, ◌⊎◌, List, [], ◌∷◌, length, get_or, take, drop, Decides, sym, refl, ap, ◌∙◌, subst, inl, inr, arith}
use Rattle.std.proofs.lemmas.List.{take-append-drop, take_at, drop_at, take-take, drop-drop, drop-take, length-take, length-take-le, length-append, get_or-take}
use Rattle.std.proofs.lemmas.Bool.{eqb-true, eqb-false, eq-eqb, cases_eq}
use Rattle.finds.specs.Branches.{◌+++◌, revs}
use Rattle.finds.specs.Counts.{count, count_t, count_ts}
use Rattle.finds.specs.Sets.{bit, has}
use Rattle.finds.specs.Trees.{Tree, grave, any, row, Trees, none, more, Allows, one, mixed, straight, turned, InRow, next, Mixed, Put, len, Good, Goods}
use Rattle.finds.proofs.Branches.{Alls, mixed_out, mixed_mid, mixed_alls, mixed_revs, put_in_middle, Around, put_around, turned_is, is_turned}
use Rattle.finds.proofs.Counts.{count_ts_plus, allows_count, in_row_count, mixed_count, in_plus, in_cut, in_one, one_in}
use Rattle.finds.proofs.Start.{every, count_length, count_at}
use Rattle.trees.specs.Cells.{size, sizes, set_of, Sounds}
use Rattle.trees.specs.Reading.{Reads, left_of, beginning_of}
use Rattle.finds.proofs.Bits.{bit_pow, bit_pow_other}
use Rattle.trees.proofs.Cells.{some_nodes, len_nodes, few_nodes, all_few_nodes}
use Rattle.trees.proofs.Sets.{bit_set}

-- ---- lengths

mutual
  every_size : (t : Tree) → count_t every true t ≡ size t
  every_size (grave g) = refl
  every_size (any ts) = every_sizes ts
  every_size (row ts) = every_sizes ts

  every_sizes : (ts : Trees) → count_ts every true ts ≡ sizes ts
  every_sizes none = refl
  every_sizes (more t ts) = let x = every_size t in let y = every_sizes ts in omega arith

pub allows_length : {t : Tree} {l : List ℕ} → Allows t l → length l ≡ size t
allows_length {t} {l} a = sym (count_length l) ∙ allows_count every true a ∙ every_size t

pub in_row_length : {ts : Trees} {l : List ℕ} → InRow ts l → length l ≡ sizes ts
in_row_length {ts} {l} a = sym (count_length l) ∙ in_row_count every true a ∙ every_sizes ts

pub good_size : (t : Tree) → Good t → 1 ≤ size t
good_size t h = let e = few_nodes t h in let s = some_nodes t in omega arith

pub goods_sizes : (ts : Trees) → Goods ts → Alls (λ t. 1 ≤ size t) ts
goods_sizes none h = tt
goods_sizes (more t ts) h = (good_size t h.0, goods_sizes ts h.1)

pub sizes_plus : (x y : Trees) → sizes (x +++ y) ≡ sizes x + sizes y
sizes_plus none y = omega arith
sizes_plus (more t x) y = let z = sizes_plus x y in omega arith

pub sizes_mixed : {ts us : Trees} → Mixed ts us → sizes us ≡ sizes ts
sizes_mixed {ts} {us} m = sym (every_sizes us) ∙ mixed_count every true m ∙ every_sizes ts

pub goods_len : (ts : Trees) → Goods ts → len ts ≤ sizes ts
goods_len ts h = let a = all_few_nodes ts h in let b = len_nodes ts in omega arith

-- ---- one grave

pub grave_allows : (g : ℕ) (l : List ℕ) → length l ≡ 1 → Decides (has (2 ^ g) (get_or l 0 0)) (Allows (grave g) l)
grave_allows g [] e = absurd (omega arith)
grave_allows g (x ∷ []) e = ((λ h. go (cases_eq x g) h), (λ a. from a refl))
  where
    go : (x ≡ g) ⊎ (x ≡ g → ⊥) → has (2 ^ g) x ≡ true → Allows (grave g) (x ∷ [])
    go (inl s) h = rw s one
    go (inr n) h = absurd (let a = bit_pow_other x g n in let b = eqb-true (bit x (2 ^ g)) 1 h in omega arith)

    from : {m : List ℕ} → Allows (grave g) m → m ≡ x ∷ [] → has (2 ^ g) x ≡ true
    from one s = let z : g ≡ x = cc in eq-eqb (bit x (2 ^ g)) 1 (subst (λ (y : ℕ). bit y (2 ^ g) ≡ 1) z (bit_pow g))
grave_allows g (x ∷ y ∷ l) e = absurd (omega arith)

-- ---- the first branch, or the last

pub first_in : {t : Tree} {ts : Trees} {l : List ℕ} → InRow (more t ts) l → Allows t (take (size t) l) × InRow ts (drop (size t) l)
first_in {t} {ts} (next {k = a} {l = c} h r) =
    let e = allows_length h in (subst (Allows t) (sym (take_at a c (size t) e)) h, subst (InRow ts) (sym (drop_at a c (size t) e)) r)

pub in_first : {t : Tree} {ts : Trees} (n : ℕ) (l : List ℕ) → Allows t (take n l) → InRow ts (drop n l) → InRow (more t ts) l
in_first n l h r = rw take-append-drop at (next h r)

pub last_in : {t : Tree} {ts : Trees} {l : List ℕ} (m : ℕ) → m + size t ≡ length l → InRow (ts +++ more t none) l → InRow ts (take m l) × Allows t (drop m l)
last_in {t} {ts} {l} m e r =
    let c = in_cut ts (more t none) r in
    let h = one_in c.there in
    let s : length c.fore ≡ m = (let x = ap length c.is ∙ length-append c.fore c.rest in let y = allows_length h in omega arith) in
    (rw (c.is, take_at c.fore c.rest m s) c.here, rw (c.is, drop_at c.fore c.rest m s) h)

pub in_last : {t : Tree} {ts : Trees} (m : ℕ) (l : List ℕ) → InRow ts (take m l) → Allows t (drop m l) → InRow (ts +++ more t none) l
in_last m l r h = rw take-append-drop at (in_plus r (in_one h))

-- The same of the front of a row.
back_to : {t : Tree} {ts : Trees} (m n : ℕ) (l : List ℕ) → n ≡ m + size t → n ≤ length l → InRow (ts +++ more t none) (take n l) → Allows t (take (size t) (drop m l)) × InRow ts (take m l)
back_to {t} {ts} m n l e b r =
    let h = last_in m (sym e ∙ sym (length-take-le n l b)) r in
    (subst (Allows t) (ap (λ (x : ℕ). drop m (take x l)) e ∙ drop-take m (size t) l) h.1, subst (InRow ts) (take-take m n l (omega arith)) h.0)

back_from : {t : Tree} {ts : Trees} (m n : ℕ) (l : List ℕ) → n ≡ m + size t → Allows t (take (size t) (drop m l)) → InRow ts (take m l) → InRow (ts +++ more t none) (take n l)
back_from {t} {ts} m n l e h r =
    in_last m (take n l) (subst (InRow ts) (sym (take-take m n l (omega arith))) r) (subst (Allows t) (sym (ap (λ (x : ℕ). drop m (take x l)) e ∙ drop-take m (size t) l)) h)

-- The next branch takes its part, and the others what is left.
pub reads_to : (b : Bool) (t : Tree) (ts : Trees) (at : ℕ) (l : List ℕ) → at + size t ≤ length l → Reads b (more t ts) (left_of b at l) →
    Allows t (take (size t) (drop (beginning_of b at (size t) (length l)) l)) × Reads b ts (left_of b (at + size t) l)
reads_to false t ts at l e r = let h = first_in r in (h.0, subst (InRow ts) (drop-drop (size t) at l) h.1)
reads_to true t ts at l e r =
    let h = back_to (length l - at - size t) (length l - at) l (omega arith) (omega arith) r in
    (h.0, subst (λ (m : ℕ). InRow (revs ts) (take m l)) (omega arith) h.1)

pub reads_from : (b : Bool) (t : Tree) (ts : Trees) (at : ℕ) (l : List ℕ) → at + size t ≤ length l →
    Allows t (take (size t) (drop (beginning_of b at (size t) (length l)) l)) → Reads b ts (left_of b (at + size t) l) → Reads b (more t ts) (left_of b at l)
reads_from false t ts at l e h r = in_first (size t) (drop at l) h (subst (InRow ts) (sym (drop-drop (size t) at l)) r)
reads_from true t ts at l e h r =
    back_from (length l - at - size t) (length l - at) l (omega arith) h (subst (λ (m : ℕ). InRow (revs ts) (take m l)) (omega arith) r)

-- ---- which way a row is read

-- The first grave of a row of graves is in each front of it that is not empty.
first_count : (n : ℕ) (l : List ℕ) → 0 < n → 0 < length l → 1 ≤ count (eqb (get_or l 0 0)) true (take n l)
first_count n l h b = count_at (get_or l 0 0) (take n l) 0 0 (let e = length-take n l in omega arith) (get_or-take n l 0 0 h)

-- If the first grave is in the first branch, the row is not turned round, and else it is: no grave is in two branches.
pub one_way : (t : Tree) (ts : Trees) (l : List ℕ) → 2 ≤ len (more t ts) → Sounds (more t ts) → 0 < length l → (b : Bool) → has (set_of t) (get_or l 0 0) ≡ not b →
    (Allows (row (more t ts)) l → Reads b (more t ts) l) × (Reads b (more t ts) l → Allows (row (more t ts)) l)
one_way t ts l two s some b e = go b e
  where
    g : ℕ
    g = get_or l 0 0

    first : InRow (more t ts) l → 1 ≤ count_t (eqb g) true t
    first r =
        let h = (first_in r).0 in let c = first_count (size t) l (good_size t s.good.0) some in let x = allows_count (eqb g) true h in omega arith

    last : InRow (revs ts +++ more t none) l → 1 ≤ count_ts (eqb g) true ts
    last r =
        let long = in_row_length r ∙ sizes_plus (revs ts) (more t none) in
        let m = sizes_mixed (mixed_revs ts) in
        let h = (last_in (sizes (revs ts)) (omega arith) r).0 in
        let c = first_count (sizes (revs ts)) l (let x = goods_len ts s.good.1 in omega arith) some in
        let x = in_row_count (eqb g) true h in
        let y = mixed_count (eqb g) true (mixed_revs ts) in
        omega arith

    go : (b : Bool) → has (set_of t) g ≡ not b → (Allows (row (more t ts)) l → Reads b (more t ts) l) × (Reads b (more t ts) l → Allows (row (more t ts)) l)
    go false e = ((λ a. to a), straight)
      where
        to : Allows (row (more t ts)) l → InRow (more t ts) l
        to (straight r) = r
        to (turned w r) =
            let x = last (subst (λ (us : Trees). InRow us l) (turned_is w) r) in
            let y = bit_set g t in let z = eqb-true (bit g (set_of t)) 1 e in let o = s.once g in absurd (omega arith)
    go true e = ((λ a. to a), turned (is_turned (more t ts)))
      where
        to : Allows (row (more t ts)) l → InRow (revs ts +++ more t none) l
        to (straight r) = let x = first r in let y = bit_set g t in absurd (eqb-false (bit g (set_of t)) 1 e (let o = s.once g in omega arith))
        to (turned w r) = subst (λ (us : Trees). InRow us l) (turned_is w) r

-- ---- branches in any order

-- The branch that has the first grave comes first.
pub any_to : (x : Trees) (t : Tree) (y : Trees) (l : List ℕ) → Alls (λ u. 1 ≤ size u) (x +++ more t y) → count_ts (eqb (get_or l 0 0)) true (x +++ more t y) ≤ 1 → 0 < length l → 1 ≤ count_t (eqb (get_or l 0 0)) true t →
    Allows (any (x +++ more t y)) l → Allows t (take (size t) l) × Allows (any (x +++ y)) (drop (size t) l)
any_to x t y l good once some there (mixed {us = us} m r) = go a.left refl
  where
    g : ℕ
    g = get_or l 0 0

    o : (vs : Trees) × Mixed (x +++ y) vs × Put t vs us
    o = mixed_out (put_in_middle t x y) m

    a : Around t o.0 us
    a = put_around o.2

    there' : (w : Trees) → a.left ≡ w → us ≡ w +++ more t a.right
    there' w e = a.with_it ∙ ap (λ (z : Trees). z +++ more t a.right) e

    go : (w : Trees) → a.left ≡ w → Allows t (take (size t) l) × Allows (any (x +++ y)) (drop (size t) l)
    go none e =
        let h = first_in (subst (λ (z : Trees). InRow z l) (there' none e) r) in
        (h.0, mixed (subst (Mixed (x +++ y)) (a.out ∙ ap (λ (z : Trees). z +++ a.right) e) o.1) h.1)
    go (more v w) e =
        let is = there' (more v w) e in
        let h = (first_in (subst (λ (z : Trees). InRow z l) is r)).0 in
        let big = (subst (Alls (λ u. 1 ≤ size u)) is (mixed_alls (λ u. 1 ≤ size u) m good)).0 in
        let c = first_count (size v) l big some in
        let d = allows_count (eqb g) true h in
        let n = ap (count_ts (eqb g) true) is in
        let k = mixed_count (eqb g) true m in
        let q = count_ts_plus (eqb g) true w (more t a.right) in
        absurd (omega arith)

pub any_from : (x : Trees) (t : Tree) (y : Trees) (n : ℕ) (l : List ℕ) → Allows t (take n l) → Allows (any (x +++ y)) (drop n l) → Allows (any (x +++ more t y)) l
any_from x t y n l h (mixed {us = us} m r) = mixed (mixed_mid t x y none us m) (in_first n l h r)
