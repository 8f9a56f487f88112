-- The product over all places of a tree is the number of rows that it allows.
use Rattle.std.proofs.Common.{◌≡◌, ℕ, zero, suc, ◌*◌, ◌≤◌, true, eqb, ◌⊎◌, List, [], ◌∷◌, ◌++◌, reverse, length, get_or, sym, refl, ap, ◌∙◌, subst, inl, inr, mul_assoc, suc-mul, mul_left_comm, arith}
use mathlib.Core.List.{reverse-append, reverse-reverse}
use Rattle.std.proofs.lemmas.List.{get_or_append_left, length-reverse}
use Rattle.finds.specs.Branches.{◌+++◌}
use Rattle.finds.specs.Counts.{count, count_t}
use Rattle.finds.specs.Exactness.{Exactly}
use Rattle.finds.specs.Finds.{Finds}
use Rattle.finds.specs.Trees.{Tree, grave, any, row, Trees, none, more, Allows, one, mixed, InRow, nil, next, Mixed, no_more, put, len, Good, Goods}
use Rattle.finds.proofs.Branches.{Alls, plus_assoc, len_plus, goods_right, put_around, mixed_mid, mixed_sym}
use Rattle.finds.proofs.Counts.{count_ts_plus, count_reverse, allows_count, in_row_count}
use Rattle.finds.proofs.Start.{count_at}
use Rattle.pqtree.specs.Opening.{laid}
use Rattle.pqtree.proofs.Fitting.{row_ways, ways_row}
use Rattle.trees.specs.Cells.{size, Sound}
use Rattle.trees.proofs.Allowing.{allows_length, in_row_length, good_size, goods_len}
use Rattle.certain.specs.Counting.{factorial, product, all_products, Number, Fitting}
use Rattle.certain.specs.Middle.{In, InSome}
use Rattle.certain.proofs.Middle.{Once}
use Rattle.certain.proofs.Numbering.{number_like, number_none, number_one, number_sum, Joined, number_joined, number_turned}

-- The tree is well-formed, and its rows are as many as the product says.
abbrev Fine : Tree → Type 0
Fine t = Good t × Number (Allows t) (product t)

-- ---- the first grave of a row

first_of : (a c : List ℕ) → 1 ≤ length a → 1 ≤ count (eqb (get_or (a ++ c) 0 0)) true a
first_of a c h = count_at (get_or (a ++ c) 0 0) a 0 0 h (sym (get_or_append_left a c 0 0 h))

-- It is in the tree that the row begins with.
first_in : {t : Tree} {a : List ℕ} → Good t → Allows t a → (c : List ℕ) → In (get_or (a ++ c) 0 0) t
first_in {t} {a} g h c =
    let n = allows_length h in let s = good_size t g in let f = first_of a c (omega arith) in let e = allows_count (eqb (get_or (a ++ c) 0 0)) true h in omega arith

-- ---- branches in a row

rows_number : (ts : Trees) → Alls Fine ts → Number (InRow ts) (all_products ts)
rows_number none f = number_one [] nil only
  where
    only : (m : List ℕ) → InRow none m → m ≡ []
    only m nil = refl
rows_number (more t ts) f = number_like to from (number_joined (size t) (λ l h. allows_length h) f.0.1 (rows_number ts f.1))
  where
    to : (l : List ℕ) → Joined (Allows t) (InRow ts) l → InRow (more t ts) l
    to l j = rw j.is (next j.here j.there)

    from : (l : List ℕ) → InRow (more t ts) l → Joined (Allows t) (InRow ts) l
    from l (next {k = a} {l = c} h r) = record { fore = a; rest = c; is = refl; here = h; there = r }

-- A row turned round is another row: the first grave is in the first branch, and if it is turned round, in another.
not_turned : (t : Tree) (ts : Trees) → Goods (more t ts) → 1 ≤ len ts → Once (more t ts) → (l : List ℕ) → InRow (more t ts) l → InRow (more t ts) (reverse l) → ⊥
not_turned t ts g n o l (next {k = a} {l = c} h r) s = go s refl
  where
    go : {m : List ℕ} → InRow (more t ts) m → m ≡ reverse (a ++ c) → ⊥
    go (next {k = b} {l = d} h' r') e =
        let is : a ++ c ≡ reverse d ++ reverse b = sym (reverse-reverse (a ++ c)) ∙ ap reverse (sym e) ∙ reverse-append b d in
        let x = get_or (a ++ c) 0 0 in
        let i = first_in g.0 h c in
        let long = in_row_length r' in
        let q = goods_len ts g.1 in
        let z = length-reverse d in
        let j = first_of (reverse d) (reverse b) (omega arith) in
        let w = ap (λ (y : List ℕ). count (eqb (get_or y 0 0)) true (reverse d)) is in
        let u = count_reverse (eqb x) true d in
        let v = in_row_count (eqb x) true r' in
        let p = o x in
        omega arith

row_number : (ts : Trees) → Alls Fine ts → Goods ts → 3 ≤ len ts → Once ts → Number (Allows (row ts)) (2 * all_products ts)
row_number none f g n o = absurd (omega arith)
row_number (more t ts) f g n o =
    let r = rows_number (more t ts) f in
    subst (Number (Allows (row (more t ts)))) (omega arith)
    (number_like (λ l h. ways_row (laid (more t ts)) l h) (λ l h. row_ways (laid (more t ts)) l h) (number_sum r (number_turned r) (not_turned t ts g (omega arith) o)))

-- ---- branches in any order, by the branch that comes first

-- The row begins with a branch of y, and the others and the branches x come behind it in any order.
abbrev Starts : Trees → Trees → List ℕ → Type 0
Starts x none l = ⊥
Starts x (more t y) l = Joined (Allows t) (Allows (any (x +++ y))) l ⊎ Starts (x +++ more t none) y l

starts_any : (x y : Trees) (l : List ℕ) → Starts x y l → Allows (any (x +++ y)) l
starts_any x none l s = absurd s
starts_any x (more t y) l (inl j) = rw j.is (go j.there)
  where
    go : {c : List ℕ} → Allows (any (x +++ y)) c → Allows (any (x +++ more t y)) (j.fore ++ c)
    go (mixed {us = us} m r) = mixed (mixed_mid t x y none us m) (next j.here r)
starts_any x (more t y) l (inr s) = subst (λ (z : Trees). Allows (any z) l) (plus_assoc x (more t none) y) (starts_any (x +++ more t none) y l s)

starts_with : (w x : Trees) (t : Tree) (y : Trees) (l : List ℕ) → Joined (Allows t) (Allows (any (w +++ (x +++ y)))) l → Starts w (x +++ more t y) l
starts_with w none t y l j = inl j
starts_with w (more u x) t y l j =
    inr (starts_with (w +++ more u none) x t y l (subst (λ (z : Trees). Joined (Allows t) (Allows (any z)) l) (sym (plus_assoc w (more u none) (x +++ y))) j))

starts_of : {us ts : Trees} {l : List ℕ} → 1 ≤ len ts → Mixed us ts → InRow us l → Starts none ts l
starts_of n no_more r = absurd (omega arith)
starts_of n (put {t = t} m p) (next {k = a} {l = c} h r) =
    let w = put_around p in
    subst (λ (z : Trees). Starts none z (a ++ c)) (sym w.with_it)
    (starts_with none w.left t w.right (a ++ c) (record { fore = a; rest = c; is = refl; here = h; there = mixed (mixed_sym (subst (Mixed _) w.out m)) r }))

any_starts : (ts : Trees) (l : List ℕ) → 1 ≤ len ts → Allows (any ts) l → Starts none ts l
any_starts ts l n (mixed m r) = starts_of n (mixed_sym m) r

starts_first : (x y : Trees) (l : List ℕ) → Goods y → Starts x y l → InSome (get_or l 0 0) y
starts_first x none l g s = absurd s
starts_first x (more t y) l g (inl j) = rw j.is (let i = first_in g.0 j.here j.rest in omega arith)
starts_first x (more t y) l g (inr s) = let i = starts_first (x +++ more t none) y l g.1 s in omega arith

alls_out : (P : Tree → Type 0) (x : Trees) (t : Tree) (y : Trees) → Alls P (x +++ more t y) → P t × Alls P (x +++ y)
alls_out P none t y a = a
alls_out P (more u x) t y a = let r = alls_out P x t y a.1 in (r.0, (a.0, r.1))

orders_out : (x : Trees) (t : Tree) (y : Trees) → all_products (x +++ more t y) ≡ product t * all_products (x +++ y)
orders_out none t y = refl
orders_out (more u x) t y = ap (λ (z : ℕ). product u * z) (orders_out x t y) ∙ mul_left_comm (product u) (product t) (all_products (x +++ y))

goods_of : (ts : Trees) → Alls Fine ts → Goods ts
goods_of none f = tt
goods_of (more t ts) f = (f.0.0, goods_of ts f.1)

-- What is claimed of k branches in any order.
abbrev AnyNumber : ℕ → Type 0
AnyNumber k = (ts : Trees) → len ts ≡ k → Alls Fine ts → Once ts → Number (Allows (any ts)) (factorial k * all_products ts)

-- Each of the branches y may come first, and the k others then stand in any order.
starts_number : (k : ℕ) → AnyNumber k → (x y : Trees) → len (x +++ y) ≡ suc k → Alls Fine (x +++ y) → Once (x +++ y) → Number (Starts x y) (len y * (factorial k * all_products (x +++ y)))
starts_number k others x none e f o = subst (Number (Starts x none)) (omega arith) (number_none (λ l s. s) [])
starts_number k others x (more t y) e f o =
    let out = alls_out Fine x t y f in
    let a = factorial k * all_products (x +++ more t y) in
    let here = number_joined (size t) (λ l h. allows_length h) out.0.1 (others (x +++ y) (let p = len_plus x y in let q = len_plus x (more t y) in omega arith) out.1
    (λ g. let p = count_ts_plus (eqb g) true x y in let q = count_ts_plus (eqb g) true x (more t y) in let z = o g in omega arith)) in
    let here-many : product t * (factorial k * all_products (x +++ y)) ≡ a =
    mul_left_comm (product t) (factorial k) (all_products (x +++ y)) ∙ ap (λ (z : ℕ). factorial k * z) (sym (orders_out x t y)) in
    let same = plus_assoc x (more t none) y in
    let there = starts_number k others (x +++ more t none) y (ap len same ∙ e) (subst (Alls Fine) (sym same) f) (subst Once (sym same) o) in
    let there-many : len y * (factorial k * all_products ((x +++ more t none) +++ y)) ≡ len y * a = ap (λ (z : Trees). len y * (factorial k * all_products z)) same in
    subst (Number (Starts x (more t y))) (let z = suc-mul (len y) a in omega arith)
    (number_sum here there (λ l j s.
    let g = goods_of (x +++ more t y) f in
    let p = first_in out.0.0 j.here j.rest in
    let q = starts_first (x +++ more t none) y l (goods_right x (more t y) g).1 s in
    let r = ap (λ (z : List ℕ). count_t (eqb (get_or z 0 0)) true t) j.is in
    let z = o (get_or l 0 0) in
    let u = count_ts_plus (eqb (get_or l 0 0)) true x (more t y) in
    omega arith))

any_number : (k : ℕ) → AnyNumber k
any_number zero none e f o = number_one [] (mixed no_more nil) only
  where
    only : (m : List ℕ) → Allows (any none) m → m ≡ []
    only m (mixed no_more nil) = refl
any_number zero (more t ts) e f o = absurd (omega arith)
any_number (suc k) ts e f o =
    subst (Number (Allows (any ts))) (ap (λ (z : ℕ). z * (factorial k * all_products ts)) e ∙ sym (mul_assoc (suc k) (factorial k) (all_products ts)))
    (number_like (starts_any none ts) (λ l h. any_starts ts l (omega arith) h) (starts_number k (any_number k) none ts e f o))

-- ---- every tree

mutual
  pub number_of : (t : Tree) → Good t → ((g : ℕ) → count_t (eqb g) true t ≤ 1) → Number (Allows t) (product t)
  number_of (grave g) h o = number_one (g ∷ []) one only
    where
      only : (m : List ℕ) → Allows (grave g) m → m ≡ g ∷ []
      only m one = refl
  number_of (any ts) h o = any_number (len ts) ts refl (all_fine ts h.1 o) o
  number_of (row ts) h o = row_number ts (all_fine ts h.1 o) h.1 h.0 o

  all_fine : (ts : Trees) → Goods ts → Once ts → Alls Fine ts
  all_fine none h o = tt
  all_fine (more t ts) h o = ((h.0, number_of t h.0 (λ g. let z = o g in omega arith)), all_fine ts h.1 (λ g. let z = o g in omega arith))

-- By a tree of exactly the orders that fit, it is the number of orders that fit.
pub number_fitting : (f : Finds) (t : Tree) → Exactly f t → Sound t → Number (Fitting f) (product t)
unfolding Exactly
number_fitting f t x s = number_like to from (number_of t s.good s.once)
  where
    to : (l : List ℕ) → Allows t l → Fitting f l
    to l p = let o = x.1 l p in (o.0, o.1, (x.0 o.0 l o.1).1 p)

    from : (l : List ℕ) → Fitting f l → Allows t l
    from l h = (x.0 h.0 l h.1).0 h.2
