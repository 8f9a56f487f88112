-- The tree without kinds allows the row of each order, and nothing else.
use Rattle.std.proofs.Common.{◌≡◌, ℕ, zero, suc, ◌+◌, ◌<◌, ◌≤◌, Bool, true, false, cond, eqb, ◌≢◌, ◌⊎◌, List, [], ◌∷◌, ◌++◌, length, get_or, set, replicate, sym, refl, ap, ◌∙◌, subst, inl, inr, ⊎_elim, arith, length-append, length-set, get_or-set_other, get_or-set_same, eq-eqb, ne_eqb, eqb-true}
use native.Mathlib.Decide.{dec_lt}
use lib.ListN.{length-replicate}
use borrow.Author.Tests.{eqb-false}
use Rattle.finds.specs.Finds.{Order, Fits}
use Rattle.finds.specs.Trees.{grave, Trees, none, more, Allows, one, mixed, InRow, nil, next, Mixed, no_more, put, Put, first, after, len, Good, Goods, graves_from, start}
use Rattle.finds.specs.Exactness.{RowOf, Exactly}
use Rattle.finds.proofs.Branches.{mixed_one}
use Rattle.finds.proofs.Counts.{hit, count, count_t, count_ts, count_append, allows_count, one_in}

-- The row has each of the n graves once, and no other.
pub record Whole (n : ℕ) (l : List ℕ) : Type 0 where
  pub long : length l ≡ n
  pub once : (g : ℕ) → g < n → count (eqb g) true l ≡ 1
  pub never : (g : ℕ) → n ≤ g → count (eqb g) true l ≡ 0

-- ---- a grave that is in a row

pub count_at : (g : ℕ) (l : List ℕ) (i d : ℕ) → i < length l → get_or l i d ≡ g → 1 ≤ count (eqb g) true l
count_at g [] i d h e = absurd (omega arith)
count_at g (x ∷ l) zero d h e = let z : eqb g x ≡ true = eq-eqb g x (sym e) in rw z (omega arith)
count_at g (x ∷ l) (suc i) d h e = let z = count_at g l i d (omega arith) e in omega arith

-- The row before the grave, and after it.
record Mem (g : ℕ) (l : List ℕ) : Type 0 where
  pub fore : List ℕ
  pub rest : List ℕ
  pub is : l ≡ fore ++ (g ∷ rest)

count_mem : (g : ℕ) (l : List ℕ) → 1 ≤ count (eqb g) true l → Mem g l
count_mem g [] h = absurd (omega arith)
count_mem g (x ∷ l) h = go (eqb g x) refl h (count_mem g l)
  where
    go : (b : Bool) → eqb g x ≡ b → 1 ≤ hit b true + count (eqb g) true l → (1 ≤ count (eqb g) true l → Mem g l) → Mem g (x ∷ l)
    go true e h ih = record { fore = []; rest = l; is = ap (λ (w : ℕ). w ∷ l) (sym (eqb-true g x e)) }
    go false e h ih = let r = ih (omega arith) in record { fore = x ∷ r.fore; rest = r.rest; is = ap (λ (w : List ℕ). x ∷ w) r.is }

-- ---- the row of each order is allowed

-- The graves of a row, each a branch of its own.
abbrev pub leaf : List ℕ → Trees
leaf [] = none
leaf (g ∷ l) = more (grave g) (leaf l)

in_leaf : (l : List ℕ) → InRow (leaf l) l
in_leaf [] = nil
in_leaf (g ∷ l) = next one (in_leaf l)

put_leaf : (g : ℕ) (a c : List ℕ) → Put (grave g) (leaf (a ++ c)) (leaf (a ++ (g ∷ c)))
put_leaf g [] c = first
put_leaf g (x ∷ a) c = after (put_leaf g a c)

-- A row as long as there are graves, in which each grave is, has them in some order: take the first grave out, and go on.
all_mixed : (m i : ℕ) (l : List ℕ) → length l ≡ m → ((g : ℕ) → i ≤ g → g < i + m → 1 ≤ count (eqb g) true l) → Mixed (graves_from i m) (leaf l)
all_mixed zero i [] e f = no_more
all_mixed zero i (g ∷ l) e f = absurd (omega arith)
all_mixed (suc m) i l e f =
    let h = count_mem i l (f i (omega arith) (omega arith)) in
    let a = h.fore in
    let c = h.rest in
    let short : length (a ++ c) ≡ m = (let x = length-append a c in let y = length-append a (i ∷ c) in let z = ap length h.is in omega arith) in
    let others : (g : ℕ) → suc i ≤ g → g < suc i + m → 1 ≤ count (eqb g) true (a ++ c) =
    λ g p q.
    let other : hit (eqb g i) true ≡ 0 = rw (ne_eqb g i (omega arith)) in
    let x = f g (omega arith) (omega arith) in
    let y = ap (count (eqb g) true) h.is ∙ count_append (eqb g) true a (i ∷ c) in
    let z = count_append (eqb g) true a c in
    omega arith in
    subst (λ (w : List ℕ). Mixed (more (grave i) (graves_from (suc i) m)) (leaf w)) (sym h.is) (put (all_mixed m (suc i) (a ++ c) short others) (put_leaf i a c))

pub row_start : (n : ℕ) → 0 < n → (o : Order n) (l : List ℕ) → RowOf n o l → Allows (start n) l
unfolding RowOf
row_start n h o l r = go n h (all_mixed n 0 l r.0 (λ g p q. is_in g (omega arith)))
  where
    is_in : (g : ℕ) → g < n → 1 ≤ count (eqb g) true l
    is_in g q = count_at g l (o.place g) n (let z = o.within g q in let y = r.0 in omega arith) (r.1 g q)

    go : (n : ℕ) → 0 < n → Mixed (graves_from 0 n) (leaf l) → Allows (start n) l
    go zero h m = absurd (omega arith)
    go (suc zero) h m = one_in (subst (λ (w : Trees). InRow w l) (mixed_one m) (in_leaf l))
    go (suc (suc n)) h m = mixed m (in_leaf l)

-- ---- each allowed row has each grave once

from_none : (g i m : ℕ) → (g < i) ⊎ (i + m ≤ g) → count_ts (eqb g) true (graves_from i m) ≡ 0
from_none g i zero h = refl
from_none g i (suc m) h =
    let e : eqb g i ≡ false = ne_eqb g i (λ z. ⊎_elim (λ p. omega arith) (λ p. omega arith) h) in
    let r = from_none g (suc i) m (⊎_elim (λ p. inl (omega arith)) (λ p. inr (omega arith)) h) in
    rw e (omega arith)

from_one : (g i m : ℕ) → i ≤ g → g < i + m → count_ts (eqb g) true (graves_from i m) ≡ 1
from_one g i zero h l = absurd (omega arith)
from_one g i (suc m) h l = go (eqb g i) refl (λ p. from_one g (suc i) m p (omega arith))
  where
    go : (b : Bool) → eqb g i ≡ b → (suc i ≤ g → count_ts (eqb g) true (graves_from (suc i) m) ≡ 1) → hit b true + count_ts (eqb g) true (graves_from (suc i) m) ≡ 1
    go true e ih = let z = from_none g (suc i) m (inl (let y = eqb-true g i e in omega arith)) in omega arith
    go false e ih = let z : i ≢ g = (λ y. eqb-false g i e (sym y)) in let w = ih (omega arith) in omega arith

-- The kind that lay everywhere, which counts all graves.
abbrev pub every : ℕ → Bool
every g = true

pub count_length : (l : List ℕ) → count every true l ≡ length l
count_length [] = refl
count_length (g ∷ l) = let z = count_length l in omega arith

from_length : (i m : ℕ) → count_ts every true (graves_from i m) ≡ m
from_length i zero = refl
from_length i (suc m) = let z = from_length (suc i) m in omega arith

start_from : (k : ℕ → Bool) (b : Bool) (n : ℕ) → 0 < n → count_t k b (start n) ≡ count_ts k b (graves_from 0 n)
start_from k b zero h = absurd (omega arith)
start_from k b (suc zero) h = omega arith
start_from k b (suc (suc m)) h = refl

pub start_whole : (n : ℕ) → 0 < n → (l : List ℕ) → Allows (start n) l → Whole n l
start_whole n h l p = record {
  long = sym (count_length l) ∙ allows_count every true p ∙ start_from every true n h ∙ from_length 0 n;
  once = λ g q. allows_count (eqb g) true p ∙ start_from (eqb g) true n h ∙ from_one g 0 n (omega arith) (omega arith);
  never = λ g q. allows_count (eqb g) true p ∙ start_from (eqb g) true n h ∙ from_none g 0 n (inr (omega arith));
}

-- So the row of an order has each grave once.
pub row_whole : (n : ℕ) → 0 < n → (o : Order n) (l : List ℕ) → RowOf n o l → Whole n l
row_whole n h o l r = start_whole n h l (row_start n h o l r)

-- ---- a row with each grave once is the row of an order, and each order has a row

-- The first place of a grave in a row.
abbrev first_place : ℕ → List ℕ → ℕ
first_place g [] = 0
first_place g (x ∷ l) = cond (eqb g x) 0 (suc (first_place g l))

first_place_is : (g d : ℕ) (l : List ℕ) → 1 ≤ count (eqb g) true l → (first_place g l < length l) × (get_or l (first_place g l) d ≡ g)
first_place_is g d [] h = absurd (omega arith)
first_place_is g d (x ∷ l) h = go (eqb g x) refl h (first_place_is g d l)
  where
    go : (b : Bool) → eqb g x ≡ b → 1 ≤ hit b true + count (eqb g) true l → (1 ≤ count (eqb g) true l → (first_place g l < length l) × (get_or l (first_place g l) d ≡ g)) →
        (cond b 0 (suc (first_place g l)) < suc (length l)) × (get_or (x ∷ l) (cond b 0 (suc (first_place g l))) d ≡ g)
    go true e h ih = (omega arith, sym (eqb-true g x e))
    go false e h ih = let r = ih (omega arith) in (omega (arith, r.0), r.1)

pub row_order : (n : ℕ) (l : List ℕ) → Whole n l → (o : Order n) × RowOf n o l
unfolding RowOf
row_order n l w = (
  record {
    place = λ g. first_place g l;
    within = λ g h. let y = w.long in omega (arith, (at g h).0);
    apart = λ g h p q e. sym (at g p).1 ∙ ap (λ (i : ℕ). get_or l i n) e ∙ (at h q).1;
  },
  (w.long, λ g h. (at g h).1),
)
  where
    at : (g : ℕ) → g < n → (first_place g l < length l) × (get_or l (first_place g l) n ≡ g)
    at g h = first_place_is g n l (let z = w.once g h in omega arith)

-- The row of an order, filled grave by grave: no grave takes the place of another.
abbrev pub fill : {n : ℕ} → Order n → ℕ → List ℕ
fill {n} o zero = replicate n n
fill {n} o (suc m) = set (fill o m) (o.place m) m

fill_length : {n : ℕ} (o : Order n) (m : ℕ) → length (fill o m) ≡ n
fill_length {n} o zero = length-replicate n n
fill_length {n} o (suc m) = length-set (fill o m) (o.place m) m ∙ fill_length o m

fill_at : {n : ℕ} (o : Order n) (m : ℕ) → m ≤ n → (g : ℕ) → g < m → get_or (fill o m) (o.place g) n ≡ g
fill_at {n} o zero h g l = absurd (omega arith)
fill_at {n} o (suc m) h g l = go (dec_lt g m) (fill_at o m (omega arith) g)
  where
    go : Dec (g < m) → (g < m → get_or (fill o m) (o.place g) n ≡ g) → get_or (set (fill o m) (o.place m) m) (o.place g) n ≡ g
    go (yes d) ih = let ne : o.place g ≢ o.place m = (λ e. let z = o.apart g m (omega arith) (omega arith) e in omega arith) in rw get_or-set_other (ih d)
    go (no d) ih =
        let z : g ≡ m = omega arith in
        let lt : o.place m < length (fill o m) = (let a = fill_length o m in let b = o.within m (omega arith) in omega arith) in
        rw z (rw get_or-set_same)

pub has_row : {n : ℕ} (o : Order n) → RowOf n o (fill o n)
unfolding RowOf
has_row {n} o = (fill_length o n, λ g h. fill_at o n (omega arith) g h)

-- ---- the theorem

graves_from_good : (i m : ℕ) → Goods (graves_from i m) × (len (graves_from i m) ≡ m)
graves_from_good i zero = (tt, refl)
graves_from_good i (suc m) = let r = graves_from_good (suc i) m in ((tt, r.0), (let z = r.1 in omega arith))

pub start_good : (n : ℕ) → 0 < n → Good (start n)
start_good zero h = absurd (omega arith)
start_good (suc zero) h = tt
start_good (suc (suc m)) h = let r = graves_from_good 0 (suc (suc m)) in (omega (arith, r.1), r.0)

-- Without kinds every order fits, and the tree without kinds allows just the rows of orders.
pub start_exact : (n : ℕ) → 0 < n → Exactly (record { graves = n; kinds = [] }) (start n)
unfolding Exactly Fits
start_exact n h = (
  (λ o l r. ((λ fit. row_start n h o l r), (λ p i d z. absurd (omega arith)))),
  (λ l p. row_order n l (start_whole n h l p)),
)
