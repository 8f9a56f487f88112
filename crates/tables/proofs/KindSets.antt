-- The sets of graves of the kinds in bytes, one kind after the other.
use Rattle.std.proofs.Common.{◌≡◌, ℕ, zero, suc, ◌+◌, ◌*◌, ◌/◌, ◌<◌, ◌≤◌, List, [], ◌∷◌, length, get_or, take, drop, sym, refl, ap, ap₂, ◌∙◌, arith, rules, length-drop}
use Rattle.std.proofs.lemmas.List.{places, get_or-drop, drop_more}
use Rattle.std.specs.Iterator.{YieldsFirst}
use Rattle.std.specs.Iterator.Runs.{YieldsInOrder}
use Rattle.std.proofs.iter.runs.Sources.{from_front, as_is}
use Rattle.tables.specs.Kinds.{sets_left}
use Rattle.tables.specs.declared.kinds.Kinds.{Kinds}
use Rattle.tables.specs.Format.{word_at, kind_set, sets_from, sets_in}

pub sets_length : (bs : List ℕ) (i m : ℕ) → length (sets_from bs i m) ≡ m
sets_length bs i zero = refl
sets_length bs i (suc m) = let z = sets_length bs (suc i) m in omega arith

pub sets_at : (bs : List ℕ) (i m j h : ℕ) → j < m → h ≡ i + j → get_or (sets_from bs i m) j 0 ≡ kind_set bs h
sets_at bs i zero j h l e = absurd (omega arith)
sets_at bs i (suc m) zero h l e = let z : i ≡ h = omega arith in ap (kind_set bs) z
sets_at bs i (suc m) (suc j) h l e = sets_at bs (suc i) m j h (omega arith) (omega arith)

-- Of all kinds in the bytes the sets are those by their places, and there are as many as whole kinds.
pub all_length : (bs : List ℕ) → length (sets_in bs) ≡ length bs / 8
unfolding sets_in
all_length bs = sets_length bs 0 (length bs / 8)

pub all_at : (bs : List ℕ) (i : ℕ) → i < length bs / 8 → get_or (sets_in bs) i 0 ≡ kind_set bs i
unfolding sets_in
all_at bs i h = sets_at bs 0 (length bs / 8) i i h (omega arith)

-- ---- the bytes behind the first kind

-- Each kind of them is the next of all.
byte_behind : (bs : List ℕ) (i j : ℕ) → j ≡ 8 + i → get_or (drop 8 bs) i 0 ≡ get_or bs j 0
byte_behind bs i j e = let z : 8 + i ≡ j = omega arith in get_or-drop 8 bs i 0 ∙ ap (λ (k : ℕ). get_or bs k 0) z

set_behind : (bs : List ℕ) (i : ℕ) → kind_set (drop 8 bs) i ≡ kind_set bs (suc i)
unfolding kind_set
set_behind bs i =
    let at = λ (k : ℕ). byte_behind bs (8 * i + k) (8 * suc i + k) (omega arith) in
    let z = byte_behind bs (8 * i) (8 * suc i) (omega arith) in
    omega (arith, at 1, at 2, at 3, at 4, at 5, at 6, at 7)

sets_behind : (bs : List ℕ) (i m : ℕ) → sets_from (drop 8 bs) i m ≡ sets_from bs (suc i) m
sets_behind bs i zero = refl
sets_behind bs i (suc m) = ap₂ (λ (s : ℕ) (ss : List ℕ). s ∷ ss) (set_behind bs i) (sets_behind bs (suc i) m)

first_behind : (bs : List ℕ) → 8 ≤ length bs → sets_in bs ≡ word_at bs 0 ∷ sets_in (drop 8 bs)
unfolding sets_in kind_set
first_behind bs h =
    let n = length (drop 8 bs) / 8 in
    let e : length bs / 8 ≡ suc n = simp length-drop (omega arith) in
    let z = sets_behind bs 0 n in
    rw e (ap (λ (ss : List ℕ). word_at bs 0 ∷ ss) (sym z))

-- Fewer than eight bytes have no kind.
pub none_left : (bs : List ℕ) → length bs < 8 → sets_in bs ≡ []
unfolding sets_in
none_left bs h = let e : length bs / 8 ≡ 0 = omega arith in rw e refl

-- The first kind is in the first eight bytes.
first_word : (bs : List ℕ) → word_at (take 8 bs) 0 ≡ word_at bs 0
first_word bs = search (rules, places)

-- A step gives the first kind and leaves the others.
pub first_left : (bs first rest : List ℕ) (s : ℕ) → 8 ≤ length bs → first ≡ take 8 bs → rest ≡ drop 8 bs → s ≡ word_at first 0 → sets_in bs ≡ s ∷ sets_in rest
first_left bs first rest s h e g w =
    let a = first_behind bs h in let b = first_word bs in let d = ap (λ (l : List ℕ). word_at l 0) e in let x = ap sets_in g in
    a ∙ ap₂ (λ (s : ℕ) (ss : List ℕ). s ∷ ss) (sym (w ∙ d ∙ b)) (sym x)

-- The iterator over kinds gives the sets that it has left, in order.
pub sets_run : YieldsInOrder (YieldsFirst sets_left) sets_left
sets_run p s = as_is p (sets_left p.from) (from_front (YieldsFirst sets_left) (λ x. x) sets_left (λ s t h. ap length h.0) (λ s x t h. h) p s)

-- ---- an iterator on its way

-- The first i kinds were given.
pub record Behind (bs : List ℕ) (i : ℕ) (kinds : Kinds) : Type 0 where
  pub left : sets_left kinds ≡ drop i (sets_in bs)
  pub low : i ≤ length bs / 8

module _ {bs : List ℕ} {i : ℕ} {kinds : Kinds} (b : Behind bs i kinds) where
  rest_length : length (sets_left kinds) + i ≡ length bs / 8
  rest_length = let z = b.low in let y = b.left in omega (arith, ap length b.left, length-drop i (sets_in bs), all_length bs)

  -- Where the next is given, it is the one of this number.
  pub behind_next : (s at next : ℕ) (after : Kinds) → sets_left kinds ≡ s ∷ sets_left after → at ≡ i → next ≡ i + 1 → (at < length bs / 8) × (s ≡ kind_set bs at) × Behind bs next after
  behind_next s at next after e q n =
      let long = ap length e in let low : i < length bs / 8 = omega (arith, rest_length) in
      let z = all_length bs in
      let parts : drop i (sets_in bs) ≡ get_or (sets_in bs) i 0 ∷ drop (i + 1) (sets_in bs) = drop_more (sets_in bs) i 0 (omega arith) in
      let both = sym e ∙ b.left ∙ parts in
      let this = all_at bs i low in let same = ap (kind_set bs) q in let rest = ap (λ (k : ℕ). drop k (sets_in bs)) n in
      (omega arith, cc, record { left = cc; low = omega arith })

  -- Where none is left, all were given.
  pub behind_all : sets_left kinds ≡ [] → i ≡ length bs / 8
  behind_all e = omega (arith, rest_length, ap length e)
