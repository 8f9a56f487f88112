-- The set of a tree's graves: its bits, and that the ones under a mask are the graves with a kind.
use Rattle.std.proofs.Common.{◌≡◌, ℕ, ◌+◌, ◌^◌, ◌<◌, ◌≤◌, min, Bool, true, false, eqb, ◌⊎◌, sym, refl, ap, ◌∙◌, inl, inr, arith}
use lib.Bits.{bit_and, bit_or, or_lt, or_comm, and_self}
use lib.Count.{ones, ones-le}
use lib.Pow.{pow-lt}
use Rattle.std.proofs.lemmas.Bool.{cases_lt}
use Rattle.std.proofs.lemmas.Bool.Decides.{eqb_tells}
use Rattle.finds.specs.Trees.{Tree, grave, any, row, Trees, none, more, len, Goods}
use Rattle.finds.specs.Branches.{◌+++◌}
use Rattle.finds.specs.Counts.{hit, count_t, count_ts}
use Rattle.finds.specs.Sets.{bit}
use Rattle.finds.proofs.Counts.{count_ts_plus}
use Rattle.trees.specs.Cells.{nodes, size, sizes, set_of, sets_of, kids, Sound, Sounds}
use Rattle.trees.specs.Masks.{Mask}
use Rattle.finds.proofs.Bits.{bit_zero, bit_of_or, bit_pow, bit_pow_other, bit_ext, or_assoc, ones_none, ones_plus, ones_or, ones_pow}
use Rattle.trees.proofs.Cells.{few_nodes, all_few_nodes, len_nodes}

-- ---- sound trees and their branches

pub sound_kids : (t : Tree) → Sound t → Sounds (kids t)
sound_kids (grave g) s = record { good = tt; once = λ g. omega arith; small = λ g l. refl }
sound_kids (any ts) s = record { good = s.good.1; once = s.once; small = s.small }
sound_kids (row ts) s = record { good = s.good.1; once = s.once; small = s.small }

goods_cut : (x y : Trees) → Goods (x +++ y) → Goods x × Goods y
goods_cut none y h = (tt, h)
goods_cut (more t x) y h = let r = goods_cut x y h.1 in ((h.0, r.0), r.1)

pub sounds_cut : (x y : Trees) → Sounds (x +++ y) → Sounds x × Sounds y
sounds_cut x y s = (
  record { good = g.0; once = λ g. let z = sum g in let o = s.once g in omega arith; small = λ g l. let z = sum g in let o = s.small g l in omega arith },
  record { good = g.1; once = λ g. let z = sum g in let o = s.once g in omega arith; small = λ g l. let z = sum g in let o = s.small g l in omega arith },
)
  where
    g : Goods x × Goods y
    g = goods_cut x y s.good

    sum : (g : ℕ) → count_ts (eqb g) true (x +++ y) ≡ count_ts (eqb g) true x + count_ts (eqb g) true y
    sum g = count_ts_plus (eqb g) true x y

pub sounds_first : (t : Tree) (ts : Trees) → Sounds (more t ts) → Sound t
sounds_first t ts s = record { good = s.good.0; once = λ g. let o = s.once g in omega arith; small = λ g l. let o = s.small g l in omega arith }

pub sounds_rest : (t : Tree) (ts : Trees) → Sounds (more t ts) → Sounds ts
sounds_rest t ts s = record { good = s.good.1; once = λ g. let o = s.once g in omega arith; small = λ g l. let o = s.small g l in omega arith }

-- ---- the bits of a set

-- The bit of a grave is set if the grave is there.
mutual
  pub bit_set : (g : ℕ) (t : Tree) → bit g (set_of t) ≡ min 1 (count_t (eqb g) true t)
  bit_set g (grave x) = go (eqb_tells g x)
    where
      go : ((eqb g x ≡ true) × (g ≡ x)) ⊎ ((eqb g x ≡ false) × (g ≡ x → ⊥)) → bit g (2 ^ x) ≡ min 1 (hit (eqb g x) true)
      go (inl (e, s)) = rw (e, ← s) (bit_pow g)
      go (inr (e, n)) = rw e (bit_pow_other g x n)
  bit_set g (any ts) = bit_sets g ts
  bit_set g (row ts) = bit_sets g ts

  pub bit_sets : (g : ℕ) (ts : Trees) → bit g (sets_of ts) ≡ min 1 (count_ts (eqb g) true ts)
  bit_sets g none = bit_zero g
  bit_sets g (more t ts) = let e = bit_of_or g (set_of t) (sets_of ts) in let x = bit_set g t in let y = bit_sets g ts in omega arith

-- Trees with the same graves have the same set.
pub same_set : (t u : Tree) → ((g : ℕ) → count_t (eqb g) true t ≡ count_t (eqb g) true u) → set_of t ≡ set_of u
same_set t u f = bit_ext (set_of t) (set_of u) (λ g. let x = bit_set g t in let y = bit_set g u in let e = f g in omega arith)

pub sets_plus : (x y : Trees) → sets_of (x +++ y) ≡ bit_or (sets_of x) (sets_of y)
sets_plus none y = refl
sets_plus (more t x) y = ap (bit_or (set_of t)) (sets_plus x y) ∙ sym (or_assoc (set_of t) (sets_of x) (sets_of y))

-- The union of branches, one branch more.
pub sets_more : (ts : Trees) (t : Tree) → sets_of (ts +++ more t none) ≡ bit_or (sets_of ts) (set_of t)
sets_more ts t = sets_plus ts (more t none) ∙ ap (bit_or (sets_of ts)) (or_comm (set_of t) 0)

-- ---- counts of ones

-- A sound grave is below 64.
pub grave_small : (x : ℕ) → Sound (grave x) → x < 64
grave_small x s = go (cases_lt x 64) (eqb_tells x x) (s.small x)
  where
    go : (x < 64) ⊎ (64 ≤ x) → ((eqb x x ≡ true) × (x ≡ x)) ⊎ ((eqb x x ≡ false) × (x ≡ x → ⊥)) → (64 ≤ x → hit (eqb x x) true ≡ 0) → x < 64
    go (inl l) e f = l
    go (inr l) (inl (e, r)) f = absurd (let z : hit (eqb x x) true ≡ 1 = rw e in let y = f l in omega arith)
    go (inr l) (inr (e, n)) f = absurd (n refl)

mutual
  pub set_fits : (t : Tree) → Sound t → set_of t < 2 ^ 64
  set_fits (grave x) s = pow-lt (grave_small x s)
  set_fits (any ts) s = sets_fit ts (sound_kids (any ts) s)
  set_fits (row ts) s = sets_fit ts (sound_kids (row ts) s)

  pub sets_fit : (ts : Trees) → Sounds ts → sets_of ts < 2 ^ 64
  sets_fit none s = omega arith
  sets_fit (more t ts) s = or_lt 64 (set_of t) (sets_of ts) (set_fits t (sounds_first t ts s)) (sets_fit ts (sounds_rest t ts s))

-- Different branches have no grave in common.
pub apart : (t : Tree) (ts : Trees) → Sounds (more t ts) → (g : ℕ) → bit g (set_of t) + bit g (sets_of ts) ≤ 1
apart t ts s g = let x = bit_set g t in let y = bit_sets g ts in let o = s.once g in omega arith

-- The ones under a mask are the graves with the kind, or without it.
mutual
  pub set_count : (k : ℕ → Bool) (b : Bool) (t : Tree) (m : ℕ) → Sound t → Mask k b m → ones (bit_and (set_of t) m) ≡ count_t k b t
  set_count k b (grave x) m s w = ones_pow x m ∙ w x (grave_small x s)
  set_count k b (any ts) m s w = sets_count k b ts m (sound_kids (any ts) s) w
  set_count k b (row ts) m s w = sets_count k b ts m (sound_kids (row ts) s) w

  pub sets_count : (k : ℕ → Bool) (b : Bool) (ts : Trees) (m : ℕ) → Sounds ts → Mask k b m → ones (bit_and (sets_of ts) m) ≡ count_ts k b ts
  sets_count k b none m s w = ones_none
  sets_count k b (more t ts) m s w =
      let e = ones_or (set_of t) (sets_of ts) m (apart t ts s) in
      let x = set_count k b t m (sounds_first t ts s) w in
      let y = sets_count k b ts m (sounds_rest t ts s) w in
      omega arith

-- A set has as many ones as the tree has graves.
mutual
  pub set_size : (t : Tree) → Sound t → ones (set_of t) ≡ size t
  set_size (grave x) s = ap ones (sym (and_self (2 ^ x))) ∙ ones_pow x (2 ^ x) ∙ bit_pow x
  set_size (any ts) s = sets_size ts (sound_kids (any ts) s)
  set_size (row ts) s = sets_size ts (sound_kids (row ts) s)

  pub sets_size : (ts : Trees) → Sounds ts → ones (sets_of ts) ≡ sizes ts
  sets_size none s = ones_none
  sets_size (more t ts) s =
      let e = ones_plus (set_of t) (sets_of ts) (apart t ts s) in let x = set_size t (sounds_first t ts s) in let y = sets_size ts (sounds_rest t ts s) in omega arith

pub few_graves : (t : Tree) → Sound t → size t ≤ 64
few_graves t s = let e = set_size t s in let l = ones-le 64 (set_of t) (set_fits t s) in omega arith

pub few_branches : (ts : Trees) → Sounds ts → len ts ≤ 64
few_branches ts s =
    let e = sets_size ts s in let l = ones-le 64 (sets_of ts) (sets_fit ts s) in let m = all_few_nodes ts s.good in let n = len_nodes ts in omega arith

pub few_cells : (t : Tree) → Sound t → nodes t ≤ 127
few_cells t s = let l = few_graves t s in let m = few_nodes t s.good in omega arith
