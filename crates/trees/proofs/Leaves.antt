-- The graves of cells one after the other, which are those of the tree from left to right.
use Rattle.std.proofs.Common.{◌≡◌, ℕ, zero, suc, ◌+◌, ◌-◌, ◌/◌, ◌%◌, ◌^◌, ◌<◌, List, [], ◌∷◌, ◌++◌, length, take, drop, set, sym, refl, ap, ◌∙◌, subst, append_assoc, append-nil, add-zero, suc-add, pow-suc, zero-add, arith, length-append}
use lib.Count.{count_trailing_zeros, under}
use Rattle.std.proofs.lemmas.List.{take-append-drop, take_more_set}
use Rattle.finds.specs.Trees.{Tree, grave, any, row, Trees, none, more, graves, all_graves}
use Rattle.trees.specs.Cells.{nodes, all_nodes, size, sizes, Sound, Sounds, Cells, Body, Ats, Holds}
use Rattle.trees.proofs.Sets.{sound_kids, sounds_first, sounds_rest, grave_small}
use Rattle.trees.proofs.Writing.{kept_more}

-- The grave of a power of two.
pub trailing_pow : (k g : ℕ) → g < k → count_trailing_zeros k (2 ^ g) ≡ g
unfolding count_trailing_zeros
trailing_pow zero g h = absurd (omega arith)
trailing_pow (suc k) zero h = refl
trailing_pow (suc k) (suc g) h =
    let e = pow-suc 2 g in
    let z : 2 ^ suc g % 2 ≡ 0 = omega arith in
    let d : 2 ^ suc g / 2 ≡ 2 ^ g = omega arith in
    ap (λ (x : ℕ). under x (count_trailing_zeros k (2 ^ suc g / 2))) z ∙ ap (λ (x : ℕ). suc (count_trailing_zeros k x)) d ∙ ap suc (trailing_pow k g (omega arith))

-- What a cell of this sort and with this set adds: its grave, if it is one.
abbrev pub own : ℕ → ℕ → List ℕ
own zero s = count_trailing_zeros 64 s ∷ []
own (suc x) s = []

-- The graves of m cells from cell i on.
abbrev pub leaves : Cells → ℕ → ℕ → List ℕ
leaves R i zero = []
leaves R i (suc m) = own (R.sort i) (R.set i) ++ leaves R (suc i) m

pub leaves_plus : (R : Cells) (i m k : ℕ) → leaves R i (m + k) ≡ leaves R i m ++ leaves R (i + m) k
leaves_plus R i zero k = ap (leaves R i) (zero-add k) ∙ ap (λ (x : ℕ). leaves R x k) (sym (add-zero i))
leaves_plus R i (suc m) k =
    let one = own (R.sort i) (R.set i) in
    ap (leaves R i) (suc-add m k) ∙ ap (λ (x : List ℕ). one ++ x) (leaves_plus R (suc i) m k) ∙ sym (append_assoc one (leaves R (suc i) m) (leaves R (suc i + m) k))
    ∙ ap (λ (x : ℕ). (one ++ leaves R (suc i) m) ++ leaves R x k) (omega arith)

mutual
  leaves_body : (R : Cells) (i : ℕ) (t : Tree) → Body R i t → Sound t → leaves R i (nodes t) ≡ graves t
  leaves_body R i (grave g) b s = ap (λ (x : ℕ). own x (R.set i) ++ []) b.0 ∙ ap (λ (x : ℕ). x ∷ []) (ap (count_trailing_zeros 64) b.1 ∙ trailing_pow 64 g (grave_small g s))
  leaves_body R i (any ts) b s = ap (λ (x : ℕ). own x (R.set i) ++ leaves R (suc i) (all_nodes ts)) b.0 ∙ leaves_ats R (suc i) i 0 ts b.2 (sound_kids (any ts) s)
  leaves_body R i (row ts) b s = ap (λ (x : ℕ). own x (R.set i) ++ leaves R (suc i) (all_nodes ts)) b.0 ∙ leaves_ats R (suc i) i 0 ts b.2 (sound_kids (row ts) s)

  leaves_ats : (R : Cells) (i p q : ℕ) (ts : Trees) → Ats R i p q ts → Sounds ts → leaves R i (all_nodes ts) ≡ all_graves ts
  leaves_ats R i p q none a s = refl
  leaves_ats R i p q (more t ts) a s =
      leaves_plus R i (nodes t) (all_nodes ts) ∙ ap (λ (x : List ℕ). x ++ leaves R (i + nodes t) (all_nodes ts)) (leaves_body R i t a.2 (sounds_first t ts s))
      ∙ ap (λ (x : List ℕ). graves t ++ x) (leaves_ats R (i + nodes t) p (suc q) ts a.3 (sounds_rest t ts s))

mutual
  graves_size : (t : Tree) → length (graves t) ≡ size t
  graves_size (grave g) = refl
  graves_size (any ts) = all_graves_size ts
  graves_size (row ts) = all_graves_size ts

  all_graves_size : (ts : Trees) → length (all_graves ts) ≡ sizes ts
  all_graves_size none = refl
  all_graves_size (more t ts) = let a = length-append (graves t) (all_graves ts) in let b = graves_size t in let c = all_graves_size ts in omega arith

pub leaves_all : (R : Cells) (n : ℕ) (t : Tree) → Holds R n t → Sound t → (leaves R 0 n ≡ graves t) × (length (leaves R 0 n) ≡ size t)
leaves_all R n t h s =
    let e = ap (leaves R 0) h.many ∙ leaves_body R 0 t h.body s in (e, ap length e ∙ graves_size t)

-- ---- read cell by cell

-- The graves of the first i cells stand in front of the list, `at` of them, and behind them it is as before.
pub record Read (R : Cells) (i at : ℕ) (before out : List ℕ) : Type 0 where
  pub front : take at out ≡ leaves R 0 i
  pub many : at ≡ length (leaves R 0 i)
  pub rest : drop at out ≡ drop at before

leaves_next : (R : Cells) (i : ℕ) → leaves R 0 (i + 1) ≡ leaves R 0 i ++ own (R.sort i) (R.set i)
leaves_next R i =
    leaves_plus R 0 i 1 ∙ ap (λ (x : ℕ). leaves R 0 i ++ (own (R.sort x) (R.set x) ++ [])) (zero-add i) ∙ ap (λ (x : List ℕ). leaves R 0 i ++ x) (append-nil (own (R.sort i) (R.set i)))

pub read_grave : {R : Cells} {i at at' : ℕ} {before out out' : List ℕ} → Read R i at before out → R.sort i ≡ 0 → at < length out → at' ≡ at + 1 → out' ≡ set out at (count_trailing_zeros 64 (R.set i)) → Read R (i + 1) at' before out'
read_grave {R} {i} {at} {at'} {before} {out} {out'} r e l a o = record {
  front = ap (λ (x : ℕ). take x out') a ∙ ap (take (at + 1)) o ∙ take_more_set out at g l ∙ ap (λ (x : List ℕ). x ++ (g ∷ [])) r.front ∙ sym next;
  many = (let b = ap length next in let c = length-append (leaves R 0 i) (g ∷ []) in let d = r.many in omega arith);
  rest = ap (λ (x : ℕ). drop x out') a ∙ ap (drop (at + 1)) o ∙ kept_more at g out before r.rest ∙ ap (λ (x : ℕ). drop x before) (sym a);
}
  where
    g : ℕ
    g = count_trailing_zeros 64 (R.set i)

    next : leaves R 0 (i + 1) ≡ leaves R 0 i ++ (g ∷ [])
    next = leaves_next R i ∙ ap (λ (x : ℕ). leaves R 0 i ++ own x (R.set i)) e

pub read_other : {R : Cells} {i at at' : ℕ} {before out out' : List ℕ} → Read R i at before out → (R.sort i ≡ 0 → ⊥) → at' ≡ at → out' ≡ out → Read R (i + 1) at' before out'
read_other {R} {i} {at} {at'} {before} {out} {out'} r n a o =
    rw (a, o) (record { front = r.front ∙ sym next; many = r.many ∙ ap length (sym next); rest = r.rest })
  where
    none_here : (s : ℕ) → R.sort i ≡ s → own s (R.set i) ≡ []
    none_here zero e = absurd (n e)
    none_here (suc s) e = refl

    next : leaves R 0 (i + 1) ≡ leaves R 0 i
    next = leaves_next R i ∙ ap (λ (x : List ℕ). leaves R 0 i ++ x) (none_here (R.sort i) refl) ∙ append-nil (leaves R 0 i)

-- Before a grave is read, fewer are read than there are in all.
pub read_fewer : {R : Cells} {i at : ℕ} {before out : List ℕ} (n : ℕ) → Read R i at before out → R.sort i ≡ 0 → i < n → at < length (leaves R 0 n)
read_fewer {R} {i} n r e l =
    let k = n - (i + 1) in
    let m : n ≡ i + 1 + k = omega arith in
    let a = ap (λ (x : ℕ). length (leaves R 0 x)) m ∙ ap length (leaves_plus R 0 (i + 1) k) in
    let b = length-append (leaves R 0 (i + 1)) (leaves R (0 + (i + 1)) k) in
    let c = ap length (leaves_next R i ∙ ap (λ (x : ℕ). leaves R 0 i ++ own x (R.set i)) e) in
    let d = length-append (leaves R 0 i) (count_trailing_zeros 64 (R.set i) ∷ []) in
    let f = r.many in
    omega arith

pub read_all : {R : Cells} {i at : ℕ} {before out : List ℕ} → Read R i at before out → (n : ℕ) → i ≡ n → (t : Tree) → Holds R n t → Sound t → (at ≡ size t) × (out ≡ graves t ++ drop at before)
read_all {R} {at = at} {before = before} {out = out} r n e t h s =
    let a = leaves_all R _ t (subst (λ (x : ℕ). Holds R x t) (sym e) h) s in
    (r.many ∙ a.1, sym (take-append-drop at out) ∙ ap (λ (x : List ℕ). x ++ drop at out) (r.front ∙ a.0) ∙ ap (λ (x : List ℕ). graves t ++ x) r.rest)
