-- The pairs of a ring's bytes, by their places.
use Rattle.std.proofs.Common.{◌≡◌, ℕ, zero, suc, ◌+◌, ◌*◌, ◌/◌, ◌%◌, ◌<◌, ◌≤◌, List, [], ◌∷◌, ◌++◌, map, length, get_or, set, sym, refl, ap, ◌∙◌, arith, below_more}
use Rattle.std.proofs.lemmas.List.{length-set, length-map, get_or-set_same, get_or-set_other, get_or-map, ext_get_or}
use Rattle.finds.specs.Finds.{Pair}
use Rattle.clashes.specs.Colours.{pair}
use Rattle.clashes.specs.Rings.{at}
use Rattle.grounds.specs.Checking.{pairs_of}
use Rattle.grounds.specs.Notes.{numbered}

pub pairs_length : (l : List ℕ) → length (pairs_of l) ≡ length l / 2
pairs_length [] = refl
pairs_length (a ∷ []) = refl
pairs_length (a ∷ (b ∷ l)) = let z = pairs_length l in omega arith

-- The pair at a place has the two bytes from twice the place on.
pub pairs_at : (l : List ℕ) (i : ℕ) → i < length l / 2 → pair (get_or l (2 * i) 0) (get_or l (2 * i + 1) 0) ≡ at (pairs_of l) i
pairs_at [] i h = absurd (omega arith)
pairs_at (a ∷ []) i h = absurd (omega arith)
pairs_at (a ∷ (b ∷ l)) zero h = refl
pairs_at (a ∷ (b ∷ l)) (suc i) h =
    let e : 2 * suc i ≡ suc (suc (2 * i)) = omega arith in let g : 2 * suc i + 1 ≡ suc (suc (2 * i + 1)) = omega arith in
    (λ j. pair (get_or (a ∷ (b ∷ l)) (e j) 0) (get_or (a ∷ (b ∷ l)) (g j) 0)) ∙ pairs_at l i (omega arith)

-- The pairs of bytes and more bytes, if the first are whole pairs.
pub pairs_append : (m : ℕ) (a b : List ℕ) → length a ≡ 2 * m → pairs_of (a ++ b) ≡ pairs_of a ++ pairs_of b
pairs_append zero [] b e = refl
pairs_append zero (x ∷ a) b e = absurd (omega arith)
pairs_append (suc m) [] b e = absurd (omega arith)
pairs_append (suc m) (x ∷ []) b e = absurd (omega arith)
pairs_append (suc m) (x ∷ (y ∷ a)) b e = ap (λ (l : List Pair). pair x y ∷ l) (pairs_append m a b (omega arith))

-- ---- pairs written by their numbers

-- The pairs with the first i numbers are written.
abbrev pub Written : ℕ → List ℕ → List ℕ → ℕ → Type 0
Written n cells bytes i = (k : ℕ) → k < i → (get_or bytes (2 * k) 0 ≡ get_or cells k 0 / n) × (get_or bytes (2 * k + 1) 0 ≡ get_or cells k 0 % n)

module _ (n : ℕ) (cells bytes : List ℕ) (i : ℕ) (w : Written n cells bytes i) where
  pub written_more : 2 * i + 1 < length bytes → Written n cells (set (set bytes (2 * i) (get_or cells i 0 / n)) (2 * i + 1) (get_or cells i 0 % n)) (i + 1)
  written_more l = below_more (λ k. (get_or ys (2 * k) 0 ≡ get_or cells k 0 / n) × (get_or ys (2 * k + 1) 0 ≡ get_or cells k 0 % n)) i
      (λ k h. (
        get_or-set_other xs (2 * i + 1) (2 * k) second 0 (omega arith) ∙ get_or-set_other bytes (2 * i) (2 * k) first 0 (omega arith) ∙ (w k h).0,
        get_or-set_other xs (2 * i + 1) (2 * k + 1) second 0 (omega arith) ∙ get_or-set_other bytes (2 * i) (2 * k + 1) first 0 (omega arith) ∙ (w k h).1,
      )) (
        get_or-set_other xs (2 * i + 1) (2 * i) second 0 (omega arith) ∙ get_or-set_same bytes (2 * i) first 0 (omega arith),
        get_or-set_same xs (2 * i + 1) second 0 (let z = length-set bytes (2 * i) first in omega arith),
      )
    where
      first : ℕ
      first = get_or cells i 0 / n

      second : ℕ
      second = get_or cells i 0 % n

      xs : List ℕ
      xs = set bytes (2 * i) first

      ys : List ℕ
      ys = set xs (2 * i + 1) second

  pub written_all : length cells ≤ i → length bytes ≡ 2 * length cells → pairs_of bytes ≡ map (numbered n) cells
  written_all l e =
      let a = pairs_length bytes in let b = length-map cells (numbered n) in
      ext_get_or (pair 0 0) (pairs_of bytes) (map (numbered n) cells) (omega arith)
      (λ k h. sym (pairs_at bytes k (omega arith)) ∙ (λ j. pair ((w k (omega arith)).0 j) ((w k (omega arith)).1 j)) ∙ sym (get_or-map (numbered n) cells k 0 (pair 0 0) (omega arith)))
