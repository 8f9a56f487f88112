-- There are n (n - 1) pairs of different graves, so no ring and no queue of such pairs, none twice, is longer.
use Rattle.std.proofs.Common.{ℕ, suc, ◌-◌, ◌*◌, ◌<◌, ◌≤◌, ◌≢◌, List, [], ◌∷◌, length, sym, refl, ◌∙◌, arith}
use mathlib.Core.Logic.Dec
use Rattle.std.specs.List.{AllByRecursion}
use Rattle.std.proofs.ByRecursion.{All-from_get_or}
use Rattle.finds.specs.Finds.{Finds, Pair}
use Rattle.clashes.specs.Colours.{pair, Proper}
use Rattle.clashes.specs.Rings.{at, Lacks, Once}
use Rattle.clashes.specs.Theorems.{RingShort}
use Rattle.clashes.proofs.Clashes.{same_pair, first_of, second_of, joint_left}
use Rattle.clashes.proofs.Counts.{sum, sum_le, sum_lt, sum_same, one_if, one_if_le, one_if_lt, count, count_few}

-- No pair stands twice in a list, said by places, as an array holds it.
pub once_at : (l : List Pair) → ((i j : ℕ) → i < j → j < length l → at l i ≢ at l j) → Once l
once_at [] h = tt
once_at (p ∷ l) h =
    (All-from_get_or (λ q. p ≢ q) l (pair 0 0) (λ i k. h 0 (suc i) (omega arith) (omega arith)), once_at l (λ i j k m. h (suc i) (suc j) (omega arith) (omega arith)))

lacks? : (p : Pair) (l : List Pair) → Dec (Lacks p l)
lacks? p [] = yes tt
lacks? p (q ∷ l) = Dec.and (Dec.not (same_pair p q)) (lacks? p l)

module _ (f : Finds) where
  -- Whether a pair stands in the list.
  abbrev in? : (l : List Pair) (a b : ℕ) → Dec (Lacks (pair a b) l → ⊥)
  in? l a b = Dec.not (lacks? (pair a b) l)

  -- How many pairs that begin with a are in the list, and how many are in it altogether.
  abbrev row : List Pair → ℕ → ℕ
  row l a = count (in? l a) f.graves

  abbrev total : List Pair → ℕ
  total l = sum (row l) f.graves

  -- As many as it is long, at least: each pair more makes one row larger, and none smaller.
  at_least : (l : List Pair) → Once l → AllByRecursion (Proper f) l → length l ≤ total l
  at_least [] o h = omega arith
  at_least (p ∷ l) o h = let below = at_least l o.1 h.1 in omega (arith, more)
    where
      still : (a b : ℕ) → one_if (in? l a b) ≤ one_if (in? (p ∷ l) a b)
      still a b = one_if_le (in? l a b) (in? (p ∷ l) a b) (λ k m. k m.1)

      more : total l < total (p ∷ l)
      more = sum_lt (row l) (row (p ∷ l)) f.graves p.first
          (λ a _. sum_le (λ b. one_if (in? l a b)) (λ b. one_if (in? (p ∷ l) a b)) f.graves (λ b _. still a b)) h.0.0
          (sum_lt (λ b. one_if (in? l p.first b)) (λ b. one_if (in? (p ∷ l) p.first b)) f.graves p.second (λ b _. still p.first b) h.0.1
          (one_if_lt (in? l p.first p.second) (in? (p ∷ l) p.first p.second) (λ k. k o.0) (λ m. m.0 refl)))

  -- No grave is paired with itself, so that each row has fewer than n.
  no_self : (a : ℕ) (l : List Pair) → AllByRecursion (Proper f) l → Lacks (pair a a) l
  no_self a [] h = tt
  no_self a (q ∷ l) h = ((λ e. h.0.2 (sym (first_of e) ∙ second_of e)), no_self a l h.1)

  -- So there is room for a queue, and in it for a pair more that it lacks: with that pair it is still no longer.
  pub pairs_few : (l : List Pair) → Once l → AllByRecursion (Proper f) l → length l ≤ f.graves * (f.graves - 1)
  pairs_few l o h =
      let few : (a : ℕ) → a < f.graves → row l a ≤ f.graves - 1 = λ a la. (let z = count_few (in? l a) f.graves a la (λ k. k (no_self a l h)) in omega arith) in
      let x = at_least l o h in let y = sum_le (row l) (λ _. f.graves - 1) f.graves few in let z = sum_same (f.graves - 1) f.graves in omega arith

pub ring_short : RingShort
ring_short f r = pairs_few f r.pairs r.once (All-from_get_or (Proper f) r.pairs (pair 0 0) (λ i h. joint_left (r.closes i h)))
