-- The pairs of a ring's bytes, where the bytes are cut two by two.
use Rattle.std.proofs.Common.{◌≡◌, ℕ, zero, suc, ◌/◌, ◌<◌, List, [], ◌∷◌, length, get_or, MatchOption, None, Some, Option, ◌↔◌, refl, sym, ap, ◌∙◌, subst, arith}
use Rattle.std.specs.Simd.{first_chunks}
use Rattle.finds.specs.Finds.{Finds, Pair}
use Rattle.clashes.specs.Colours.{pair}
use Rattle.clashes.specs.Rings.{Joint, after, at}
use Rattle.grounds.specs.Checking.{pairs_of, Ill, WellBelow, FirstIll, GoodRing, HoldsOn}
use Rattle.grounds.proofs.Clashing.{held}

-- The pair of two bytes.
abbrev pub of_two : List ℕ → Pair
of_two bytes = pair (get_or bytes 0 0) (get_or bytes 1 0)

pub chunk_pair : (l : List ℕ) (m i : ℕ) (d : List ℕ) → m ≡ length l / 2 → i < m → of_two (get_or (first_chunks 2 m l) i d) ≡ at (pairs_of l) i
chunk_pair [] m i d e h = absurd (omega arith)
chunk_pair (a ∷ []) m i d e h = absurd (omega arith)
chunk_pair (a ∷ (b ∷ l)) zero i d e h = absurd (omega arith)
chunk_pair (a ∷ (b ∷ l)) (suc m) zero d e h = refl
chunk_pair (a ∷ (b ∷ l)) (suc m) (suc i) d e h = chunk_pair l m i d (omega arith) (omega arith)

-- The first ill pair of the bytes cut so is the first ill pair of the ring.
abbrev pub IllChunk : ℕ → List ℕ → ℕ → Type 0
IllChunk n l i = Ill n (of_two (get_or (first_chunks 2 (length l / 2) l) i []))

pub first_ill : (n : ℕ) (l : List ℕ) (r : Option ℕ) → MatchOption r ((i : ℕ) → i < length l / 2 → IllChunk n l i → ⊥) (λ at. (at < length l / 2) × IllChunk n l at × ((i : ℕ) → i < at → IllChunk n l i → ⊥))
    → MatchOption r (WellBelow n l (length l / 2)) (FirstIll n l)
first_ill n l None none = λ j h t. none j h (subst (Ill n) (sym (chunk_pair l (length l / 2) j [] refl h)) t)
first_ill n l (Some i) f = (
  f.0,
  subst (Ill n) (chunk_pair l (length l / 2) i [] refl f.0) f.1,
  λ j h t. f.2 j h (subst (Ill n) (sym (chunk_pair l (length l / 2) j [] refl (let z = f.0 in omega arith))) t),
)

-- The bytes cut so, at the places of a pair and of the next.
pub record TwoPairs (l : List ℕ) (cs : List (List ℕ)) (i k : ℕ) (p q : Pair) : Type 0 where
  pub cut : cs ≡ first_chunks 2 (length l / 2) l
  pub this : p ≡ of_two (get_or cs i [])
  pub next : q ≡ of_two (get_or cs k [])
  pub this_lt : i < length l / 2
  pub next_lt : k < length l / 2
  pub next_is : k ≡ after (length l / 2) i

module _ {l : List ℕ} {cs : List (List ℕ)} {i k : ℕ} {p q : Pair} (b : TwoPairs l cs i k p q) where
  pub this_pair : p ≡ at (pairs_of l) i
  this_pair = b.this ∙ ap (λ (xs : List (List ℕ)). of_two (get_or xs i [])) b.cut ∙ chunk_pair l (length l / 2) i [] refl b.this_lt

  pub next_pair : q ≡ at (pairs_of l) k
  next_pair = b.next ∙ ap (λ (xs : List (List ℕ)). of_two (get_or xs k [])) b.cut ∙ chunk_pair l (length l / 2) k [] refl b.next_lt

  -- Neither is ill in a good ring.
  pub both_well : {n : ℕ} → GoodRing n l → (Ill n p → ⊥) × (Ill n q → ⊥)
  both_well {n} good = (λ t. good.1 i b.this_lt (subst (Ill n) this_pair t), λ t. good.1 k b.next_lt (subst (Ill n) next_pair t))

  -- They clash just if the pair clashes with the next.
  pub both_held : (f : Finds) → Joint f p q ↔ HoldsOn f (pairs_of l) i
  both_held f = held f l i k this_pair next_pair b.next_is
