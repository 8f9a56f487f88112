-- A tournament without circles is an order: the place of a grave is how many are before it.
use Rattle.std.proofs.Common.{◌≡◌, ℕ, ◌<◌, ◌≢◌, ◌⊎◌, ap, inl, inr, ⊎_elim, arith}
use native.Mathlib.Decide.{ℕ_discrete}
use Rattle.finds.specs.Finds.{Order}
use Rattle.clashes.proofs.Counts.{one_if, one_if_le, one_if_lt, sum_lt, count, count_few}

-- Of two different graves one is before the other, which can be tested, and what is before is so from grave to grave.
pub record Ranked (n : ℕ) (Before : ℕ → ℕ → Type 0) : Type 0 where
  pub tested : (g h : ℕ) → Dec (Before g h)
  pub never : (g : ℕ) → Before g g → ⊥
  pub either : (g h : ℕ) → g < n → h < n → g ≢ h → Before g h ⊎ Before h g
  pub goes_on : (g h i : ℕ) → Before g h → Before h i → Before g i

module _ {n : ℕ} {Before : ℕ → ℕ → Type 0} (r : Ranked n Before) where
  abbrev rank : ℕ → ℕ
  rank g = count (λ h. r.tested h g) n

  -- All that is before a is before b, and a too.
  earlier : (a b : ℕ) → a < n → Before a b → rank a < rank b
  earlier a b la e = sum_lt (λ h. one_if (r.tested h a)) (λ h. one_if (r.tested h b)) n a
      (λ g _. one_if_le (r.tested g a) (r.tested g b) (λ h. r.goes_on g a b h e)) la (one_if_lt (r.tested a a) (r.tested a b) (r.never a) e)

  -- Of two different graves that one is before the other that has the lower place.
  one_way : (a b : ℕ) → a < n → b < n → a ≢ b → ((rank a < rank b) × Before a b) ⊎ (rank b < rank a)
  one_way a b la lb ne = ⊎_elim (λ e. inl (earlier a b la e, e)) (λ e. inr (earlier b a lb e)) (r.either a b la lb ne)

  pub ranking : (o : Order n) × ((a b : ℕ) → a < n → b < n → o.place a < o.place b → Before a b)
  ranking = (record { place = rank; within = λ g l. count_few (λ h. r.tested h g) n g l (r.never g); apart = λ g h lg lh e. same g h lg lh e (ℕ_discrete g h) }, before)
    where
      same : (g h : ℕ) → g < n → h < n → rank g ≡ rank h → Dec (g ≡ h) → g ≡ h
      same g h lg lh e (yes q) = q
      same g h lg lh e (no ne) = absurd (⊎_elim (λ x. (let y = x.0 in omega arith)) (λ x. omega arith) (one_way g h lg lh ne))

      before : (a b : ℕ) → a < n → b < n → rank a < rank b → Before a b
      before a b la lb lt = ⊎_elim (λ x. x.1) (λ x. absurd (omega arith)) (one_way a b la lb (λ e. let z = ap rank e in omega arith))
