-- Clashes and grounds by the tests that the checker of rings makes.
use Rattle.std.proofs.Common.{◌≡◌, ℕ, ◌/◌, ◌%◌, ◌<◌, ◌≤◌, ◌⊎◌, ◌↔◌, List, length, sym, refl, ap, ◌∙◌, subst, subst₂, inl, inr, arith}
use native.Mathlib.Decide.{dec_lt, ℕ_discrete}
use Rattle.finds.specs.Finds.{Finds, Pair, Clash, turned, between, Ground}
use Rattle.finds.proofs.Parity.{odd_rest}
use Rattle.clashes.specs.Colours.{pair, Proper}
use Rattle.clashes.specs.Rings.{Joint, Parts, after, at, Closes}
use Rattle.clashes.proofs.Clashes.{parts, parted}
use Rattle.clashes.proofs.Chains.{closes_ground}
use Rattle.grounds.specs.Checking.{pairs_of, IsBadRing, Ill, HoldsOn}
use Rattle.grounds.proofs.RingBytes.{pairs_length}

-- A pair that is not ill is a pair of two different graves of the table.
pub well_proper : (f : Finds) (p : Pair) → (Ill f.graves p → ⊥) → Proper f p
well_proper f p h = (below p.first (λ l. h (inr (inl l))), below p.second (λ l. h (inr (inr l))), λ e. h (inl e))
  where
    below : (a : ℕ) → (f.graves ≤ a → ⊥) → a < f.graves
    below a k = go (dec_lt a f.graves)
      where
        go : Dec (a < f.graves) → a < f.graves
        go (yes d) = d
        go (no d) = absurd (k (omega arith))

module _ {f : Finds} where
  -- What a clash asks: the second pair goes on from the first, and is the first turned round or has a kind that parts the three graves.
  pub clash_asks : {p q : Pair} → Clash f p q → (p.second ≡ q.first) × ((p.first ≡ q.second) ⊎ Parts f p.first p.second q.second)
  clash_asks (turned la lb ne) = (refl, inl refl)
  clash_asks (between i d h la lb lc ka kb kc) = (refl, inr (parts i d h la lb lc ka kb kc))

  pub clash_turned : {p q : Pair} → Proper f p → p.second ≡ q.first → p.first ≡ q.second → Clash f p q
  clash_turned {p} h e g = subst (Clash f p) (λ i. pair (e i) (g i)) (turned h.0 h.1 h.2)

  pub clash_parted : {p q : Pair} → p.second ≡ q.first → Parts f p.first p.second q.second → Clash f p q
  clash_parted {p} {q} e s = subst (λ (x : ℕ). Clash f p (pair x q.second)) e (parted s)

module _ (f : Finds) (ring : List ℕ) where
  -- A pair clashes with the next just if the pairs that are read from the two places do.
  pub held : {p q : Pair} (i k : ℕ) → p ≡ at (pairs_of ring) i → q ≡ at (pairs_of ring) k → k ≡ after (length ring / 2) i → Joint f p q ↔ HoldsOn f (pairs_of ring) i
  held {p} {q} i k e g h = (subst₂ (Joint f) e next, subst₂ (Joint f) (sym e) (sym next))
    where
      next : q ≡ at (pairs_of ring) (after (length (pairs_of ring)) i)
      next = g ∙ ap (at (pairs_of ring)) (h ∙ ap (λ (n : ℕ). after n i) (sym (pairs_length ring)))

  -- Bytes that are not a bad ring hold an odd number of pairs, so that they are a ground if they close.
  pub ring_ground : (IsBadRing ring → ⊥) → Closes f (pairs_of ring) → Ground f
  ring_ground good c = closes_ground f (pairs_of ring) (odd_rest (length (pairs_of ring)) (uneven (ℕ_discrete (length ring / 2 % 2) 0))) c
    where
      uneven : Dec (length ring / 2 % 2 ≡ 0) → length (pairs_of ring) % 2 ≡ 1
      uneven (yes e) = absurd (good (inr e))
      uneven (no e) = let z = pairs_length ring in omega arith
