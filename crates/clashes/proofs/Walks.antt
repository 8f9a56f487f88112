-- Walks of clashes: a step more, one after another, one backwards, and an odd one that comes back.
-- Their parity is a truth value, so that no sum of steps has to be taken apart.
use Rattle.std.proofs.Common.{◌≡◌, ℕ, suc, Bool, true, false, not, refl, ap, ◌∙◌, subst, inl, inr}
use Rattle.finds.specs.Finds.{Finds, Pair, Walk, here, on, off, Ground}
use Rattle.finds.specs.Parity.{odd}
use Rattle.finds.proofs.Parity.{◌⊕◌, ⊕_not, not_⊕, half_of}
use Rattle.clashes.specs.Colours.{Proper, Reach}
use Rattle.clashes.specs.Rings.{Joint}
use Rattle.clashes.proofs.Clashes.{clash_left, clash_right}

module _ {f : Finds} where
  -- The same walk, its parity said otherwise.
  pub said_as : {a b : Bool} {p q : Pair} → a ≡ b → Reach f a p q → Reach f b p q
  said_as e w = record { steps = w.steps; walk = w.walk; parity = w.parity ∙ e }

  pub stay : {p : Pair} → Reach f false p p
  stay = record { steps = 0; walk = here; parity = refl }

  pub step : {b : Bool} {p q r : Pair} → Reach f b p q → Joint f q r → Reach f (not b) p r
  step w (inl c) = record { steps = suc w.steps; walk = on w.walk c; parity = ap not w.parity }
  step w (inr c) = record { steps = suc w.steps; walk = off w.walk c; parity = ap not w.parity }

  -- On along another walk.
  along : {b : Bool} {n : ℕ} {p q r : Pair} → Reach f b p q → Walk f n q r → Reach f (b ⊕ odd n) p r
  along w here = w
  along {b} w (on {n = n} v c) = said_as (⊕_not b (odd n)) (step (along w v) (inl c))
  along {b} w (off {n = n} v c) = said_as (⊕_not b (odd n)) (step (along w v) (inr c))

  -- Back along another walk.
  against : {b : Bool} {n : ℕ} {p q r : Pair} → Reach f b p q → Walk f n r q → Reach f (b ⊕ odd n) p r
  against w here = w
  against {b} w (on {n = n} v c) = said_as (not_⊕ b (odd n)) (against (step w (inr c)) v)
  against {b} w (off {n = n} v c) = said_as (not_⊕ b (odd n)) (against (step w (inl c)) v)

  -- One walk and then another.
  pub join : {a b : Bool} {p q r : Pair} → Reach f a p q → Reach f b q r → Reach f (a ⊕ b) p r
  join {a} v w = said_as (ap (λ (x : Bool). a ⊕ x) w.parity) (along v w.walk)

  -- One walk and then another backwards.
  pub return : {a b : Bool} {p q r : Pair} → Reach f a p q → Reach f b r q → Reach f (a ⊕ b) p r
  return {a} v w = said_as (ap (λ (x : Bool). a ⊕ x) w.parity) (against v w.walk)

  -- What leads to a pair of different graves begins at one.
  pub walk_proper : {n : ℕ} {p q : Pair} → Walk f n p q → Proper f q → Proper f p
  walk_proper here h = h
  walk_proper (on w c) h = walk_proper w (clash_left c)
  walk_proper (off w c) h = walk_proper w (clash_right c)

  -- An odd walk that comes back is a ground.
  pub ground : (p : Pair) → Proper f p → Reach f true p p → Ground f
  ground p h w =
      let r = half_of w.steps w.parity in
      record { half = r.0; start = p; start_is = h; walk = subst (λ (n : ℕ). Walk f n p p) r.1 w.walk }
