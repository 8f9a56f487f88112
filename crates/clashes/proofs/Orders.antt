-- The order of a colouring, in which a is before b if the pair (a,b) is so: it fits.
use Rattle.std.proofs.Common.{◌≡◌, ℕ, ◌<◌, Bool, true, false, not, ◌≢◌, ◌⊎◌, sym, refl, ap, ◌∙◌, inl, inr, ⊎_elim}
use mathlib.Core.Logic.Dec
use mathlib.Core.Bool.{Bool-discrete}
use native.Mathlib.Decide.{ℕ_discrete, dec_lt}
use Rattle.finds.specs.Finds.{Finds, Order, OneStretch, Fits, between}
use Rattle.finds.proofs.Parity.{not_same}
use Rattle.clashes.specs.Colours.{pair, Colouring}
use Rattle.clashes.specs.Theorems.{OrderOf, OrderOrGround, NoneOrGround}
use Rattle.clashes.proofs.Labels.{same_col}
use Rattle.clashes.proofs.Colours.{colours_or_ground}
use Rattle.clashes.proofs.Circle.{So, not_so, so_op, no_circle}
use Rattle.clashes.proofs.Tournament.{Ranked, ranking}

module _ {f : Finds} (v : Colouring f) where
  -- Of two different graves one is before the other.
  so_or : (a b : ℕ) → a < f.graves → b < f.graves → a ≢ b → So v a b ⊎ So v b a
  so_or a b la lb ne = go (v.label (pair a b)).col refl
    where
      go : (x : Bool) → (v.label (pair a b)).col ≡ x → So v a b ⊎ So v b a
      go true e = inr (so_op v (la, lb, ne) e)
      go false e = inl (record { proper = (la, lb, ne); is = e })

  so? : (a b : ℕ) → Dec (So v a b)
  so? a b = Dec.of_iff ((λ h. record { proper = (h.0, h.1.0, h.1.1.0); is = h.1.1.1 }), (λ s. (s.proper.0, (s.proper.1, (s.proper.2, s.is)))))
      (Dec.and (dec_lt a f.graves) (Dec.and (dec_lt b f.graves) (Dec.and (Dec.not (ℕ_discrete a b)) (Bool-discrete (v.label (pair a b)).col false))))

  ranked : Ranked f.graves (So v)
  ranked = record { tested = so?; never = λ g s. s.proper.2 refl; either = so_or; goes_on = λ g h i s t. goes_on s t (ℕ_discrete g i) }
    where
      goes_on : {g h i : ℕ} → So v g h → So v h i → Dec (g ≡ i) → So v g i
      goes_on {g} {h} {i} s t (yes e) = absurd (not_same false (sym t.is ∙ ap (λ (x : ℕ). (v.label (pair h x)).col) (sym e) ∙ not_so v s))
      goes_on {g} {h} {i} s t (no ne) = ⊎_elim (λ x. x) (λ x. absurd (no_circle v (record { ab = s; bc = t; ca = x }))) (so_or g i s.proper.0 t.proper.1 ne)

pub order_of : OrderOf
unfolding Fits OneStretch
order_of f v = (
  r.0,
  λ i d h a b c la lb lc ka kb kc ab bc.
      not_same false (sym (r.1 b c lb lc bc).is ∙ same_col (v.flips (pair a b) (pair b c) (between i d h la lb lc ka kb kc)) ∙ ap not (r.1 a b la lb ab).is),
)
  where
    r : (o : Order f.graves) × ((a b : ℕ) → a < f.graves → b < f.graves → o.place a < o.place b → So v a b)
    r = ranking (ranked v)

pub order_or_ground : OrderOrGround
order_or_ground f = ⊎_elim (λ v. inl (order_of f v)) inr (colours_or_ground f)

pub none_or_ground : NoneOrGround
none_or_ground f none = ⊎_elim (λ o. absurd (none o.0 o.1)) (λ g. g) (order_or_ground f)
