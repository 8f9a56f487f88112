-- Pairs of graves by their numbers.
use Rattle.std.proofs.Common.{◌≡◌, ℕ, ◌*◌, ◌<◌, sym, ap, ◌∙◌, subst, arith}
use Rattle.std.proofs.lemmas.Nat.{mul-add-lt, div-mul-add, mod-mul-add}
use Rattle.finds.specs.Finds.{Finds, Pair}
use Rattle.clashes.specs.Colours.{pair, Proper}
use Rattle.grounds.specs.Neighbours.{Numbers}
use Rattle.grounds.specs.Notes.{number, numbered}

-- The pair with the number of a pair is that pair.
pub numbered_number : (n : ℕ) (p : Pair) → p.second < n → numbered n (number n p) ≡ p
numbered_number n p h = λ i. pair (div-mul-add p.first n p.second h i) (mod-mul-add p.first n p.second h i)

module _ (f : Finds) where
  pub number_below : (p : Pair) → Proper f p → number f.graves p < f.graves * f.graves
  number_below p h = mul-add-lt p.first f.graves p.second f.graves h.0 h.1

  -- Pairs with the same number are the same.
  pub same_number : (p q : Pair) → Proper f p → Proper f q → number f.graves p ≡ number f.graves q → p ≡ q
  same_number p q h k e = sym (numbered_number f.graves p h.1) ∙ ap (numbered f.graves) e ∙ numbered_number f.graves q k.1

  -- The number of a pair is taken apart into its graves.
  pub split_proper : (x : ℕ) → Numbers f x → Proper f (numbered f.graves x)
  split_proper x h = subst (Proper f) (sym (ap (numbered f.graves) h.2 ∙ numbered_number f.graves h.0 h.1.1)) h.1

  pub split_number : (x : ℕ) → Numbers f x → x ≡ number f.graves (numbered f.graves x)
  split_number x h = h.2 ∙ ap (number f.graves) (sym (ap (numbered f.graves) h.2 ∙ numbered_number f.graves h.0 h.1.1))

  pub split_below : (x : ℕ) → Numbers f x → x < f.graves * f.graves
  split_below x h = let z = number_below h.0 h.1 in let e = h.2 in omega arith
