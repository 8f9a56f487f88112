-- The verdict on an order: from what is found at the places of the bytes to what the definitions say of the order.
use Rattle.std.proofs.Common.{◌≡◌, ℕ, ◌/◌, ◌<◌, Bool, false, List, length, get_or, sym, refl, subst, arith}
use Rattle.finds.specs.Sets.{has}
use Rattle.finds.specs.Finds.{Order, OneStretch, Fits}
use Rattle.finds.specs.Exactness.{RowOf}
use Rattle.finds.proofs.Start.{row_order}
use Rattle.tables.specs.Format.{kind_set, kinds_from, finds_in}
use Rattle.tables.specs.Orders.{GoodOrder, Between, FirstBetween, Tears, Judged}
use Rattle.std.proofs.Common.{None}
use Rattle.tables.proofs.KindList.{kinds_length, kinds_at}
use Rattle.tables.proofs.Places.{order_whole, untorn, torn_by}

module _ (n : ℕ) (bs l : List ℕ) (good : GoodOrder n l) where
  -- No grave of the row lies between two of kind i without having it.
  abbrev pub Untorn : ℕ → Type 0
  Untorn i = (p : ℕ) → p < length l → Between (has (kind_set bs i)) l p → ⊥

  -- The order of the bytes.
  order_of : (o : Order n) × RowOf n o l
  order_of = row_order n l (order_whole n l good)

  -- A kind that is not torn at any place of the bytes is one stretch of their order.
  stretch : (i : ℕ) (d : ℕ → Bool) → i < length bs / 8 → Untorn i → OneStretch n order_of.0 (get_or (kinds_from bs 0 (length bs / 8)) i d)
  stretch i d h u = subst (OneStretch n order_of.0) (sym (kinds_at bs 0 (length bs / 8) i i d h (omega arith))) (untorn n l good order_of.0 order_of.1 (has (kind_set bs i)) u)

  pub judged_fits : ((i : ℕ) → i < length bs / 8 → Untorn i) → Judged (finds_in n bs) l None
  unfolding Fits
  judged_fits u = (order_of.0, order_of.1, λ i d h. let z = kinds_length bs 0 (length bs / 8) in stretch i d (omega arith) (u i (omega arith)))

  pub judged_torn : (i p : ℕ) → i < length bs / 8 → ((j : ℕ) → j < i → Untorn j) → Between (has (kind_set bs i)) l p → ((q : ℕ) → q < p → Between (has (kind_set bs i)) l q → ⊥)
      → Tears (finds_in n bs) l i (get_or l p 0)
  judged_torn i p h u t first =
      record {
        order = order_of.0;
        row = order_of.1;
        listed = let z = kinds_length bs 0 (length bs / 8) in omega arith;
        untorn = λ j m. stretch j (λ g. false) (omega arith) (u j m);
        torn = λ s. torn_by n l good order_of.0 order_of.1 (has (kind_set bs i)) p t (subst (OneStretch n order_of.0) is s);
        place = p;
        first = subst (λ (k : ℕ → Bool). FirstBetween k l p (get_or l p 0)) (sym is) (record { at = refl; here = t; none_before = first });
      }
    where
      is : get_or (kinds_from bs 0 (length bs / 8)) i (λ g. false) ≡ has (kind_set bs i)
      is = kinds_at bs 0 (length bs / 8) i i (λ g. false) h (omega arith)
