-- The pairs beside a pair, and which of them clash with it.
use Rattle.std.proofs.Common.{◌≡◌, ℕ, ◌-◌, ◌*◌, ◌<◌, ◌≤◌, Bool, true, false, ◌↔◌, Option, Decides, sym, ap, ◌∙◌, refl, subst, inl, inr, ⊎_elim, arith, le-ltb, lt-ltb}
use Rattle.std.proofs.lemmas.Bool.Decides.{Decides-like}
use Rattle.std.specs.Bool.{then_some}
use Rattle.finds.specs.Finds.{Finds, Pair}
use Rattle.finds.specs.Sets.{has}
use Rattle.clashes.specs.Colours.{pair, Proper}
use Rattle.clashes.specs.Rings.{Joint}
use Rattle.clashes.proofs.Clashes.{first_of, second_of, opposed, parted, other_way, joint_op, joint_left, joint_tested}
use Rattle.trees.proofs.Deciding.{denied}
use Rattle.grounds.specs.Neighbours.{Beyond, Clashing, Meets}
use Rattle.grounds.specs.Notes.{number, beside}
use Rattle.grounds.proofs.Numbers.{number_below}

-- Below n stand the pairs that go on from it, and then those that lead up to it.
pub beside_on : (n : ℕ) (p : Pair) (k : ℕ) → k < n → pair p.second k ≡ beside n p k
beside_on n p k h = rw (lt-ltb k n h) refl

pub beside_back : (n : ℕ) (p : Pair) (k : ℕ) → n ≤ k → pair (k - n) p.first ≡ beside n p k
beside_back n p k h = rw (le-ltb k n h) refl

module _ (f : Finds) (p : Pair) (h : Proper f p) where
  on_joint : (c : ℕ) → Beyond f p.first p.second c ↔ Joint f p (pair p.second c)
  on_joint c = (
    ⊎_elim (λ e. subst (λ (x : ℕ). Joint f p (pair p.second x)) (sym e) (inl (opposed p h))) (λ s. inl (parted s)),
    λ j. ⊎_elim (λ e. inl (second_of e)) (⊎_elim (λ s. inr s.1) (λ s. inl s.0)) (joint_tested j),
  )

  back_joint : (c : ℕ) → Beyond f p.second p.first c ↔ Joint f p (pair c p.first)
  back_joint c = (
    ⊎_elim (λ e. subst (λ (x : ℕ). Joint f p (pair x p.first)) (sym e) (inl (opposed p h))) (λ s. inr (parted (other_way s))),
    λ j. ⊎_elim (λ e. inl (first_of e)) (⊎_elim (λ s. inl s.0) (λ s. inr (other_way s.1))) (joint_tested j),
  )

  -- The sets of graves tell which pairs beside it clash with it.
  pub on_tells : (set k : ℕ) → k < f.graves → Clashing f p.first p.second set → Decides (has set k) (Joint f p (beside f.graves p k))
  on_tells set k l c = subst (λ (q : Pair). Decides (has set k) (Joint f p q)) (beside_on f.graves p k l) (Decides-like (has set k) (on_joint k).0 (on_joint k).1 (c k l))

  pub back_tells : (set k : ℕ) → f.graves ≤ k → k - f.graves < f.graves → Clashing f p.second p.first set → Decides (has set (k - f.graves)) (Joint f p (beside f.graves p k))
  back_tells set k le l c = let g = k - f.graves in
      subst (λ (q : Pair). Decides (has set g) (Joint f p q)) (beside_back f.graves p k le) (Decides-like (has set g) (back_joint g).0 (back_joint g).1 (c g l))

-- A pair that clashes with it has a number.
pub beside_below : (f : Finds) (p : Pair) (k x : ℕ) → Joint f p (beside f.graves p k) → x ≡ number f.graves (beside f.graves p k) → x < f.graves * f.graves
beside_below f p k x j e = let z = number_below f (beside f.graves p k) (joint_left (joint_op j)) in omega arith

-- Where a set tells whether they clash, the answer is the number of the pair if it does.
pub meets : (f : Finds) (p : Pair) (k x : ℕ) {told has : Bool} {r : Option ℕ} → told ≡ has → r ≡ then_some told x → Decides has (Joint f p (beside f.graves p k)) →
    x ≡ number f.graves (beside f.graves p k) → Meets f p k r
meets f p k x {has = h} is gives d e = subst (Meets f p k) (sym (gives ∙ ap (λ (b : Bool). then_some b x) is)) (go h d)
  where
    go : (b : Bool) → Decides b (Joint f p (beside f.graves p k)) → Meets f p k (then_some b x)
    go true d = let j = d.0 refl in (j, e, beside_below f p k x j e)
    go false d = denied d
