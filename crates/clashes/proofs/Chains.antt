-- Chains of clashing pairs: one that comes back is a ring, and what closes is a ground.
use Rattle.std.proofs.Common.{◌≡◌, ℕ, zero, suc, ◌+◌, ◌<◌, true, List, ◌++◌, length, get_or, sym, refl, ap, ◌∙◌, subst, add-one, arith, eq-eqb, ne_eqb}
use mathlib.Core.Bool.{false≢true}
use native.Mathlib.Decide.{ℕ_discrete}
use Rattle.std.specs.List.{AllByRecursion}
use Rattle.std.proofs.lemmas.List.{get_or_default, get_or_past}
use Rattle.finds.specs.Finds.{Finds, Pair, Ground}
use Rattle.finds.specs.Parity.{odd}
use Rattle.clashes.specs.Colours.{pair, Proper, Reach}
use Rattle.clashes.specs.Rings.{Joint, Chain, none, link, after, at, Closes, Once, Ring}
use Rattle.clashes.specs.Theorems.{ClosesGround}
use Rattle.clashes.proofs.Clashes.{joint_left}
use Rattle.clashes.proofs.Walks.{said_as, stay, step, ground}

-- The next place within the list, and the place after the last.
after_within : (n i : ℕ) → suc i < n → after n i ≡ suc i
after_within n i h = rw (ne_eqb (i + 1) n (λ e. omega arith)) (add-one i)

after_last : (n i : ℕ) → suc i ≡ n → after n i ≡ 0
after_last n i h = rw (eq-eqb (i + 1) n (omega arith)) refl

module _ {f : Finds} where
  pub chain_append : {p q r : Pair} {l m : List Pair} → Chain f p l q → Chain f q m r → Chain f p (l ++ m) r
  chain_append none d = d
  chain_append (link j c) d = link j (chain_append c d)

  pub chain_proper : {p q : Pair} {l : List Pair} → Chain f p l q → AllByRecursion (Proper f) l
  chain_proper none = tt
  chain_proper (link j c) = (joint_left j, chain_proper c)

  chain_first : {p q : Pair} {l : List Pair} → Chain f p l q → get_or l 0 q ≡ p
  chain_first none = refl
  chain_first (link j c) = refl

  -- Each pair clashes with what stands at the next place, where q stands at the place past the end.
  chain_links : {p q : Pair} {l : List Pair} (d : Pair) → Chain f p l q → (i : ℕ) → i < length l → Joint f (get_or l i d) (get_or l (suc i) q)
  chain_links d none i h = absurd (omega arith)
  chain_links d (link {p = p} j c) zero h = subst (Joint f p) (sym (chain_first c)) j
  chain_links d (link j c) (suc i) h = chain_links d c i (omega arith)

  pub chain_closes : {p : Pair} {l : List Pair} → Chain f p l p → Closes f l
  chain_closes {p} {l} c i h = subst (Joint f (at l i)) (go (ℕ_discrete (suc i) (length l))) (chain_links (pair 0 0) c i h)
    where
      go : Dec (suc i ≡ length l) → get_or l (suc i) p ≡ at l (after (length l) i)
      go (yes e) = get_or_past l (suc i) p (omega arith) ∙ sym (chain_first c) ∙ get_or_default l 0 p (pair 0 0) (omega arith) ∙ ap (at l) (sym (after_last (length l) i e))
      go (no ne) = get_or_default l (suc i) p (pair 0 0) (omega arith) ∙ ap (at l) (sym (after_within (length l) i (omega arith)))

  -- A chain that comes back is a ring, if it is odd and has no pair twice.
  abbrev pub ring : {p : Pair} {l : List Pair} → Chain f p l p → odd (length l) ≡ true → Once l → Ring f
  ring {l = l} c e o = record { pairs = l; closes = chain_closes c; uneven = e; once = o }

-- Round a list that closes: from the first pair to the last in one step less than there are pairs, and on to the first.
pub closes_ground : ClosesGround
closes_ground f ps e c = go (length ps) refl e
  where
    upto : (i : ℕ) → i < length ps → Reach f (odd i) (at ps 0) (at ps i)
    upto zero h = stay
    upto (suc i) h = step (upto i (omega arith)) (subst (λ (k : ℕ). Joint f (at ps i) (at ps k)) (after_within (length ps) i h) (c i (omega arith)))

    go : (n : ℕ) → length ps ≡ n → odd n ≡ true → Ground f
    go zero l o = absurd (false≢true o)
    go (suc n) l o = ground (at ps 0) (joint_left (c 0 (omega arith)))
        (said_as o (step (upto n (omega arith)) (subst (λ (k : ℕ). Joint f (at ps n) (at ps k)) (after_last (length ps) n (sym l)) (c n (omega arith)))))
