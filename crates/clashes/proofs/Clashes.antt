-- Clashing pairs: the kind that makes them clash, what it says of a fourth grave, and all that clashes with a pair.
use Rattle.std.proofs.Common.{◌≡◌, ℕ, ◌<◌, Bool, true, false, ◌≢◌, ◌⊎◌, length, get_or, sym, refl, ap, ◌∙◌, subst, inl, inr}
use mathlib.Core.Logic.Dec
use mathlib.Core.Logic.{Ne-symm}
use native.Mathlib.Decide.{ℕ_discrete}
use Rattle.std.proofs.lemmas.List.{get_or_default}
use Rattle.finds.specs.Finds.{Finds, Pair, Clash, turned, between}
use Rattle.finds.proofs.Laws.{told_apart}
use Rattle.clashes.specs.Colours.{pair, op, Proper}
use Rattle.clashes.specs.Rings.{Joint, lay, Parts}

-- ---- pairs

pub first_of : {p q : Pair} → p ≡ q → p.first ≡ q.first
first_of e = ap (λ (p : Pair). p.first) e

pub second_of : {p q : Pair} → p ≡ q → p.second ≡ q.second
second_of e = ap (λ (p : Pair). p.second) e

-- Two pairs are the same or not.
pub same_pair : (p q : Pair) → Dec (p ≡ q)
same_pair p q = Dec.of_iff ((λ h. λ i. pair (h.0 i) (h.1 i)), (λ e. (first_of e, second_of e)))
    (Dec.and (ℕ_discrete p.first q.first) (ℕ_discrete p.second q.second))

-- Turned round, a pair of different graves is one still.
pub op_proper : (f : Finds) (p : Pair) → Proper f p → Proper f (op p)
op_proper f p h = (h.1, h.0, Ne-symm h.2)

-- ---- the kind that makes two pairs clash

module _ {f : Finds} where
  -- The kind that a clash cites, at the default that can be tested.
  pub parts : {a b c : ℕ} (i : ℕ) (d : ℕ → Bool) → i < length f.kinds → a < f.graves → b < f.graves → c < f.graves →
      get_or f.kinds i d a ≡ true → get_or f.kinds i d b ≡ false → get_or f.kinds i d c ≡ true → Parts f a b c
  parts {a} {b} {c} i d h la lb lc ka kb kc =
      record { kind = i; listed = h; below = (la, lb, lc); has_a = same a ∙ ka; lacks = same b ∙ kb; has_c = same c ∙ kc }
    where
      same : (g : ℕ) → lay f i g ≡ get_or f.kinds i d g
      same g = ap (λ (k : ℕ → Bool). k g) (get_or_default f.kinds i (λ _. false) d h)

  pub parted : {a b c : ℕ} → Parts f a b c → Clash f (pair a b) (pair b c)
  parted s = between s.kind (λ _. false) s.listed s.below.0 s.below.1 s.below.2 s.has_a s.lacks s.has_c

  pub parts_apart : {a b c : ℕ} → Parts f a b c → a ≢ b
  parts_apart s = told_apart (lay f s.kind) s.has_a s.lacks

  -- The kind lay in c and a just as well.
  pub other_way : {a b c : ℕ} → Parts f a b c → Parts f c b a
  other_way s = record
      { kind = s.kind; listed = s.listed; below = (s.below.2, s.below.1, s.below.0); has_a = s.has_c; lacks = s.lacks; has_c = s.has_a }

  -- In a fourth grave the kind lay too, or it tells that one from a and c as it does b.
  pub fourth : {a b c : ℕ} (g : ℕ) → g < f.graves → Parts f a b c → Parts f a b g ⊎ Parts f a g c
  fourth {a} {b} {c} g l s = go (lay f s.kind g) refl
    where
      go : (x : Bool) → lay f s.kind g ≡ x → Parts f a b g ⊎ Parts f a g c
      go true e = inl
          (record { kind = s.kind; listed = s.listed; below = (s.below.0, s.below.1, l); has_a = s.has_a; lacks = s.lacks; has_c = e })
      go false e = inr
          (record { kind = s.kind; listed = s.listed; below = (s.below.0, l, s.below.2); has_a = s.has_a; lacks = e; has_c = s.has_c })

  -- ---- clashes

  pub opposed : (p : Pair) → Proper f p → Clash f p (op p)
  opposed p h = turned h.0 h.1 h.2

  -- All that clashes with a pair (a,b): (b,a); (b,c) where some kind lay in a and c and not in b; and (c,a) where some kind lay in c and b and not in a.
  -- So a search that has looked at these has looked at all: P is what it knows of each of them.
  pub neighbour : {p q : Pair} → Joint f p q → (P : Pair → Type 0) → P (op p) → ((c : ℕ) → Parts f p.first p.second c → P (pair p.second c)) →
      ((c : ℕ) → Parts f c p.first p.second → P (pair c p.first)) → P q
  neighbour (inl (turned la lb ne)) P o l r = o
  neighbour (inr (turned la lb ne)) P o l r = o
  neighbour (inl (between {c = c} i d h la lb lc ka kb kc)) P o l r = l c (parts i d h la lb lc ka kb kc)
  neighbour (inr (between {a = a} i d h la lb lc ka kb kc)) P o l r = r a (parts i d h la lb lc ka kb kc)

  -- Pairs that clash are pairs of different graves.
  pub clash_left : {p q : Pair} → Clash f p q → Proper f p
  clash_left (turned la lb ne) = (la, lb, ne)
  clash_left (between i d h la lb lc ka kb kc) = (la, lb, told_apart (get_or f.kinds i d) ka kb)

  pub clash_right : {p q : Pair} → Clash f p q → Proper f q
  clash_right (turned la lb ne) = (lb, la, Ne-symm ne)
  clash_right (between i d h la lb lc ka kb kc) = (lb, lc, Ne-symm (told_apart (get_or f.kinds i d) kc kb))

  pub joint_left : {p q : Pair} → Joint f p q → Proper f p
  joint_left (inl c) = clash_left c
  joint_left (inr c) = clash_right c

  pub joint_op : {p q : Pair} → Joint f p q → Joint f q p
  joint_op (inl c) = inr c
  joint_op (inr c) = inl c

-- ---- deciding a clash

-- What is to be tested of two pairs: that the second is the first turned round, or goes on from it or leads up to it, with a kind that parts the three graves.
abbrev pub Tested : Finds → Pair → Pair → Type 0
Tested f p q = (q ≡ op p)
    ⊎ (((q.first ≡ p.second) × Parts f p.first p.second q.second) ⊎ ((q.second ≡ p.first) × Parts f q.first p.first p.second))

pub joint_tested : {f : Finds} {p q : Pair} → Joint f p q → Tested f p q
joint_tested {f} {p} j = neighbour j (Tested f p) (inl refl) (λ c s. inr (inl (refl, s))) (λ c s. inr (inr (refl, s)))

pub tested_joint : (f : Finds) (p q : Pair) → Proper f p → Tested f p q → Joint f p q
tested_joint f p q h (inl e) = subst (Joint f p) (sym e) (inl (opposed p h))
tested_joint f p q h (inr (inl s)) = subst (λ (b : ℕ). Joint f p (pair b q.second)) (sym s.0) (inl (parted s.1))
tested_joint f p q h (inr (inr s)) = subst (λ (a : ℕ). Joint f p (pair q.first a)) (sym s.0) (inr (parted s.1))
