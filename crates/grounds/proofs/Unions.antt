-- Unions of sets of graves: which graves they have, and the union of all kinds with a grave and without another.
use Rattle.std.proofs.Common.{◌≡◌, ℕ, zero, suc, ◌/◌, ◌%◌, ◌^◌, ◌<◌, ◌≤◌, max, Bool, true, false, ◌||◌, ◌&&◌, not, cond, bit_or, eqb, ◌⊎◌, List, [], ◌∷◌, length, get_or, Decides, sym, refl, ap, ◌∙◌, subst, inl, inr, ⊎_elim, pow-suc, true≢false, arith, ne_eqb}
use mathlib.Core.Bool.{false≢true}
use Rattle.std.proofs.lemmas.Bool.Decides.{Decides-at, Decides-like, Decides-or}
use Rattle.std.proofs.lemmas.Bool.{and_parts, and_from, not-true, or_cases, or_left, or_right}
use Rattle.std.specs.List.{fold}
use Rattle.finds.specs.Sets.{bit, has}
use Rattle.finds.proofs.Bits.{bit_low, bit_zero, bit_of_or}
use Rattle.finds.specs.Finds.{Finds}
use Rattle.clashes.specs.Rings.{Parts}
use Rattle.trees.proofs.Deciding.{so, not_so}
use Rattle.grounds.specs.Neighbours.{Beyond, Clashing, parting}
use Rattle.tables.specs.Format.{finds_of_sets}
use Rattle.grounds.proofs.KindSets.{Parting, in_sets, parts_in, parting_of}

-- ---- bits

has_none : (g : ℕ) → has 0 g ≡ false
has_none g = ap (λ (x : ℕ). eqb x 1) (bit_zero g)

-- The set of one grave has just that.
pub has_one : (a g : ℕ) → Decides (has (2 ^ a) g) (g ≡ a)
has_one zero zero = so refl
has_one zero (suc g) = Decides-at _ false (has_none g) (not_so (λ e. omega arith))
has_one (suc a) zero = let z = pow-suc 2 a in Decides-at _ false (ne_eqb (2 ^ suc a % 2) 1 (omega arith)) (not_so (λ e. omega arith))
has_one (suc a) (suc g) =
    let z = pow-suc 2 a in let half : 2 ^ a ≡ 2 ^ suc a / 2 = omega arith in
    subst (λ (x : ℕ). Decides (has x g) (suc g ≡ suc a)) half (Decides-like (has (2 ^ a) g) (λ e. omega arith) (λ e. omega arith) (has_one a g))

-- The union of two sets has what either has.
has_or : (s t g : ℕ) → has (bit_or s t) g ≡ (has s g || has t g)
has_or s t g = ap (λ (x : ℕ). eqb x 1) (bit_of_or g s t) ∙ go (bit g s) (bit g t) (bit_low g s) (bit_low g t)
  where
    go : (x y : ℕ) → x ≤ 1 → y ≤ 1 → eqb (max x y) 1 ≡ (eqb x 1 || eqb y 1)
    go zero zero h k = refl
    go zero (suc zero) h k = refl
    go (suc zero) zero h k = refl
    go (suc zero) (suc zero) h k = refl
    go zero (suc (suc y)) h k = absurd (omega arith)
    go (suc zero) (suc (suc y)) h k = absurd (omega arith)
    go (suc (suc x)) y h k = absurd (omega arith)

-- ---- the union of all kinds with a and without b

module _ (a b c : ℕ) where
  -- One of the sets has a and c and not b.
  abbrev pub Part : List ℕ → Type 0
  Part sets = (i : ℕ) × (i < length sets) × Parting (get_or sets i 0) a b c

  later : (k : ℕ) (ks : List ℕ) → Part ks → Part (k ∷ ks)
  later k ks p = (suc p.0, (let l = p.1 in omega arith), p.2)

  -- The first of the sets, or one of the others.
  first_of : (k : ℕ) (ks : List ℕ) → Part (k ∷ ks) → Parting k a b c ⊎ Part ks
  first_of k ks p = go p.0 p.1 p.2
    where
      go : (i : ℕ) → i < length (k ∷ ks) → Parting (get_or (k ∷ ks) i 0) a b c → Parting k a b c ⊎ Part ks
      go zero l h = inl h
      go (suc i) l h = inr (i, omega arith, h)

  -- Sets that part a from b come into the union, and no others.
  abbrev Grown : ℕ → List ℕ → Type 0
  Grown s ks = Decides (has (fold (λ s k. cond (has k a && not (has k b)) (bit_or s k) s) s ks) c) ((has s c ≡ true) ⊎ Part ks)

  grown : (s : ℕ) (ks : List ℕ) → Grown s ks
  grown s [] = Decides-like (has s c) inl (⊎_elim (λ e. e) (λ p. absurd (let l = p.1 in omega arith))) ((λ e. e), (λ e. e))
  grown s (k ∷ ks) = go (has k a && not (has k b)) refl (grown (bit_or s k) ks) (grown s ks)
    where
      go : (q : Bool) → (has k a && not (has k b)) ≡ q → Grown (bit_or s k) ks → Grown s ks →
          Decides (has (fold (λ s k. cond (has k a && not (has k b)) (bit_or s k) s) (cond q (bit_or s k) s) ks) c) ((has s c ≡ true) ⊎ Part (k ∷ ks))
      go true e more same = Decides-like _
          (⊎_elim (λ h. ⊎_elim inl (λ g. inr (zero, omega arith, (both.0, not-true (has k b) both.1, g))) (or_cases (has s c) (has k c) (sym (has_or s k c) ∙ h))) (λ p. inr (later k ks p)))
          (⊎_elim (λ h. inl (has_or s k c ∙ or_left (has s c) (has k c) h))
          (λ p. ⊎_elim (λ g. inl (has_or s k c ∙ or_right (has s c) (has k c) g.2)) inr (first_of k ks p)))
          more
        where
          both : (has k a ≡ true) × (not (has k b) ≡ true)
          both = and_parts (has k a) (not (has k b)) e
      go false e more same = Decides-like _
          (⊎_elim inl (λ p. inr (later k ks p)))
          (⊎_elim inl (λ p. ⊎_elim (λ g. absurd (true≢false (sym (and_from (has k a) (not (has k b)) g.0 (ap not g.1)) ∙ e))) inr (first_of k ks p)))
          same

-- With a it has just the graves c for which (a,b) and (b,c) clash.
pub beyond_is : (n : ℕ) (sets : List ℕ) (a b : ℕ) → a < n → b < n → Clashing (finds_of_sets n sets) a b (bit_or (2 ^ a) (parting a b sets))
beyond_is n sets a b la lb c lc =
    subst (λ (x : Bool). Decides x (Beyond f a b c)) (sym (has_or (2 ^ a) all c))
    (Decides-or (has (2 ^ a) c) (has all c) (has_one a c) parts)
  where
    f : Finds
    f = finds_of_sets n sets

    all : ℕ
    all = parting a b sets

    parts : Decides (has all c) (Parts f a b c)
    parts = Decides-like (has all c)
        (⊎_elim (λ e. absurd (false≢true (sym (has_none c) ∙ e))) (λ i. parts_in (in_sets n sets) a b c i.0 i.1 la lb lc i.2))
        (λ s. inr (let p = parting_of (in_sets n sets) a b c s in p))
        (grown a b c 0 sets)
