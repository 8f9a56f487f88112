-- From a ground to a ring: what leads from a pair back to it is cut out, or is itself a ring.
use Rattle.std.proofs.Common.{◌≡◌, ℕ, suc, ◌+◌, Bool, true, false, not, ◌≢◌, ◌⊎◌, List, [], ◌∷◌, ◌++◌, length, sym, refl, ap, ◌∙◌, subst, inl, inr, ⊎_elim}
use Rattle.std.specs.List.{AllByRecursion}
use Rattle.finds.specs.Finds.{Finds, Pair, Walk, here, on, off, Ground}
use Rattle.finds.specs.Parity.{odd}
use Rattle.finds.proofs.Parity.{◌⊕◌, not_not, ⊕_not, even}
use Rattle.clashes.specs.Rings.{Chain, none, link, Lacks, Once, Ring}
use Rattle.clashes.specs.Theorems.{RingOf}
use Rattle.clashes.proofs.Clashes.{same_pair}
use Rattle.clashes.proofs.Chains.{ring, closes_ground}

-- ---- parts of a list

all_left : (P : Pair → Type 0) (u v : List Pair) → AllByRecursion P (u ++ v) → AllByRecursion P u
all_left P [] v h = tt
all_left P (p ∷ u) v h = (h.0, all_left P u v h.1)

once_left : (u v : List Pair) → Once (u ++ v) → Once u
once_left [] v h = tt
once_left (p ∷ u) v h = (all_left (λ q. p ≢ q) u v h.0, once_left u v h.1)

once_right : (u v : List Pair) → Once (u ++ v) → Once v
once_right [] v h = h
once_right (p ∷ u) v h = once_right u v h.1

odd_append : (u v : List Pair) → odd (length (u ++ v)) ≡ odd (length v) ⊕ odd (length u)
odd_append [] v = refl
odd_append (p ∷ u) v = ap not (odd_append u v) ∙ ⊕_not (odd (length v)) (odd (length u))

-- ---- cutting

-- A chain cut where p first stands in it.
record Split (f : Finds) (p q r : Pair) (l : List Pair) : Type 0 where
  before : List Pair
  after : List Pair
  is : l ≡ before ++ after
  to : Chain f q before p
  from : Chain f p after r
  lacks : Lacks p before

-- A chain from p to r in which no pair stands twice, odd (true) or even.
record Simple (f : Finds) (p r : Pair) (b : Bool) : Type 0 where
  pairs : List Pair
  chain : Chain f p pairs r
  once : Once pairs
  parity : odd (length pairs) ≡ b

module _ {f : Finds} where
  split : (p : Pair) {q r : Pair} {l : List Pair} → Chain f q l r → Lacks p l ⊎ Split f p q r l
  split p none = inl tt
  split p {r = r} (link {p = q} {q = s} {l = l} j c) = go (same_pair p q) (split p c)
    where
      go : Dec (p ≡ q) → Lacks p l ⊎ Split f p s r l → Lacks p (q ∷ l) ⊎ Split f p q r (q ∷ l)
      go (yes e) d = inr (record {
        before = [];
        after = q ∷ l;
        is = refl;
        to = subst (Chain f q []) (sym e) none;
        from = subst (λ (x : Pair). Chain f x (q ∷ l) r) (sym e) (link j c);
        lacks = tt;
      })
      go (no ne) (inl h) = inl (ne, h)
      go (no ne) (inr d) = inr (record
          { before = q ∷ d.before; after = d.after; is = ap (λ (m : List Pair). q ∷ m) d.is; to = link j d.to; from = d.from; lacks = (ne, d.lacks) })

  -- Every chain can be made simple, its ends and its parity kept, or there is a ring.
  simplify : {p r : Pair} {l : List Pair} → Chain f p l r → Simple f p r (odd (length l)) ⊎ Ring f
  simplify none = inl (record { pairs = []; chain = none; once = tt; parity = refl })
  simplify {p} {r} (link {q = q} {l = l} j c) = ⊎_elim (λ s. by s (split p s.chain)) inr (simplify c)
    where
      Rest : Type 0
      Rest = Simple f q r (odd (length l))

      Found : Type 0
      Found = Simple f p r (not (odd (length l))) ⊎ Ring f

      -- What leads from p back to p is a ring if it is odd, and is left out if it is even.
      back : (s : Rest) (d : Split f p q r s.pairs) (b : Bool) → odd (length d.before) ≡ b → Found
      back s d false e = inr (ring (link j d.to) (ap not e) (d.lacks, once_left d.before d.after (subst Once d.is s.once)))
      back s d true e = inl (record {
        pairs = d.after;
        chain = d.from;
        once = once_right d.before d.after (subst Once d.is s.once);
        parity = sym (not_not (odd (length d.after))) ∙ ap not (sym whole);
      })
        where
          whole : odd (length l) ≡ not (odd (length d.after))
          whole = sym s.parity ∙ ap (λ (m : List Pair). odd (length m)) d.is ∙ odd_append d.before d.after ∙ ap (λ (x : Bool). odd (length d.after) ⊕ x) e

      by : (s : Rest) → Lacks p s.pairs ⊎ Split f p q r s.pairs → Found
      by s (inl h) = inl (record { pairs = p ∷ s.pairs; chain = link j s.chain; once = (h, s.once); parity = ap not s.parity })
      by s (inr d) = back s d (odd (length d.before)) refl

  -- A walk read backwards is a chain.
  chain_of : {n : ℕ} {p q : Pair} → Walk f n p q → (l : List Pair) × Chain f q l p × (length l ≡ n)
  chain_of here = ([], none, refl)
  chain_of (on {r = r} w c) = let h = chain_of w in (r ∷ h.0, link (inr c) h.1, ap suc h.2)
  chain_of (off {r = r} w c) = let h = chain_of w in (r ∷ h.0, link (inl c) h.1, ap suc h.2)

pub ring_of : RingOf
ring_of f = (cut, λ r. closes_ground f r.pairs r.uneven r.closes)
  where
    cut : Ground f → Ring f
    cut g =
        let h = chain_of g.walk in
        let uneven : odd (length h.0) ≡ true = ap odd h.2 ∙ ap not (even (g.half + g.half) g.half refl) in
        ⊎_elim (λ s. ring s.chain (s.parity ∙ uneven) s.once) (λ r. r) (simplify h.1)
