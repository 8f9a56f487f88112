-- The ring of two clashing pairs of one colour, read from the parents: up from both, always from the deeper one, until the two legs meet.
-- A program that writes it has Legs in the invariant of its loop, with what it has written for u and v.
use Rattle.std.proofs.Common.{◌≡◌, ℕ, zero, suc, ◌+◌, ◌-◌, ◌*◌, ◌%◌, ◌≤◌, true, ◌≢◌, ◌⊎◌, List, [], ◌∷◌, ◌++◌, length, sym, refl, ap, ◌∙◌, subst, inl, inr, ⊎_elim, append_assoc, arith, length-append}
use mathlib.Core.Logic.{Ne-symm}
use native.Mathlib.Decide.{dec_le}
use Rattle.std.specs.List.{AllByRecursion}
use Rattle.std.proofs.ByRecursion.{All-weaker, All-append}
use Rattle.finds.specs.Finds.{Finds, Pair}
use Rattle.finds.specs.Parity.{odd}
use Rattle.finds.proofs.Parity.{odd_rest}
use Rattle.clashes.specs.Colours.{Proper}
use Rattle.clashes.specs.Rings.{Joint, Chain, none, link, Lacks, Once, Ring}
use Rattle.clashes.specs.Search.{Mark, Child, Root, Rooted, Under, Legs}
use Rattle.clashes.proofs.Clashes.{same_pair, joint_op}
use Rattle.clashes.proofs.Chains.{chain_append, chain_proper, ring}
use Rattle.clashes.proofs.Short.{pairs_few}

-- ---- one pair more, put between two lists

all_put : (P : Pair → Type 0) (x : Pair) (u v : List Pair) → AllByRecursion P (u ++ v) → P x → AllByRecursion P (u ++ x ∷ v)
all_put P x [] v h k = (k, h)
all_put P x (y ∷ u) v h k = (h.0, all_put P x u v h.1 k)

once_put : (x : Pair) (u v : List Pair) → Once (u ++ v) → Lacks x (u ++ v) → Once (u ++ x ∷ v)
once_put x [] v h k = (k, h)
once_put x (y ∷ u) v h k = (all_put (λ z. y ≢ z) x u v h.0 (Ne-symm k.0), once_put x u v h.1 k.1)

module _ {f : Finds} {Seen : Pair → Type 0} {mark : Pair → Mark} where
  -- At first q is written, which clashes with p.
  pub start : (p q : Pair) → Seen p → Seen q → (mark p).seed ≡ (mark q).seed → Joint f q p → ((mark p).depth + (mark q).depth) % 2 ≡ 0 →
      Legs f Seen mark p q [] (q ∷ [])
  start p q sp sq e j h = record {
    foot = p;
    up = none;
    down = link j none;
    seen_p = sp;
    seen_q = sq;
    one_seed = e;
    under = (inl refl, tt);
    once = (tt, tt);
    uneven = omega arith;
  }

  -- The legs have met: what is written is a ring.
  pub met : {p q : Pair} {u v : List Pair} → Legs f Seen mark p q u v → p ≡ q → (r : Ring f) × (r.pairs ≡ u ++ v)
  met {p} {q} {u} {v} g e = (ring (chain_append g.up (subst (λ (x : Pair). Chain f x v g.foot) (sym e) g.down)) odd_length g.once, refl)
    where
      odd_length : odd (length (u ++ v)) ≡ true
      odd_length = odd_rest (length (u ++ v)) (let n = length-append u v in let z = ap (λ (y : Pair). (mark y).depth) e in let h = g.uneven in omega arith)

  -- There is always room for it: no more is written than there are pairs.
  pub legs_short : {p q : Pair} {u v : List Pair} → Legs f Seen mark p q u v → length u + length v ≤ f.graves * (f.graves - 1)
  legs_short {p} {q} {u} {v} g =
      let n = length-append u v in
      let few = pairs_few f (u ++ v) g.once (All-append (Proper f) u v (chain_proper g.up) (chain_proper g.down)) in omega arith

module _ {f : Finds} {Seen : Pair → Type 0} {mark : Pair → Mark} (t : Rooted f Seen mark) where
  -- Of two different pairs of one component the deeper one is no seed.
  deeper : (p q : Pair) → Seen p → Seen q → (mark p).seed ≡ (mark q).seed → p ≢ q → (mark q).depth ≤ (mark p).depth → Child f Seen mark p
  deeper p q sp sq e ne le = go (t p sp) (t q sq)
    where
      go : Root mark p ⊎ Child f Seen mark p → Root mark q ⊎ Child f Seen mark q → Child f Seen mark p
      go (inr c) d = c
      go (inl r) (inl u) = absurd (ne (r.0 ∙ e ∙ sym u.0))
      go (inl r) (inr c) = absurd (let x = c.deep in let y = r.1 in omega arith)

  module _ {p q : Pair} {u v : List Pair} (g : Legs f Seen mark p q u v) (ne : p ≢ q) where
    -- The deeper end is no seed, so that the way up goes on; its parent is one less deep.
    pub left_child : (mark q).depth ≤ (mark p).depth → Child f Seen mark p
    left_child le = deeper p q g.seen_p g.seen_q g.one_seed ne le

    pub right_child : (mark p).depth ≤ (mark q).depth → Child f Seen mark q
    right_child le = deeper q p g.seen_q g.seen_p (sym g.one_seed) (Ne-symm ne) le

    -- If p is the deeper one, it is written and its parent takes its place.
    pub up_left : (mark q).depth ≤ (mark p).depth → Legs f Seen mark (mark p).parent q (u ++ p ∷ []) v
    up_left le = record {
      foot = g.foot;
      up = chain_append g.up (link (joint_op c.joint) none);
      down = g.down;
      seen_p = c.seen;
      seen_q = g.seen_q;
      one_seed = c.same ∙ g.one_seed;
      under = subst (AllByRecursion Now) (sym (append_assoc u (p ∷ []) v))
          (all_put Now p u v (All-weaker (Under mark p q) Now still (u ++ v) g.under) (inr (lower p (omega arith) le)));
      once = subst Once (sym (append_assoc u (p ∷ []) v))
          (once_put p u v g.once (All-weaker (Under mark p q) (λ x. p ≢ x) other (u ++ v) g.under));
      uneven = (let n = length-append u (p ∷ []) in let h = g.uneven in let d = c.deep in omega arith);
    }
      where
        c : Child f Seen mark p
        c = left_child le

        Now : Pair → Type 0
        Now = Under mark (mark p).parent q

        lower : (x : Pair) → (mark p).depth ≤ (mark x).depth → (mark q).depth ≤ (mark x).depth →
            (x ≢ (mark p).parent) × ((mark (mark p).parent).depth ≤ (mark x).depth) × ((mark q).depth ≤ (mark x).depth)
        lower x h k = let d = c.deep in ((λ e. let z = ap (λ (y : Pair). (mark y).depth) e in omega arith), omega arith, k)

        still : (x : Pair) → Under mark p q x → Now x
        still x = ⊎_elim inl (λ h. inr (lower x h.1 h.2))

        other : (x : Pair) → Under mark p q x → p ≢ x
        other x = ⊎_elim (λ e k. ne (k ∙ e)) (λ h. Ne-symm h.0)

    -- If q is the deeper one, its parent is written and takes its place.
    pub up_right : (mark p).depth ≤ (mark q).depth → Legs f Seen mark p (mark q).parent u ((mark q).parent ∷ v)
    up_right le = record {
      foot = g.foot;
      up = g.up;
      down = link c.joint g.down;
      seen_p = g.seen_p;
      seen_q = c.seen;
      one_seed = g.one_seed ∙ sym c.same;
      under = all_put Now (mark q).parent u v (All-weaker (Under mark p q) Now still (u ++ v) g.under) (inl refl);
      once = once_put (mark q).parent u v g.once (All-weaker (Under mark p q) (λ x. (mark q).parent ≢ x) other (u ++ v) g.under);
      uneven = (let h = g.uneven in let d = c.deep in omega arith);
    }
      where
        c : Child f Seen mark q
        c = right_child le

        Now : Pair → Type 0
        Now = Under mark p (mark q).parent

        deep : (x : Pair) → Under mark p q x → (mark q).depth ≤ (mark x).depth
        deep x = ⊎_elim (λ e. (let z = ap (λ (y : Pair). (mark y).depth) e in omega arith)) (λ h. h.2)

        still : (x : Pair) → Under mark p q x → Now x
        still x h = let d = c.deep in let z = deep x h in inr (⊎_elim (λ e k. ne (sym k ∙ e)) (λ k. k.0) h, omega arith, omega arith)

        other : (x : Pair) → Under mark p q x → (mark q).parent ≢ x
        other x h e = let d = c.deep in let z = ap (λ (y : Pair). (mark y).depth) e in let w = deep x h in omega arith

  -- Up and up, at most n times, until they meet.
  climb : (n : ℕ) (p q : Pair) (u v : List Pair) → (mark p).depth + (mark q).depth ≤ n → Legs f Seen mark p q u v →
      Dec (p ≡ q) → Dec ((mark q).depth ≤ (mark p).depth) → Ring f
  climb zero p q u v h g (yes e) d = (met g e).0
  climb zero p q u v h g (no ne) d = absurd (let c = (left_child g ne (omega arith)).deep in omega arith)
  climb (suc n) p q u v h g (yes e) d = (met g e).0
  climb (suc n) p q u v h g (no ne) (yes le) =
      let c = (left_child g ne le).deep in
      let x = (mark p).parent in climb n x q (u ++ p ∷ []) v (omega arith) (up_left g ne le) (same_pair x q) (dec_le (mark q).depth (mark x).depth)
  climb (suc n) p q u v h g (no ne) (no gt) =
      let c = (right_child g ne (omega arith)).deep in
      let x = (mark q).parent in climb n p x u (x ∷ v) (omega arith) (up_right g ne (omega arith)) (same_pair p x) (dec_le (mark x).depth (mark p).depth)

  -- So two clashing pairs of one component, with depths that add up to an even number, are in a ring.
  pub read_back : (p q : Pair) → Seen p → Seen q → (mark p).seed ≡ (mark q).seed → Joint f q p → ((mark p).depth + (mark q).depth) % 2 ≡ 0 → Ring f
  read_back p q sp sq e j h =
      climb ((mark p).depth + (mark q).depth) p q [] (q ∷ []) (omega arith) (start p q sp sq e j h) (same_pair p q) (dec_le (mark q).depth (mark p).depth)
