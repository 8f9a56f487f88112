-- The steps of a search that goes from pair to clashing pair, until its end is a colouring.
-- A program that keeps its notes in arrays has Search in the invariants of its loops, with what the arrays say for Seen, Done and mark.
use Rattle.std.proofs.Common.{◌≡◌, ℕ, zero, suc, ◌+◌, ◌≤◌, ◌⊎◌, ◌↔◌, sym, refl, ap, ◌∙◌, subst, subst₂, inl, inr, ⊎_elim, arith}
use Rattle.finds.specs.Finds.{Finds, Pair}
use Rattle.finds.specs.Parity.{odd}
use Rattle.finds.proofs.Parity.{odd_other}
use Rattle.clashes.specs.Colours.{pair, Proper, Reach, Colouring}
use Rattle.clashes.specs.Rings.{Joint}
use Rattle.clashes.specs.Search.{Mark, Child, Root, Differ, Search, Adds}
use Rattle.clashes.proofs.Clashes.{first_of, clash_left, joint_op, joint_left}
use Rattle.clashes.proofs.Walks.{stay, step}

-- The parts of equal marks, and equal marks from their parts, as three arrays hold them.
mark_seed : {m n : Mark} → m ≡ n → m.seed ≡ n.seed
mark_seed e = ap (λ (m : Mark). m.seed) e

mark_parent : {m n : Mark} → m ≡ n → m.parent ≡ n.parent
mark_parent e = ap (λ (m : Mark). m.parent) e

mark_depth : {m n : Mark} → m ≡ n → m.depth ≡ n.depth
mark_depth e = ap (λ (m : Mark). m.depth) e

pub same_mark : {m n : Mark} → m.seed ≡ n.seed → m.parent ≡ n.parent → m.depth ≡ n.depth → m ≡ n
same_mark e g h = λ i. record { seed = e i; parent = g i; depth = h i }

-- Before the first step: nothing is seen.
pub begin : {f : Finds} {Seen Done : Pair → Type 0} (mark : Pair → Mark) → ((p : Pair) → Seen p → ⊥) → ((p : Pair) → Done p → ⊥) → Search f (pair 0 0) Seen Done mark
begin mark none idle = record {
  rooted = λ p h. absurd (none p h);
  least = λ p h. absurd (none p h);
  seen = λ p h. absurd (idle p h);
  closed = λ p q h c. absurd (idle p h);
  waits = λ p h. absurd (none p h);
  swept = λ p h. inr (omega arith);
}

module _ {f : Finds} {s : Pair} {Seen Done : Pair → Type 0} {mark : Pair → Mark} (k : Search f s Seen Done mark) where
  -- The queue is empty: on to another seed t, if all pairs with a lower first grave than t has are seen.
  pub next : (t : Pair) → ((p : Pair) → Seen p → Done p) → ((p : Pair) → Proper f p → Seen p ⊎ (t.first ≤ p.first)) → Search f t Seen Done mark
  next t all low = record { rooted = k.rooted; least = k.least; seen = k.seen; closed = k.closed; waits = λ p h. inl (all p h); swept = low }

  -- ---- a change of the notes

  -- What was seen is still a seed or a child.
  rooted_still : {Seen' : Pair → Type 0} {mark' : Pair → Mark} → ((p : Pair) → Seen p → Seen' p) → ((p : Pair) → Seen p → mark' p ≡ mark p) →
      (p : Pair) → Seen p → Root mark' p ⊎ Child f Seen' mark' p
  rooted_still {Seen'} {mark'} keeps old p h = ⊎_elim (λ r. inl (r.0 ∙ sym (mark_seed o), mark_depth o ∙ r.1)) (λ c. inr (child c)) (k.rooted p h)
    where
      o : mark' p ≡ mark p
      o = old p h

      child : Child f Seen mark p → Child f Seen' mark' p
      child c = record {
        seen = subst Seen' (sym (mark_parent o)) (keeps (mark p).parent c.seen);
        joint = subst (λ (x : Pair). Joint f x p) (sym (mark_parent o)) c.joint;
        same = mark_seed u ∙ c.same ∙ sym (mark_seed o);
        deep = ap (λ (n : ℕ). n + 1) (mark_depth u) ∙ c.deep ∙ sym (mark_depth o);
      }
        where
          u : mark' (mark' p).parent ≡ mark (mark p).parent
          u = ap mark' (mark_parent o) ∙ old (mark p).parent c.seen

  module _ {Seen' Done' : Pair → Type 0} {mark' : Pair → Mark} where
    -- What is seen now was seen, or is fresh: a seed or a child in the component at work.
    grown : ((p : Pair) → Seen p → Seen' p) → ((p : Pair) → Seen p → mark' p ≡ mark p) → ((p : Pair) → Done p ↔ Done' p) →
        ((p : Pair) → Seen' p → Seen p ⊎ ((Root mark' p ⊎ Child f Seen' mark' p) × ((mark' p).seed ≡ s) × (s.first ≤ p.first))) → Search f s Seen' Done' mark'
    grown keeps old done fresh = record {
      rooted = λ p h. ⊎_elim (rooted_still keeps old p) (λ x. x.0) (fresh p h);
      least = λ p h. ⊎_elim (λ x. (let e = first_of (mark_seed (old p x)) in let l = k.least p x in omega arith))
          (λ x. (let e = first_of x.1 in let l = x.2 in omega arith)) (fresh p h);
      seen = λ p h. keeps p (k.seen p ((done p).1 h));
      closed = λ p q h c.
          let d = (done p).1 h in
          let g = k.closed p q d c in (keeps q g.0, subst₂ Differ (sym (old p (k.seen p d))) (sym (old q g.0)) g.1);
      waits = λ p h. ⊎_elim (λ x. ⊎_elim (λ d. inl ((done p).0 d)) (λ e. inr (mark_seed (old p x) ∙ e)) (k.waits p x)) (λ x. inr x.1) (fresh p h);
      swept = λ p h. ⊎_elim (λ x. inl (keeps p x)) inr (k.swept p h);
    }

    -- The same search, its notes said otherwise.
    pub retold : ((p : Pair) → Seen p ↔ Seen' p) → ((p : Pair) → Done p ↔ Done' p) → ((p : Pair) → Seen p → mark' p ≡ mark p) → Search f s Seen' Done' mark'
    retold same done old = grown (λ p. (same p).0) old done (λ p h. inl ((same p).1 h))

    add : (r : Pair) → Adds Seen Done mark r Seen' Done' mark' → Root mark' r ⊎ Child f Seen' mark' r → (mark' r).seed ≡ s → s.first ≤ r.first →
        Search f s Seen' Done' mark'
    add r a root e low = grown a.keeps a.old a.done (λ p h. ⊎_elim inl (λ x. inr (subst Fresh (sym x) (root, e, low))) (a.only p h))
      where
        Fresh : Pair → Type 0
        Fresh p = (Root mark' p ⊎ Child f Seen' mark' p) × ((mark' p).seed ≡ s) × (s.first ≤ p.first)

    -- A new seed is put into the empty queue.
    pub plant : Adds Seen Done mark s Seen' Done' mark' → (mark' s).seed ≡ s → (mark' s).depth ≡ 0 → Search f s Seen' Done' mark'
    plant a e d = add s a (inl (sym e, d)) e (omega arith)

    -- At work on p, whose component is that of s, the search meets q, which it has not seen: q gets p for its parent, and joins the queue.
    pub paint : (p q : Pair) → Adds Seen Done mark q Seen' Done' mark' → Seen p → (mark p).seed ≡ s → Joint f p q → (Seen q → ⊥) →
        (mark' q).seed ≡ s → (mark' q).parent ≡ p → (mark' q).depth ≡ (mark p).depth + 1 → Search f s Seen' Done' mark'
    paint p q a h e c new is up deep = add q a (inr child) is (⊎_elim (λ x. absurd (new x)) (λ x. x) (k.swept q (joint_left (joint_op c))))
      where
        o : mark' (mark' q).parent ≡ mark p
        o = ap mark' up ∙ a.old p h

        child : Child f Seen' mark' q
        child = record {
          seen = subst Seen' (sym up) (a.keeps p h);
          joint = subst (λ (x : Pair). Joint f x q) (sym up) c;
          same = mark_seed o ∙ e ∙ sym is;
          deep = ap (λ (n : ℕ). n + 1) (mark_depth o) ∙ sym deep;
        }

  -- ---- no change of the notes

  -- At work on p, the search meets q, which it has seen: q has the seed of p. So p and q differ, or their depths add up to an even number and there is a ring.
  pub look : (p q : Pair) → Seen p → (mark p).seed ≡ s → Joint f p q → Seen q → (mark q).seed ≡ (mark p).seed
  look p q h e c g = ⊎_elim (λ d. sym (k.closed q p d (joint_op c)).1.0) (λ x. x ∙ sym e) (k.waits q g)

  -- All that clashes with p has been looked at: p leaves the queue.
  pub finish : {Done' : Pair → Type 0} (p : Pair) → Seen p → ((q : Pair) → Joint f p q → Seen q × Differ (mark p) (mark q)) →
      ((r : Pair) → (Done r ⊎ (r ≡ p)) ↔ Done' r) → Search f s Seen Done' mark
  finish p h all done = record {
    rooted = k.rooted;
    least = k.least;
    seen = λ r x. ⊎_elim (k.seen r) (λ e. subst Seen (sym e) h) ((done r).1 x);
    closed = λ r q x. ⊎_elim (k.closed r q) (λ e. subst (λ (y : Pair). Joint f y q → Seen q × Differ (mark y) (mark q)) (sym e) (all q)) ((done r).1 x);
    waits = λ r x. ⊎_elim (λ d. inl ((done r).0 (inl d))) inr (k.waits r x);
    swept = k.swept;
  }

  -- ---- the end

  -- Each pair seen is reached from its seed in as many steps as it is deep.
  steps : (n : ℕ) (p : Pair) → Seen p → (mark p).depth ≡ n → Reach f (odd n) (mark p).seed p
  steps zero p h e = ⊎_elim (λ r. subst (λ (x : Pair). Reach f (odd 0) x p) r.0 stay) (λ c. absurd (let d = c.deep in omega arith)) (k.rooted p h)
  steps (suc n) p h e = ⊎_elim (λ r. absurd (let d = r.1 in omega arith))
      (λ c. step (subst (λ (x : Pair). Reach f (odd n) x (mark p).parent) c.same (steps n (mark p).parent c.seen (let d = c.deep in omega arith))) c.joint)
      (k.rooted p h)

  -- Every pair is seen and the queue is empty: the marks are a colouring.
  pub colours : ((p : Pair) → Proper f p → Seen p) → ((p : Pair) → Seen p → Done p) → Colouring f
  colours every all = record {
    label = λ p. record { seed = (mark p).seed; col = odd (mark p).depth };
    flips = λ p q c.
        let d = (k.closed p q (all p (every p (clash_left c))) (inl c)).1 in
        λ i. record { seed = d.0 i; col = odd_other (mark p).depth (mark q).depth d.1 i };
    holds = λ p h. record { reached = steps (mark p).depth p (every p h) refl; least = k.least p (every p h) };
  }
