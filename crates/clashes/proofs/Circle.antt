-- No three graves stand in a circle, each before the next.
use Rattle.std.proofs.Common.{◌≡◌, ℕ, ◌≤◌, Bool, true, false, not, ◌≢◌, sym, ap, ◌∙◌, subst, arith}
use mathlib.Core.Logic.{Ne-symm}
use mathlib.Core.Bool.{false≢true}
use native.Mathlib.Decide.{dec_le}
use Rattle.finds.specs.Finds.{Finds, Pair}
use Rattle.finds.proofs.Parity.{◌⊕◌}
use Rattle.clashes.specs.Colours.{pair, Proper, Colouring}
use Rattle.clashes.proofs.Clashes.{first_of, op_proper}
use Rattle.clashes.proofs.Walks.{stay, return, said_as, walk_proper}
use Rattle.clashes.proofs.Labels.{same_seed, same_col}
use Rattle.clashes.proofs.Triangle.{op_flips, Apex, Like, triangle}

module _ {f : Finds} (v : Colouring f) where
  abbrev seed : Pair → Pair
  seed p = (v.label p).seed

  -- By its colour, a is before b.
  pub record So (a b : ℕ) : Type 0 where
    pub proper : Proper f (pair a b)
    pub is : (v.label (pair a b)).col ≡ false

  -- Then b is not before a.
  pub not_so : {a b : ℕ} → So a b → (v.label (pair b a)).col ≡ true
  not_so {a} {b} s = same_col (op_flips v (pair a b) s.proper) ∙ ap not s.is

  -- A pair that is not so is so turned round.
  pub so_op : {a b : ℕ} → Proper f (pair a b) → (v.label (pair a b)).col ≡ true → So b a
  so_op {a} {b} h e = record { proper = op_proper f (pair a b) h; is = same_col (op_flips v (pair a b) h) ∙ ap not e }

  -- Three graves, each before the next.
  pub record Circle (a b c : ℕ) : Type 0 where
    pub ab : So a b
    pub bc : So b c
    pub ca : So c a

  onward : {a b c : ℕ} → Circle a b c → Circle b c a
  onward t = record { ab = t.bc; bc = t.ca; ca = t.ab }

  unlike : {p q : Pair} → (v.label p).col ≡ false → (v.label q).col ≡ true → v.label p ≢ v.label q
  unlike h k e = false≢true (sym h ∙ same_col e ∙ k)

  -- By the triangle lemma the seed of two of them looks from the third as they do: the walk to it is even, since they are so.
  seed_like : {a b c : ℕ} → Circle a b c → Like v a b c (seed (pair b c))
  seed_like {a} {b} {c} t = triangle v apex (said_as (ap (λ (x : Bool). false ⊕ x) t.bc.is) (return stay (v.holds (pair b c) t.bc.proper).reached))
    where
      apex : Apex v a b c
      apex = record {
        ab = t.ab.proper;
        ac = op_proper f (pair c a) t.ca.proper;
        not_ba = unlike t.bc.is (not_so t.ab);
        not_ac = unlike t.bc.is (not_so t.ca);
      }

  -- So the seed stands in a circle with the third too.
  to_seed : {a b c : ℕ} → Circle a b c → Circle a (seed (pair b c)).first (seed (pair b c)).second
  to_seed {a} {b} {c} t = record {
    ab = record { proper = (t.ab.proper.0, h.0, Ne-symm k.off_first); is = same_col k.to_first ∙ t.ab.is };
    bc = record { proper = h; is = same_col k.class ∙ t.bc.is };
    ca = so_op (t.ab.proper.0, h.1, Ne-symm k.off_second) (same_col k.to_second ∙ not_so t.ca);
  }
    where
      k : Like v a b c (seed (pair b c))
      k = seed_like t

      h : Proper f (seed (pair b c))
      h = walk_proper (v.holds (pair b c) t.bc.proper).reached.walk t.bc.proper

  -- In a circle the first grave of the seed of (b,c) is above that of the seed of (a,b).
  -- Let (y,z) be the seed of (b,c). The seed of (a,y) is that of (a,b), and it is that of (y,a) too, so it does not begin above y: were the claim false, it would begin with y.
  -- But from z it looks as (a,y) does, so that (z,y) would have the colour of (z,a), and it has not.
  least_first : {a b c : ℕ} → Circle a b c → (seed (pair b c)).first ≤ (seed (pair a b)).first → ⊥
  least_first {a} {b} {c} t le = unlike u.ca.is (not_so u.bc) (sym (subst (λ (x : ℕ). v.label (pair z x) ≡ v.label (pair z a)) one k.to_first))
    where
      y : ℕ
      y = (seed (pair b c)).first

      z : ℕ
      z = (seed (pair b c)).second

      u : Circle a y z
      u = to_seed t

      k : Like v z a y (seed (pair a y))
      k = seed_like (onward (onward u))

      one : (seed (pair a y)).first ≡ y
      one =
          let old = first_of (same_seed (seed_like t).to_first) in
          let flipped = first_of (same_seed (op_flips v (pair a y) u.ab.proper)) in
          let low = (v.holds (pair y a) (op_proper f (pair a y) u.ab.proper)).least in omega arith

  -- Of three numbers in a circle one is not above the one before it.
  pub no_circle : {a b c : ℕ} → Circle a b c → ⊥
  no_circle {a} {b} {c} t = go (dec_le (start b c) (start a b)) (dec_le (start c a) (start b c))
    where
      start : ℕ → ℕ → ℕ
      start x y = (seed (pair x y)).first

      go : Dec (start b c ≤ start a b) → Dec (start c a ≤ start b c) → ⊥
      go (yes h) d = least_first t h
      go (no h) (yes k) = least_first (onward t) k
      go (no h) (no k) = least_first (onward (onward t)) (omega arith)
