-- The triangle lemma: seen from a third grave, all pairs that a walk reaches look like the one where it began.
use Rattle.std.proofs.Common.{◌≡◌, ℕ, Bool, true, false, not, ◌≢◌, ◌⊎◌, sym, refl, ap, ◌∙◌, subst, inl, inr}
use mathlib.Core.Logic.{Ne-symm}
use Rattle.finds.specs.Finds.{Finds, Pair, Walk, here, on, off}
use Rattle.finds.specs.Parity.{odd}
use Rattle.clashes.specs.Colours.{pair, op, Proper, Reach, flip, Colouring}
use Rattle.clashes.specs.Rings.{Joint, Parts}
use Rattle.clashes.proofs.Clashes.{neighbour, parted, parts_apart, other_way, fourth, opposed, clash_left, clash_right}
use Rattle.clashes.proofs.Labels.{flip_flip}

-- The pair after an even walk, and turned round after an odd one. So a clash with the pair turned round changes nothing.
abbrev turn : Bool → Pair → Pair
turn false p = p
turn true p = op p

-- Any other clash puts another grave in the place of one of the two: some kind lay in both of these and not in the grave that stays.
data Slide (f : Finds) : Pair → Pair → Type 0 where
  same : {p : Pair} → Slide f p p
  left : {x y z : ℕ} → Parts f x y z → Slide f (pair x y) (pair z y)
  right : {x y z : ℕ} → Parts f y x z → Slide f (pair x y) (pair x z)

slide : {f : Finds} {p q : Pair} (b : Bool) → Joint f p q → Slide f (turn b p) (turn (not b) q)
slide {f} {p} false j = neighbour j (λ q. Slide f p (op q)) same (λ c s. left s) (λ c s. right (other_way s))
slide {f} {p} true j = neighbour j (λ q. Slide f (op p) q) same (λ c s. right s) (λ c s. left (other_way s))

module _ {f : Finds} (v : Colouring f) where
  pub op_flips : (p : Pair) → Proper f p → v.label (op p) ≡ flip (v.label p)
  op_flips p h = v.flips p (op p) (opposed p h)

  -- A pair keeps its label when it slides.
  slide_second : {x y z : ℕ} → Parts f y x z → v.label (pair x y) ≡ v.label (pair x z)
  slide_second {x} {y} {z} s = op_flips (pair y x) (clash_left (parted s)) ∙ sym (v.flips (pair y x) (pair x z) (parted s))

  slide_first : {x y z : ℕ} → Parts f x y z → v.label (pair x y) ≡ v.label (pair z y)
  slide_first {x} {y} {z} s = sym (flip_flip (v.label (pair x y)))
      ∙ ap flip (sym (v.flips (pair x y) (pair y z) (parted s))) ∙ sym (op_flips (pair y z) (clash_right (parted s)))

  -- A third grave a from which the pair (b,c) looks unlike both (b,a) and (a,c).
  pub record Apex (a b c : ℕ) : Type 0 where
    pub ab : Proper f (pair a b)
    pub ac : Proper f (pair a c)
    pub not_ba : v.label (pair b c) ≢ v.label (pair b a)
    pub not_ac : v.label (pair b c) ≢ v.label (pair a c)

  -- A pair that looks from a as (b,c) does.
  pub record Like (a b c : ℕ) (p : Pair) : Type 0 where
    pub off_first : p.first ≢ a
    pub off_second : p.second ≢ a
    pub class : v.label p ≡ v.label (pair b c)
    pub to_first : v.label (pair a p.first) ≡ v.label (pair a b)
    pub to_second : v.label (pair a p.second) ≡ v.label (pair a c)

  -- It still does after a slide: the kind did not lie in a, or the label of (b,c) would be that of (a,c) or of (b,a).
  like_slides : {a b c : ℕ} {p q : Pair} → Apex a b c → Like a b c p → Slide f p q → Like a b c q
  like_slides t k same = k
  like_slides {a} {b} {c} t k (left {x = x} {y = y} {z = z} s) = go (fourth a t.ab.0 s)
    where
      go : Parts f x y a ⊎ Parts f x a z → Like a b c (pair z y)
      go (inl r) = absurd (t.not_ac (sym k.class ∙ slide_first r ∙ k.to_second))
      go (inr r) = record {
        off_first = parts_apart (other_way r);
        off_second = k.off_second;
        class = sym (slide_first s) ∙ k.class;
        to_first = sym (slide_second r) ∙ k.to_first;
        to_second = k.to_second;
      }
  like_slides {a} {b} {c} t k (right {x = x} {y = y} {z = z} s) = go (fourth a t.ab.0 s)
    where
      xa : v.label (pair x a) ≡ v.label (pair b a)
      xa = op_flips (pair a x) (t.ab.0, s.below.1, Ne-symm k.off_first) ∙ ap flip k.to_first ∙ sym (op_flips (pair a b) t.ab)

      go : Parts f y x a ⊎ Parts f y a z → Like a b c (pair x z)
      go (inl r) = absurd (t.not_ba (sym k.class ∙ slide_second r ∙ xa))
      go (inr r) = record {
        off_first = k.off_first;
        off_second = parts_apart (other_way r);
        class = sym (slide_second s) ∙ k.class;
        to_first = k.to_first;
        to_second = sym (slide_second r) ∙ k.to_second;
      }

  walk_like : {a b c n : ℕ} {p : Pair} → Apex a b c → Walk f n (pair b c) p → Like a b c (turn (odd n) p)
  walk_like t here = record { off_first = Ne-symm t.ab.2; off_second = Ne-symm t.ac.2; class = refl; to_first = refl; to_second = refl }
  walk_like t (on {n = n} w c) = like_slides t (walk_like t w) (slide (odd n) (inl c))
  walk_like t (off {n = n} w c) = like_slides t (walk_like t w) (slide (odd n) (inr c))

  -- The triangle lemma, for even walks.
  pub triangle : {a b c : ℕ} {p : Pair} → Apex a b c → Reach f false (pair b c) p → Like a b c p
  triangle {a} {b} {c} {p} t w = subst (λ (x : Bool). Like a b c (turn x p)) w.parity (walk_like t w.walk)
