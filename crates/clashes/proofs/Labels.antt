-- Labels of pairs: flipped, a label has the other colour; moved, all labels of one seed get another.
use Rattle.std.proofs.Common.{◌≡◌, ◌≤◌, Bool, true, ◌≢◌, sym, ap, ◌∙◌, subst, inl, arith}
use mathlib.Core.Logic.{ite, if_pos, if_neg, apply_ite}
use Rattle.finds.specs.Finds.{Finds, Pair, Clash, Ground}
use Rattle.finds.proofs.Parity.{◌⊕◌, not_not, ⊕_not, ⊕_twice}
use Rattle.clashes.specs.Colours.{Reach, Label, flip, Holds}
use Rattle.clashes.proofs.Clashes.{same_pair, first_of, clash_left}
use Rattle.clashes.proofs.Walks.{said_as, stay, step, join, return, ground}

-- The parts of equal labels.
pub same_seed : {l m : Label} → l ≡ m → l.seed ≡ m.seed
same_seed e = ap (λ (l : Label). l.seed) e

pub same_col : {l m : Label} → l ≡ m → l.col ≡ m.col
same_col e = ap (λ (l : Label). l.col) e

pub flip_flip : (l : Label) → flip (flip l) ≡ l
flip_flip l = λ i. record { seed = l.seed; col = not_not l.col i }

-- Two clashing pairs of one seed and one colour: from one to the other, back to the seed and to the first again is an odd walk.
pub odd_ring : {f : Finds} {p q : Pair} (l m : Label) → Clash f p q → Holds f p l → Holds f q m → l.seed ≡ m.seed → l.col ≡ m.col → Ground f
odd_ring {f} {p} {q} l m c h k e g = ground p (clash_left c)
    (said_as (ap (λ (x : Bool). true ⊕ m.col ⊕ x) g ∙ ⊕_twice true m.col)
    (join (return (step stay (inl c)) k.reached) (subst (λ (r : Pair). Reach f l.col r p) e h.reached)))

-- All that had the seed t get the seed s, from which a walk of parity b leads to t.
module _ (s : Pair) (b : Bool) (t : Pair) where
  abbrev moved : Label → Label
  moved l = record { seed = s; col = b ⊕ l.col }

  abbrev pub relabel : Label → Label
  relabel l = ite (same_pair l.seed t) (moved l) l

  pub relabel_yes : (l : Label) → l.seed ≡ t → relabel l ≡ record { seed = s; col = b ⊕ l.col }
  relabel_yes l e = if_pos (same_pair l.seed t) e (moved l) l

  pub relabel_no : (l : Label) → l.seed ≢ t → relabel l ≡ l
  relabel_no l ne = if_neg (same_pair l.seed t) ne (moved l) l

  -- What differed in colour alone still does.
  pub relabel_flip : (l : Label) → relabel (flip l) ≡ flip (relabel l)
  relabel_flip l = (λ i. ite d (record { seed = s; col = sym (⊕_not b l.col) i }) (flip l)) ∙ sym (apply_ite flip d (moved l) l)
    where
      d : Dec (l.seed ≡ t)
      d = same_pair l.seed t

  -- What a label says of its pair stays so.
  pub relabel_holds : {f : Finds} (l : Label) (p : Pair) → Reach f b s t → s.first ≤ t.first → Holds f p l → Holds f p (relabel l)
  relabel_holds {f} l p w u h = go (same_pair l.seed t)
    where
      go : (d : Dec (l.seed ≡ t)) → Holds f p (ite d (moved l) l)
      go (yes e) = record {
        reached = join (subst (λ (r : Pair). Reach f b s r) (sym e) w) h.reached;
        least = (let x = first_of e in let y = h.least in omega arith);
      }
      go (no e) = h
