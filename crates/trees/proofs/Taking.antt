-- Branches in a row read against a row of graves, branch by branch, from one end of it or the other.
use Rattle.std.proofs.Common.{◌≡◌, ℕ, suc, ◌+◌, ◌-◌, ◌<◌, Bool, true, false, not, List, length, get_or, take, drop, sym, refl, ap, ◌∙◌, subst, add-one, arith}
use Rattle.std.proofs.lemmas.List.{drop_all, take_all}
use Rattle.finds.specs.Sets.{has}
use Rattle.finds.specs.Trees.{Tree, grave, any, row, Trees, none, more, Allows, nil}
use Rattle.trees.specs.Cells.{size, sizes, kids, Cells, Body, Sound}
use Rattle.trees.specs.Reading.{Reads, left_of, beginning_of}
use Rattle.trees.proofs.Cells.{body_set}
use Rattle.trees.proofs.Allowing.{reads_to, reads_from, one_way}
use Rattle.trees.proofs.Sets.{sound_kids}

-- So far `at` graves of the row l are read, from its end if b is true; the branches of t read l if the rest of them read what is left of it.
pub record Taken (b : Bool) (at : ℕ) (l : List ℕ) (t : Tree) (rest : Trees) : Type 0 where
  pub long : at + sizes rest ≡ length l
  pub to : Reads b rest (left_of b at l) → Reads b (kids t) l
  pub from : Reads b (kids t) l → Reads b rest (left_of b at l)

pub taken_start : (b : Bool) (l : List ℕ) (t : Tree) → sizes (kids t) ≡ length l → Taken b 0 l t (kids t)
taken_start b l t e = record { long = omega arith; to = subst (Reads b (kids t)) (whole b); from = subst (Reads b (kids t)) (sym (whole b)) }
  where
    whole : (b : Bool) → left_of b 0 l ≡ l
    whole false = refl
    whole true = take_all (length l - 0) l (omega arith)

pub taken_more : {b : Bool} {at : ℕ} {l : List ℕ} {t u : Tree} {us : Trees} → Taken b at l t (more u us) → Allows u (take (size u) (drop (beginning_of b at (size u) (length l)) l)) → Taken b (at + size u) l t us
taken_more {b} {at} {l} {t} {u} {us} k h = record {
  long = (let e = k.long in omega arith);
  to = λ r. k.to (reads_from b u us at l (let e = k.long in omega arith) h r);
  from = λ r. (reads_to b u us at l (let e = k.long in omega arith) (k.from r)).1;
}

pub taken_not : {b : Bool} {at : ℕ} {l : List ℕ} {t u : Tree} {us : Trees} → Taken b at l t (more u us) → (Allows u (take (size u) (drop (beginning_of b at (size u) (length l)) l)) → ⊥) → Reads b (kids t) l → ⊥
taken_not {b} {at} {l} {t} {u} {us} k n r = n (reads_to b u us at l (let e = k.long in omega arith) (k.from r)).0

pub taken_end : {b : Bool} {at : ℕ} {l : List ℕ} {t : Tree} → Taken b at l t none → Reads b (kids t) l
taken_end {b} {at} {l} {t} k = k.to (go b)
  where
    go : (b : Bool) → Reads b none (left_of b at l)
    go false = rw (drop_all at l (let e = k.long in omega arith)) nil
    go true = let e : length l - at ≡ 0 = (let e = k.long in omega arith) in rw e nil

-- The first grave of the row tells whether it is turned round: it is if that grave is not in the first branch.
pub way : (R : Cells) (i : ℕ) (t : Tree) (l : List ℕ) (b : Bool) → Body R i t → R.sort i ≡ 2 → Sound t → 0 < length l → has (R.set (i + 1)) (get_or l 0 0) ≡ not b →
    (Allows t l → Reads b (kids t) l) × (Reads b (kids t) l → Allows t l)
way R i (grave g) l b body e s some h = absurd (omega (arith, body.0))
way R i (any ts) l b body e s some h = absurd (omega (arith, body.0))
way R i (row none) l b body e s some h = absurd (let g = s.good.0 in omega arith)
way R i (row (more u us)) l b body e s some h =
    one_way u us l (let g = s.good.0 in omega arith) (sound_kids (row (more u us)) s) some b
    (subst (λ (x : ℕ). has x (get_or l 0 0) ≡ not b) (ap R.set (add-one i) ∙ body_set R (suc i) u body.2.2) h)
