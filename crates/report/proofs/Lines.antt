-- The lines on the nearest graves, one grave after the other.
use Rattle.std.proofs.Common.{◌≡◌, ℕ, zero, suc, ◌+◌, ◌<◌, cond, eqb, List, ◌++◌, None, Option, sym, refl, ap, subst, append_assoc, append-nil, add-one, arith, below_more, eq-eqb, ne_eqb}
use Rattle.finds.specs.Finds.{Finds}
use Rattle.finds.specs.Trees.{Tree, graves}
use Rattle.trees.specs.declared.whole.WholeTree.{WholeTree}
use Rattle.certain.specs.Near.{Told}
use Rattle.certain.specs.Shown.{ShownBy}
use Rattle.certain.specs.declared.neighbours.Neighbours.{Neighbours}
use Rattle.report.specs.Answer.{near_line, near_lines}
use Rattle.report.specs.Tells.{Lines}

-- What is known of the grave b is r, and of every other grave what was known.
abbrev with : ℕ → Option Neighbours → (ℕ → Option Neighbours) → ℕ → Option Neighbours
with b r near k = cond (eqb k b) r (near k)

with_same : (b : ℕ) (r : Option Neighbours) (near : ℕ → Option Neighbours) → with b r near b ≡ r
with_same b r near = rw (eq-eqb b b refl) refl

with_other : (b k : ℕ) (r : Option Neighbours) (near : ℕ → Option Neighbours) → k < b → with b r near k ≡ near k
with_other b k r near l = rw (ne_eqb k b (omega arith)) refl

same_lines : (x y : ℕ → Option Neighbours) (n : ℕ) → ((k : ℕ) → k < n → x k ≡ y k) → near_lines x n ≡ near_lines y n
same_lines x y zero h = refl
same_lines x y (suc n) h = let e = same_lines x y n (λ k l. h k (omega arith)) in let p = ap (near_line n) (h n (omega arith)) in cc

pub lines_none : {w : WholeTree} {start : List ℕ} → Lines w 0 start start
lines_none = record { near = λ _. None; told = λ f t s b l. absurd (omega arith); written = sym (append-nil _) }

-- The line on the next grave behind the others.
pub lines_more : {w : WholeTree} {n : ℕ} {start mid end : List ℕ} (r : Option Neighbours) → Lines w n start mid → ((f : Finds) (t : Tree) → ShownBy w f t → Told f (graves t) n r) → end ≡ mid ++ near_line n r → Lines w (n + 1) start end
lines_more {n = n} {start = start} {end = end} r h told e =
    record {
      near = with n r h.near;
      told = λ f t s. below_more (λ k. Told f (graves t) k (with n r h.near k)) n (λ k l. rw (with_other n k r h.near l) (h.told f t s k l)) (rw (with_same n r h.near) (told f t s));
      written =
          rw (add-one n) (
          let s = same_lines (with n r h.near) h.near n (λ k l. with_other n k r h.near l) in
          let p = with_same n r h.near in
          let a = append_assoc start (near_lines h.near n) (near_line n r) in
          cc);
    }

-- The same for a number that is equal.
pub lines_all : {w : WholeTree} {n m : ℕ} {start end : List ℕ} → n ≡ m → Lines w n start end → Lines w m start end
lines_all {w} {start = start} {end = end} e h = subst (λ (k : ℕ). Lines w k start end) e h
