-- The text of branches, one branch after the other.
use Rattle.std.proofs.Common.{◌≡◌, ℕ, ◌<◌, ◌≤◌, cond, List, ◌++◌, codes, decimal, is_ok, Ok, Err, Result, OnOk, sym, refl, ap, ◌∙◌, append_assoc, append-nil, arith}
use lib.Count.{count_trailing_zeros}
use Rattle.finds.specs.Branches.{◌+++◌}
use Rattle.finds.specs.Trees.{Tree, grave, any, row, Trees, none, more, len}
use Rattle.trees.specs.Cells.{kids, Cells, Body, Sound}
use Rattle.trees.proofs.Leaves.{trailing_pow}
use Rattle.trees.proofs.Sets.{grave_small}
use Rattle.text.specs.Show.{show, shows, spaced}

spaced_more : (ts : Trees) (u : Tree) → spaced (ts +++ more u none) ≡ spaced ts ++ (codes " " ++ show u)
spaced_more none u = ap (λ (z : List ℕ). codes " " ++ z) (append-nil (show u))
spaced_more (more t ts) u =
    ap (λ (z : List ℕ). codes " " ++ z) (ap (λ (z : List ℕ). show t ++ z) (spaced_more ts u) ∙ sym (append_assoc (show t) (spaced ts) (codes " " ++ show u)))

-- Of what is written, a is what stood before the branches, b what stands before the next branch, and c what stands behind it.
-- The first branch is written with no space before it, and any other with one.
pub first_written : (ts : Trees) (u : Tree) (a b c : List ℕ) → len ts ≤ 0 → b ≡ a ++ shows ts → c ≡ b ++ show u → c ≡ a ++ shows (ts +++ more u none)
first_written none u a b c l h k = k ∙ ap (λ (z : List ℕ). z ++ show u) (h ∙ append-nil a) ∙ ap (λ (z : List ℕ). a ++ z) (sym (append-nil (show u)))
first_written (more t ts) u a b c l h k = absurd (omega arith)

pub next_written : (ts : Trees) (u : Tree) (a b d c : List ℕ) → 0 < len ts → b ≡ a ++ shows ts → d ≡ b ++ codes " " → c ≡ d ++ show u → c ≡ a ++ shows (ts +++ more u none)
next_written none u a b d c l h k m = absurd (omega arith)
next_written (more t ts) u a b d c l h k m =
    m ∙ ap (λ (z : List ℕ). z ++ show u) (k ∙ ap (λ (z : List ℕ). z ++ codes " ") h) ∙ append_assoc (a ++ shows (more t ts)) (codes " ") (show u)
    ∙ append_assoc a (shows (more t ts)) (codes " " ++ show u)
    ∙ ap (λ (z : List ℕ). a ++ z) (append_assoc (show t) (spaced ts) (codes " " ++ show u) ∙ ap (λ (z : List ℕ). show t ++ z) (sym (spaced_more ts u)))

-- A grave is shown by its number.
pub grave_shown : (R : Cells) (i : ℕ) (t : Tree) → Body R i t → Sound t → R.sort i ≡ 0 → decimal (count_trailing_zeros 64 (R.set i)) ≡ show t
grave_shown R i (grave g) h s e = ap decimal (ap (count_trailing_zeros 64) h.1 ∙ trailing_pow 64 g (grave_small g s))
grave_shown R i (any ts) h s e = absurd (omega (arith, h.0))
grave_shown R i (row ts) h s e = absurd (omega (arith, h.0))

-- Branches in any order stand in braces, those in a row in brackets.
pub any_shown : (R : Cells) (i : ℕ) (t : Tree) → Body R i t → R.sort i ≡ 1 → codes "{" ++ (shows (kids t) ++ codes "}") ≡ show t
any_shown R i (grave g) h e = absurd (omega (arith, h.0))
any_shown R i (any ts) h e = refl
any_shown R i (row ts) h e = absurd (omega (arith, h.0))

pub row_shown : (R : Cells) (i : ℕ) (t : Tree) → Body R i t → R.sort i ≡ 2 → codes "[" ++ (shows (kids t) ++ codes "]") ≡ show t
row_shown R i (grave g) h e = absurd (omega (arith, h.0))
row_shown R i (any ts) h e = absurd (omega (arith, h.0))
row_shown R i (row ts) h e = refl

-- The opening bracket, the branches, and the closing bracket.
pub around : (a o x k : List ℕ) {b c d y : List ℕ} → b ≡ a ++ o → c ≡ b ++ x → d ≡ c ++ k → o ++ (x ++ k) ≡ y → d ≡ a ++ y
around a o x k e f g h =
    g ∙ ap (λ (z : List ℕ). z ++ k) (f ∙ ap (λ (z : List ℕ). z ++ x) e) ∙ append_assoc (a ++ o) x k ∙ append_assoc a o (x ++ k) ∙ ap (λ (z : List ℕ). a ++ z) h

-- What is pushed is written if there is memory.
pub pushed : {X Y : Type 0} (r : Result X Y) (a b c : List ℕ) → c ≡ cond (is_ok r) b a → OnOk r (c ≡ b)
pushed (Ok x) a b c e = e
pushed (Err y) a b c e = tt
