-- Loops over some parts of a tree.
use Rattle.std.proofs.Common.{◌≡◌, ℕ, ◌+◌, ◌<◌, ◌≤◌, List, [], length, get_or, drop, sym, refl, ap, ◌∙◌, subst, add-zero, arith}
use Rattle.std.proofs.lemmas.List.{get_or-drop, drop-drop, length-drop}
use Rattle.finds.specs.Trees.{Tree}
use Rattle.trees.specs.Cells.{Part}
use Rattle.trees.specs.Rows.{seen}
use Rattle.trees.specs.Subtrees.{Is, set_at}
use Rattle.trees.specs.declared.rows.View.{View}
use Rattle.trees.specs.declared.subtree.Subtree.{Subtree}
use Rattle.changes.specs.Parts.{Lying, At, Steps}
use Rattle.changes.specs.declared.parts.Parts.{Parts}

-- The first x of the parts p are done, and the others are those of q.
pub record Through (p q : Parts) (x : ℕ) : Type 0 where
  pub rows : q.rows ≡ p.rows
  pub count : q.count ≡ p.count
  pub cells : q.cells.now ≡ drop x p.cells.now
  pub within : x ≤ length p.cells.now

pub through_start : {p q : Parts} → q ≡ p → Through p q 0
through_start {p} {q} e = subst (λ (r : Parts). Through p r 0) (sym e) (record { rows = refl; count = refl; cells = refl; within = omega arith })

pub through_some : {p q q' : Parts} {s : Subtree} {x : ℕ} → Through p q x → Steps q s q' → x < length p.cells.now
through_some {p} {x = x} t h = let a = ap length (sym t.cells ∙ h.cells) in let b = length-drop x p.cells.now in omega arith

pub through_at : {p q q' : Parts} {s : Subtree} {x : ℕ} → Through p q x → Steps q s q' → At p x s
through_at {p} {x = x} t h = record {
  rows = h.rows ∙ t.rows;
  count = h.count ∙ t.count;
  root = sym (ap (λ (l : List ℕ). get_or l 0 0) (sym t.cells ∙ h.cells)) ∙ get_or-drop x p.cells.now 0 0 ∙ ap (λ (y : ℕ). get_or p.cells.now y 0) (add-zero x);
}

pub through_more : {p q q' : Parts} {s : Subtree} {x : ℕ} → Through p q x → Steps q s q' → Through p q' (x + 1)
through_more {p} {q} {q'} {s} {x} t h = record {
  rows = h.rows_after ∙ t.rows;
  count = h.count_after ∙ t.count;
  cells = ap (drop 1) (sym h.cells ∙ t.cells) ∙ drop-drop 1 x p.cells.now;
  within = (let l = through_some t h in omega arith);
}

pub through_end : {p q : Parts} {x : ℕ} → Through p q x → q.cells.now ≡ [] → length p.cells.now ≡ x
through_end {p} {x = x} t e = let a = ap length (sym t.cells ∙ e) in let b = length-drop x p.cells.now in let w = t.within in omega arith

-- ---- what one of the parts is

pub at_is : {p : Parts} {s : Subtree} {x : ℕ} (u : Tree) → At p x s → Part (seen p.rows) p.count (get_or p.cells.now x 0) u → Is s u
at_is {p} {s} {x} u a h =
    subst (λ (v : View). Part (seen v) s.count s.root u) (sym a.rows)
    (subst (λ (n : ℕ). Part (seen p.rows) n s.root u) (sym a.count) (subst (λ (c : ℕ). Part (seen p.rows) p.count c u) (sym a.root) h))

pub at_set : {p : Parts} {s : Subtree} {x : ℕ} → At p x s → set_at s ≡ get_or p.rows.sets.now (get_or p.cells.now x 0) 0
at_set {p} {s} {x} a = ap (λ (v : View). get_or v.sets.now s.root 0) a.rows ∙ ap (λ (c : ℕ). get_or p.rows.sets.now c 0) a.root

-- What holds of the rows and cells holds of the parts, and the other way round.
pub to_parts : {v : View} {n : ℕ} {cs : List ℕ} {p : Parts} (Q : View → ℕ → List ℕ → Type 0) → Lying v n cs p → Q v n cs → Q p.rows p.count p.cells.now
to_parts {v} {n} {cs} {p} Q l q =
    subst (λ (u : View). Q u p.count p.cells.now) (sym l.rows) (subst (λ (m : ℕ). Q v m p.cells.now) (sym l.count) (subst (Q v n) (sym l.cells) q))

pub from_parts : {v : View} {n : ℕ} {cs : List ℕ} {p : Parts} (Q : View → ℕ → List ℕ → Type 0) → Lying v n cs p → Q p.rows p.count p.cells.now → Q v n cs
from_parts {v} {n} {cs} {p} Q l q =
    subst (Q v n) l.cells (subst (λ (m : ℕ). Q v m p.cells.now) l.count (subst (λ (u : View). Q u p.count p.cells.now) l.rows q))

-- The same of one part.
pub to_part : {p : Parts} {x : ℕ} {s : Subtree} (Q : View → ℕ → ℕ → Type 0) → At p x s → Q p.rows p.count (get_or p.cells.now x 0) → Q s.rows s.count s.root
to_part {p} {x} {s} Q a q =
    subst (λ (u : View). Q u s.count s.root) (sym a.rows) (subst (λ (m : ℕ). Q p.rows m s.root) (sym a.count) (subst (Q p.rows p.count) (sym a.root) q))

pub from_part : {p : Parts} {x : ℕ} {s : Subtree} (Q : View → ℕ → ℕ → Type 0) → At p x s → Q s.rows s.count s.root → Q p.rows p.count (get_or p.cells.now x 0)
from_part {p} {x} {s} Q a q =
    subst (Q p.rows p.count) a.root (subst (λ (m : ℕ). Q p.rows m s.root) a.count (subst (λ (u : View). Q u s.count s.root) a.rows q))
