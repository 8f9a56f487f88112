-- Cells moved one after the other, and what lies in them.
use Rattle.std.proofs.Common.{◌≡◌, ℕ, suc, ◌+◌, ◌<◌, ◌≤◌, ◌∙◌, ⊎_elim, arith}
use Rattle.std.proofs.lemmas.Bool.{cases_lt}
use Rattle.finds.specs.Trees.{Trees, none, more}
use Rattle.trees.specs.Cells.{nodes, all_nodes, Cells, Ats}
use Rattle.trees.proofs.Cells.{some_nodes, body_inner, body_moved}
use Rattle.changes.specs.Draft.{Kept}
use Rattle.changes.specs.Splice.{ShiftedCell, Shifted}

-- One cell more is moved, to y, and the cells before y are kept.
pub shifted_more : (R S T : Cells) (e x o y : ℕ) → y + e ≡ x + o → Shifted R S e x o → Kept S T y → ShiftedCell R T e o x y → Shifted R T e (x + 1) o
shifted_more R S T e x o y at a b here u v h l w = ⊎_elim (λ z. before z (a u v h z w)) last (cases_lt u x)
  where
    before : u < x → ShiftedCell R S e o u v → ShiftedCell R T e o u v
    before z s = let k : v < y = omega arith in record {
      outer = λ f. b.parents v k ∙ s.outer f;
      inner = λ f. let m = b.parents v k in let i = s.inner f in omega arith;
      sort = b.sorts v k ∙ s.sort;
      place = b.places v k ∙ s.place;
      set = b.sets v k ∙ s.set;
    }

    last : x ≤ u → ShiftedCell R T e o u v
    last z = let i : u ≡ x = omega arith in let j : v ≡ y = omega arith in rw (i, j) here

-- Branches that lie from e on, of a cell before e, are moved.
pub shifted_ats : (R S : Cells) (e n o i j p q : ℕ) (ts : Trees) → Shifted R S e n o → e ≤ i → i + all_nodes ts ≤ n → j + e ≡ i + o → p < e → Ats R i p q ts → Ats S j p q ts
shifted_ats R S e n o i j p q none s h l m b a = tt
shifted_ats R S e n o i j p q (more t ts) s h l m b a =
    let w = s i j h (omega (arith, some_nodes t)) m in (
      w.outer (omega (arith, a.0)) ∙ a.0,
      w.place ∙ a.1,
      body_moved R S e o i j t m w.sort w.set
          (λ x y u v z. let c = s x y (omega arith) (omega arith) z in (c.sort, c.set, c.place, c.inner (omega (arith, body_inner R i t a.2 x (omega arith) v))))
          a.2,
      shifted_ats R S e n o (i + nodes t) (j + nodes t) p (suc q) ts s (omega arith) (omega arith) (omega arith) b a.3,
    )
