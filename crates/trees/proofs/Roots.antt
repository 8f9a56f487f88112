-- The whole tree as a part.
use Rattle.std.proofs.Common.{◌≡◌, ℕ, sym, ap, ◌∙◌, subst}
use Rattle.finds.specs.Trees.{Tree}
use Rattle.trees.specs.Cells.{Holds, Part}
use Rattle.trees.specs.Rows.{seen}
use Rattle.trees.specs.Subtrees.{Is, set_at}
use Rattle.trees.specs.Wholes.{Found, Within}
use Rattle.trees.specs.declared.rows.View.{View}
use Rattle.trees.specs.declared.subtree.Subtree.{Subtree}
use Rattle.trees.specs.declared.whole.WholeTree.{WholeTree}
use Rattle.trees.proofs.Cells.{holds_part}

-- Its set is that of the first cell.
pub root_set : {w : WholeTree} {s : Subtree} → Within w s → set_at s ≡ (seen w.rows).set 0
root_set {w} {s} i = ap (λ (v : View). (seen v).set s.root) i.rows ∙ ap (λ (x : ℕ). (seen w.rows).set x) i.root

pub found_set : {v : View} {n : ℕ} {w : WholeTree} {s : Subtree} → Found v n w → Within w s → set_at s ≡ (seen v).set 0
found_set f i = root_set i ∙ ap (λ (v : View). (seen v).set 0) f.rows

-- It is the tree that the cells hold.
pub root_is : {w : WholeTree} {s : Subtree} → Within w s → (t : Tree) → Holds (seen w.rows) w.count t → Is s t
root_is {w} {s} i t h =
    subst (λ (v : View). Part (seen v) s.count s.root t) (sym i.rows)
    (subst (λ (n : ℕ). Part (seen w.rows) n s.root t) (sym i.count) (subst (λ (x : ℕ). Part (seen w.rows) w.count x t) (sym i.root) (holds_part (seen w.rows) w.count t h)))

pub found_holds : {v : View} {n : ℕ} {w : WholeTree} → Found v n w → (t : Tree) → Holds (seen v) n t → Holds (seen w.rows) w.count t
found_holds {v} {n} {w} f t h = subst (λ (u : View). Holds (seen u) w.count t) (sym f.rows) (subst (λ (x : ℕ). Holds (seen v) x t) (sym f.count) h)
