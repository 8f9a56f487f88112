-- What is answered of what is certain, for the tree in lent rows.
use Rattle.std.specs.Prelude.{◌≡◌, ℕ, ◌<◌, min, Bool, List, length, drop, Some, None, Decides, Option, slice_index}
use Rattle.finds.specs.Finds.{Finds}
use Rattle.finds.specs.Trees.{Tree, graves}
use Rattle.trees.specs.Cells.{size}
use Rattle.trees.specs.Checks.{TreeIn}
use Rattle.trees.specs.declared.rows.View.{View}
use Rattle.certain.specs.Certain.{Between}
use Rattle.certain.specs.Near.{Written}
use Rattle.certain.specs.Shown.{Shows}

-- Whether b is certain to lie between a and c, for all finds that the tree in the first n cells stands for; or that the cells hold no tree.
abbrev pub CertainAnswer : View → ℕ → ℕ → ℕ → ℕ → Option Bool → Type 0
CertainAnswer v n a b c None = TreeIn v n → ⊥
CertainAnswer v n a b c (Some r) = TreeIn v n × ((f : Finds) (t : Tree) → Shows v n f t → Decides r (Between f a b c))

-- For each of the m graves of the tree the two nearest stand in the lists, which are else as before; or the lists are as before, and the cells hold no tree or one with more graves than there is room for.
abbrev pub NearAnswer : View → ℕ → List ℕ → List ℕ → List ℕ → List ℕ → Option ℕ → Type 0
NearAnswer v n before behind before' behind' None = (before' ≡ before) × (behind' ≡ behind) × ((h : TreeIn v n) → min (length before) (length behind) < size h.tree)
NearAnswer v n before behind before' behind' (Some m) =
    TreeIn v n
    × ((f : Finds) (t : Tree) → Shows v n f t → (m ≡ f.graves) × ((b : ℕ) → b < m → Written f (graves t) b (slice_index before' b) (slice_index behind' b)))
    × (drop m before' ≡ drop m before)
    × (drop m behind' ≡ drop m behind)
