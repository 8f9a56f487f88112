-- What is answered of the tree in lent rows.
use Rattle.std.specs.Prelude.{◌≡◌, ℕ, ◌<◌, Bool, List, ◌++◌, length, drop, Some, None, Decides, Option}
use Rattle.finds.specs.Trees.{Tree, Allows, graves}
use Rattle.trees.specs.Cells.{size, Sound, Holds}
use Rattle.trees.specs.Checks.{TreeIn}
use Rattle.trees.specs.Rows.{seen}
use Rattle.trees.specs.declared.rows.View.{View}

-- Whether the tree in the first n cells allows the row l; or that these hold no tree.
abbrev pub Answers : View → ℕ → List ℕ → Option Bool → Type 0
Answers v n l None = TreeIn v n → ⊥
Answers v n l (Some b) = TreeIn v n × ((t : Tree) → Holds (seen v) n t → Sound t → Decides b (Allows t l))

-- The graves of the tree in the first n cells stand, from left to right, in front of the list, which is else as before; or it is as before, and the cells hold no tree or one with more graves than the list is long.
abbrev pub Fronts : View → ℕ → List ℕ → List ℕ → Option ℕ → Type 0
Fronts v n before after None = (after ≡ before) × ((h : TreeIn v n) → length before < size h.tree)
Fronts v n before after (Some m) = TreeIn v n × ((t : Tree) → Holds (seen v) n t → Sound t → (m ≡ size t) × (after ≡ graves t ++ drop m before))
