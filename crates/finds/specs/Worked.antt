-- Three small tables, of which the answer is a theorem about the definitions.
use Rattle.std.specs.Prelude.{ℕ, Bool, false, ◌||◌, List, [], ◌∷◌, ◌==◌}
use Rattle.finds.specs.Finds.{Finds}
use Rattle.finds.specs.Trees.{Tree, grave, any, none, more}
use Rattle.finds.specs.Exactness.{Exactly, NoneFits}

-- The kind that lay in just these graves.
abbrev pub lay_in : List ℕ → ℕ → Bool
lay_in [] g = false
lay_in (x ∷ xs) g = g == x || lay_in xs g

-- Three graves and no kinds.
abbrev pub free_three : Finds
free_three = record { graves = 3; kinds = [] }

-- Three graves in any order.
abbrev pub any_three : Tree
any_three = any (more (grave 0) (more (grave 1) (more (grave 2) none)))

-- Three graves, and a kind in each two of them.
abbrev pub each_two : Finds
each_two = record { graves = 3; kinds = lay_in (0 ∷ 1 ∷ []) ∷ lay_in (1 ∷ 2 ∷ []) ∷ lay_in (0 ∷ 2 ∷ []) ∷ [] }

-- Four graves, and a kind in the first and each other one.
abbrev pub first_with_each : Finds
first_with_each = record { graves = 4; kinds = lay_in (0 ∷ 1 ∷ []) ∷ lay_in (0 ∷ 2 ∷ []) ∷ lay_in (0 ∷ 3 ∷ []) ∷ [] }

-- The tree of three graves without kinds is {0 1 2}; of the other two tables no order fits.
abbrev pub WorkedTables : Type 0
WorkedTables = Exactly free_three any_three × NoneFits each_two × NoneFits first_with_each
