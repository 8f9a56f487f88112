-- What is certain by the tree, and two numbers of orders. Each is a statement; the function of the same name has it as its contract.
use Rattle.std.specs.Prelude.{◌≡◌, ℕ}
use Rattle.finds.specs.Exactness.{Exactly}
use Rattle.finds.specs.Finds.{Finds}
use Rattle.finds.specs.Trees.{Tree, grave, any, row, none, more}
use Rattle.finds.specs.Worked.{any_three}
use Rattle.certain.specs.Certain.{Between}
use Rattle.certain.specs.Counting.{product}
use Rattle.certain.specs.Middle.{Middle}

-- By a tree of exactly the orders that fit, b is certain to lie between a and c just if b is in the middle of a row of the tree.
abbrev pub BetweenMiddle : Type 0
BetweenMiddle = (f : Finds) (t : Tree) → Exactly f t → (a b c : ℕ) → (Between f a b c → Middle a b c t) × (Middle a b c t → Between f a b c)

-- The row [{0 1} 2 3 4].
abbrev pub paired_row : Tree
paired_row = row (more (any (more (grave 0) (more (grave 1) none))) (more (grave 2) (more (grave 3) (more (grave 4) none))))

-- Three graves in any order have 6 orders; that row has 4, turning round counted.
abbrev pub WorkedNumbers : Type 0
WorkedNumbers = (product any_three ≡ 6) × (product paired_row ≡ 4)
