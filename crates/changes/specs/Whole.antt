-- What a change of the tree in lent rows promises.
use Rattle.std.specs.Prelude.{◌≡◌, ℕ, ◌-◌, ◌*◌, ◌<◌, ◌≤◌, true, Some, None, Option}
use Rattle.finds.specs.Finds.{Finds}
use Rattle.finds.specs.Trees.{Tree}
use Rattle.finds.specs.Counts.{count_t}
use Rattle.finds.specs.Exactness.{Exactly, SomeFits, NoneFits}
use Rattle.finds.specs.Laws.{with_kind}
use Rattle.finds.specs.Sets.{has}
use Rattle.pqtree.specs.Change.{Outcome, torn, made, step}
use Rattle.trees.specs.Cells.{size, Sound, Lent, held, shortest, Holds}
use Rattle.trees.specs.Starting.{SameFrom}

-- The first cells of the rows hold a sound tree, and there is room for every tree of its graves: one cell less than twice as many.
pub record Holding (R : Lent) (count : ℕ) : Type 0 where
  pub tree : Tree
  pub holds : Holds (held R) count tree
  pub sound : Sound tree
  pub room : 2 * size tree - 1 ≤ shortest R

-- The answers by number: 0 there is a tree, 1 no order fits.
abbrev pub number_of : Option ℕ → ℕ
number_of (Some count) = 0
number_of None = 1

-- The value of an answer: in how many cells the rows hold the tree, and 0 where there is none.
abbrev pub cells_of : Option ℕ → ℕ
cells_of (Some count) = count
cells_of None = 0

-- The answer is that of the outcome: the rows hold the tree that was made, or there is none.
abbrev pub Stepped : Lent → Option ℕ → Outcome → Type 0
Stepped S (Some c) (made u) = Holds (held S) c u
Stepped S (Some c) torn = ⊥
Stepped S None (made u) = ⊥
Stepped S None torn = Unit {0}

-- The answer is right for the finds: the rows hold a sound tree that allows exactly the orders that fit, of which there is one; or none fits.
abbrev pub Right : Finds → Lent → Option ℕ → Type 0
Right f S (Some c) = (u : Tree) × Holds (held S) c u × Sound u × Exactly f u × SomeFits f
Right f S None = NoneFits f

-- Where there is a tree, the rows can be changed again.
abbrev pub GoesOn : Lent → Option ℕ → Type 0
GoesOn S (Some c) = Holding S c
GoesOn S None = Unit {0}

-- What a change for the kind promises: R are the rows before and S those after it, count is the number of cells before, and r the answer.
pub record Changes (R S : Lent) (count kind : ℕ) (r : Option ℕ) : Type 0 where
  -- If the tree allowed exactly the orders that fit some finds, it now allows exactly those that fit with this kind; or none does.
  pub exact : (f : Finds) (t : Tree) → 0 < f.graves → Holds (held R) count t → Exactly f t → Right (with_kind f (has kind)) S r
  -- The tree is the one that the step makes of the tree before.
  pub stepped : (t : Tree) → Holds (held R) count t → Stepped S r (step (has kind) t)
  -- A kind in fewer than two graves of the tree changes nothing.
  pub few : (t : Tree) → Holds (held R) count t → count_t (has kind) true t < 2 → (number_of r ≡ 0) × (cells_of r ≡ count) × SameFrom 0 R S
  -- Behind the tree the rows are as they were; and all of them, where there is none.
  pub rest : SameFrom (cells_of r) R S
  pub goes_on : GoesOn S r
