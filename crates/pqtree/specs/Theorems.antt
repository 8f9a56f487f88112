-- The theorems of the change. Each is a statement; the function of the same name has it as its contract.
use Rattle.std.specs.Prelude.{ℕ, ◌<◌, ◌≤◌, Bool, ◌⊎◌, length}
use Rattle.finds.specs.Finds.{Finds}
use Rattle.finds.specs.Trees.{Tree, Good}
use Rattle.finds.specs.Exactness.{Exactly, SomeFits, NoneFits}
use Rattle.finds.specs.Laws.{with_kind}
use Rattle.pqtree.specs.Change.{Outcome, torn, made, step}
use Rattle.pqtree.specs.Growth.{first_kinds, after}

-- The outcome is right for the finds: the tree is well-formed and allows exactly the orders that fit, of which there is one; or none fits.
abbrev pub Stands : Finds → Outcome → Type 0
Stands f torn = NoneFits f
Stands f (made t) = Good t × Exactly f t × SomeFits f

-- From a tree of exactly the orders that fit, the change for one kind more makes the tree of exactly those that fit with this kind, or finds that none does.
abbrev pub StepExact : Type 0
StepExact = (f : Finds) (k : ℕ → Bool) (t : Tree) → 0 < f.graves → Good t → Exactly f t → Stands (with_kind f k) (step k t)

-- Kind after kind: what has grown after the first j kinds stands for these kinds, for each list of kinds and each j.
abbrev pub KindByKind : Type 0
KindByKind = (f : Finds) → 0 < f.graves → (j : ℕ) → j ≤ length f.kinds → Stands (first_kinds j f) (after f j)

-- Of each table with a grave there is such a tree, or no order fits.
abbrev pub TreeOrNone : Type 0
TreeOrNone = (f : Finds) → 0 < f.graves → ((t : Tree) × Good t × Exactly f t × SomeFits f) ⊎ NoneFits f
