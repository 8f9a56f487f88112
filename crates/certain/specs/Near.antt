-- What is told of the nearest graves, and how they are found in the rows of a tree.
use Rattle.std.specs.Prelude.{◌≡◌, ℕ, suc, ◌+◌, ◌≤◌, ◌⊎◌, List, [], ◌∷◌, ◌++◌, Some, None, Option}
use Rattle.finds.specs.Branches.{◌+++◌}
use Rattle.finds.specs.Finds.{Finds}
use Rattle.finds.specs.Trees.{Tree, Trees, more, len, all_graves}
use Rattle.trees.specs.Cells.{all_nodes, kids}
use Rattle.certain.specs.Certain.{Between, Nearest}
use Rattle.certain.specs.declared.neighbours.Neighbours.{Neighbours}

-- Of a grave the two nearest are told between which it is certain to lie; or that there are no two graves between which it is.
abbrev pub Told : Finds → List ℕ → ℕ → Option Neighbours → Type 0
Told f l b None = (x y : ℕ) → Between f x b y → ⊥
Told f l b (Some p) = Nearest f l p.before b p.behind

-- The same in two bytes, where 255 stands for none.
abbrev pub Written : Finds → List ℕ → ℕ → ℕ → ℕ → Type 0
Written f l b a c = ((a ≡ 255) × (c ≡ 255) × ((x y : ℕ) → Between f x b y → ⊥)) ⊎ Nearest f l a b c

-- Cell c is the root of a branch of u, the tree in cell i.
pub record BranchAt (i c : ℕ) (u : Tree) : Type 0 where
  pub before : Trees
  pub it : Tree
  pub behind : Trees
  pub is : kids u ≡ before +++ more it behind
  pub at : c ≡ suc i + all_nodes before

-- a is the last grave of the branches x, and c the first of the branches y.
pub record Flank (x y : Trees) (a c : ℕ) : Type 0 where
  pub fore : List ℕ
  pub rest : List ℕ
  pub last : all_graves x ≡ fore ++ (a ∷ [])
  pub first : all_graves y ≡ c ∷ rest

-- If a cell of this sort has the branches x before one of its branches and y behind it, these are the graves next to that branch; or it is no row, or there are no such branches.
abbrev pub Flanks : ℕ → Trees → Trees → Option Neighbours → Type 0
Flanks sort x y None = sort ≡ 2 → 1 ≤ len x → 1 ≤ len y → ⊥
Flanks sort x y (Some p) = (sort ≡ 2) × Flank x y p.before p.behind
