-- A tree in four rows of cells. The cells stand in preorder: that of a tree comes first, then those of its first branch, of its second, and so on.
use Rattle.std.specs.Prelude.{◌≡◌, ℕ, suc, ◌+◌, ◌^◌, ◌<◌, ◌≤◌, min, true, ◌⊎◌, List, [], ◌∷◌, length, bit_or, nat_eq, slice_index}
use Rattle.finds.specs.Trees.{Tree, grave, any, row, Trees, none, more, Good, Goods}
use Rattle.finds.specs.Counts.{count_t, count_ts}
pub use Rattle.finds.specs.Size.{nodes, all_nodes, size, sizes}

-- The graves of a tree as the bits of a number: bit g is set if grave g is in it.
abbrev mutual
  pub set_of : Tree → ℕ
  set_of (grave g) = 2 ^ g
  set_of (any ts) = sets_of ts
  set_of (row ts) = sets_of ts

  -- The graves of all the branches together.
  pub sets_of : Trees → ℕ
  sets_of none = 0
  sets_of (more t ts) = bit_or (set_of t) (sets_of ts)

-- The branches of a tree.
abbrev pub kids : Tree → Trees
kids (grave g) = none
kids (any ts) = ts
kids (row ts) = ts

-- A tree as the rows can hold it: well-formed, each grave in it at most once, and none but the graves 0 to 63.
pub record Sound (t : Tree) : Type 0 where
  pub good : Good t
  pub once : (g : ℕ) → count_t (nat_eq g) true t ≤ 1
  pub small : (g : ℕ) → 64 ≤ g → count_t (nat_eq g) true t ≡ 0

-- The same of branches: the graves of all of them together.
pub record Sounds (ts : Trees) : Type 0 where
  pub good : Goods ts
  pub once : (g : ℕ) → count_ts (nat_eq g) true ts ≤ 1
  pub small : (g : ℕ) → 64 ≤ g → count_ts (nat_eq g) true ts ≡ 0

-- What stands in each cell: the cell of the parent, the sort (0 a grave, 1 branches in any order, 2 branches in a row), the place among the siblings, the set of graves.
pub record Cells : Type 0 where
  pub parent : ℕ → ℕ
  pub sort : ℕ → ℕ
  pub place : ℕ → ℕ
  pub set : ℕ → ℕ

-- The cells that four lists hold.
abbrev pub cells : List ℕ → List ℕ → List ℕ → List ℕ → Cells
cells ps ss qs ms = record { parent = λ i. slice_index ps i; sort = λ i. slice_index ss i; place = λ i. slice_index qs i; set = λ i. slice_index ms i }

-- Four lent rows together, and the cells that they hold.
pub record Lent : Type 0 where
  pub parents : List ℕ
  pub sorts : List ℕ
  pub places : List ℕ
  pub sets : List ℕ

abbrev pub lent : List ℕ → List ℕ → List ℕ → List ℕ → Lent
lent ps ss qs ms = record { parents = ps; sorts = ss; places = qs; sets = ms }

abbrev pub held : Lent → Cells
held r = cells r.parents r.sorts r.places r.sets

-- How many cells the rows have room for: as many as the shortest of them has.
abbrev pub shortest : Lent → ℕ
shortest r = min (min (length r.parents) (length r.sorts)) (min (length r.places) (length r.sets))

-- From cell i on lies t; what the parent and the place of cell i itself are is left open.
abbrev mutual
  pub Body : Cells → ℕ → Tree → Type 0
  Body R i (grave g) = (R.sort i ≡ 0) × (R.set i ≡ 2 ^ g)
  Body R i (any ts) = (R.sort i ≡ 1) × (R.set i ≡ sets_of ts) × Ats R (suc i) i 0 ts
  Body R i (row ts) = (R.sort i ≡ 2) × (R.set i ≡ sets_of ts) × Ats R (suc i) i 0 ts

  -- From cell i on lie these trees one after the other, as branches of the cell p, the first of them at the place q.
  pub Ats : Cells → ℕ → ℕ → ℕ → Trees → Type 0
  Ats R i p q none = Unit {0}
  Ats R i p q (more t ts) = (R.parent i ≡ p) × (R.place i ≡ q) × Body R i t × Ats R (i + nodes t) p (suc q) ts

-- The first n cells hold t, which has its root in cell 0; the root is its own parent, at the place 0.
pub record Holds (R : Cells) (n : ℕ) (t : Tree) : Type 0 where
  pub top : R.parent 0 ≡ 0
  pub first : R.place 0 ≡ 0
  pub body : Body R 0 t
  pub many : n ≡ nodes t

-- Of n cells, those below the cell i end before e: e is n, or a cell whose parent comes before i.
abbrev pub Ends : Cells → ℕ → ℕ → ℕ → Type 0
Ends R n i e = (e ≡ n) ⊎ ((e < n) × (R.parent e < i))

-- Cell i is the root of t, as a part of a tree of n cells.
abbrev pub Part : Cells → ℕ → ℕ → Tree → Type 0
Part R n i t = Body R i t × (i + nodes t ≤ n) × Ends R n i (i + nodes t)

-- The cells of the roots of trees that lie one after the other from cell i on.
abbrev pub roots : ℕ → Trees → List ℕ
roots i none = []
roots i (more t ts) = i ∷ roots (i + nodes t) ts

-- The cells of the list are the roots of these trees.
abbrev pub Parts : Cells → ℕ → List ℕ → Trees → Type 0
Parts R n [] none = Unit {0}
Parts R n [] (more t ts) = ⊥
Parts R n (c ∷ cs) none = ⊥
Parts R n (c ∷ cs) (more t ts) = Part R n c t × Parts R n cs ts
