-- Trees of orders (PQ-trees): what is bound together, what may be put in whatever order, and what may only be turned round.
use Rattle.std.specs.Prelude.{ℕ, zero, suc, ◌≤◌, List, [], ◌∷◌, ◌++◌}

-- A tree is a grave (a leaf); or has branches that may stand in any order (a P node); or has branches that stand in a row, which may be turned round (a Q node).
mutual
  pub data Tree : Type 0 where
    grave : ℕ → Tree
    any : Trees → Tree
    row : Trees → Tree

  pub data Trees : Type 0 where
    none : Trees
    more : Tree → Trees → Trees

-- Allows t l: the graves of t, read from left to right, are l once the branches of each place have been put in one of their orders (l is a frontier of t).
mutual
  pub data Allows : Tree → List ℕ → Type 0 where
    one : {g : ℕ} → Allows (grave g) (g ∷ [])
    mixed : {ts us : Trees} {l : List ℕ} → Mixed ts us → InRow us l → Allows (any ts) l
    straight : {ts : Trees} {l : List ℕ} → InRow ts l → Allows (row ts) l
    turned : {ts us : Trees} {l : List ℕ} → Turned ts us → InRow us l → Allows (row ts) l

  -- The branches are read one after the other, in this order.
  pub data InRow : Trees → List ℕ → Type 0 where
    nil : InRow none []
    next : {t : Tree} {ts : Trees} {k l : List ℕ} → Allows t k → InRow ts l → InRow (more t ts) (k ++ l)

  -- The same branches in another order.
  pub data Mixed : Trees → Trees → Type 0 where
    no_more : Mixed none none
    put : {t : Tree} {ts us vs : Trees} → Mixed ts us → Put t us vs → Mixed (more t ts) vs

  -- Put t us vs: vs is us with t put in somewhere.
  pub data Put : Tree → Trees → Trees → Type 0 where
    first : {t : Tree} {us : Trees} → Put t us (more t us)
    after : {t u : Tree} {us vs : Trees} → Put t us vs → Put t (more u us) (more u vs)

  -- The same branches turned round.
  pub data Turned : Trees → Trees → Type 0 where
    empty : Turned none none
    last : {t : Tree} {ts us vs : Trees} → Turned ts us → AtEnd us t vs → Turned (more t ts) vs

  -- AtEnd us t vs: vs is us with t behind it.
  pub data AtEnd : Trees → Tree → Trees → Type 0 where
    alone : {t : Tree} → AtEnd none t (more t none)
    behind : {t u : Tree} {us vs : Trees} → AtEnd us t vs → AtEnd (more u us) t (more u vs)

-- How many branches there are.
abbrev pub len : Trees → ℕ
len none = 0
len (more t ts) = suc (len ts)

-- A well-formed tree: two branches at least that may stand in any order, three at least in a row.
abbrev mutual
  pub Good : Tree → Type 0
  Good (grave g) = Unit {0}
  Good (any ts) = (2 ≤ len ts) × Goods ts
  Good (row ts) = (3 ≤ len ts) × Goods ts

  -- Each of the branches is well-formed.
  pub Goods : Trees → Type 0
  Goods none = Unit {0}
  Goods (more t ts) = Good t × Goods ts

-- The graves of a tree, read from left to right as it stands.
abbrev mutual
  pub graves : Tree → List ℕ
  graves (grave g) = g ∷ []
  graves (any ts) = all_graves ts
  graves (row ts) = all_graves ts

  -- The graves of the branches, one branch after the other.
  pub all_graves : Trees → List ℕ
  all_graves none = []
  all_graves (more t ts) = graves t ++ all_graves ts

-- The graves i, i + 1 and so on, m of them, each a branch of its own.
abbrev pub graves_from : ℕ → ℕ → Trees
graves_from i zero = none
graves_from i (suc m) = more (grave i) (graves_from (suc i) m)

-- The tree without kinds: one grave is a tree by itself, and more graves may stand in any order.
abbrev pub start : ℕ → Tree
start zero = any none
start (suc zero) = grave 0
start (suc (suc m)) = any (graves_from 0 (suc (suc m)))
