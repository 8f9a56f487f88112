-- How many graves a row or a tree has with a kind, or without it.
use Rattle.std.specs.Prelude.{ℕ, ◌+◌, Bool, true, false, List, [], ◌∷◌}
use Rattle.finds.specs.Trees.{Tree, grave, any, row, Trees, none, more}

-- 1 if the two agree, and else 0.
abbrev pub hit : Bool → Bool → ℕ
hit true true = 1
hit true false = 0
hit false true = 0
hit false false = 1

-- How many graves of the row have the kind (b is true), or lack it (b is false).
abbrev pub count : (ℕ → Bool) → Bool → List ℕ → ℕ
count k b [] = 0
count k b (g ∷ l) = hit (k g) b + count k b l

-- The same of the graves of a tree.
abbrev mutual
  pub count_t : (ℕ → Bool) → Bool → Tree → ℕ
  count_t k b (grave g) = hit (k g) b
  count_t k b (any ts) = count_ts k b ts
  count_t k b (row ts) = count_ts k b ts

  -- The same of the graves of branches.
  pub count_ts : (ℕ → Bool) → Bool → Trees → ℕ
  count_ts k b none = 0
  count_ts k b (more t ts) = count_t k b t + count_ts k b ts
