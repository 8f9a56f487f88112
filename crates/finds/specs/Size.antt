-- How large trees are.
use Rattle.std.specs.Prelude.{ℕ, suc, ◌+◌}
use Rattle.finds.specs.Trees.{Tree, grave, any, row, Trees, none, more}

-- How many cells a tree takes: one for each grave, and one for each place at which it branches.
abbrev mutual
  pub nodes : Tree → ℕ
  nodes (grave g) = 1
  nodes (any ts) = suc (all_nodes ts)
  nodes (row ts) = suc (all_nodes ts)

  -- How many cells the branches take together.
  pub all_nodes : Trees → ℕ
  all_nodes none = 0
  all_nodes (more t ts) = nodes t + all_nodes ts

-- How many graves a tree has.
abbrev mutual
  pub size : Tree → ℕ
  size (grave g) = 1
  size (any ts) = sizes ts
  size (row ts) = sizes ts

  -- How many graves the branches have together.
  pub sizes : Trees → ℕ
  sizes none = 0
  sizes (more t ts) = size t + sizes ts
