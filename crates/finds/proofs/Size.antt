-- A well-formed tree has fewer places than twice its graves; and the size of a tree by counts.
use Rattle.std.proofs.Common.{◌≡◌, ℕ, ◌+◌, ◌*◌, ◌≤◌, Bool, true, false, refl, arith}
use Rattle.finds.specs.Trees.{Tree, grave, any, row, Trees, none, more, len, Good, Goods}
use Rattle.finds.specs.Branches.{◌+++◌}
use Rattle.finds.specs.Counts.{hit, count_t, count_ts}
use Rattle.finds.specs.Size.{nodes, all_nodes, size, sizes}

pub some_nodes : (t : Tree) → 1 ≤ nodes t
some_nodes (grave g) = omega arith
some_nodes (any ts) = omega arith
some_nodes (row ts) = omega arith

pub nodes_plus : (x y : Trees) → all_nodes (x +++ y) ≡ all_nodes x + all_nodes y
nodes_plus none y = omega arith
nodes_plus (more t x) y = let z = nodes_plus x y in omega arith

-- Each place where branches meet has two at least.
mutual
  pub few_nodes : (t : Tree) → Good t → nodes t + 1 ≤ 2 * size t
  few_nodes (grave g) h = omega arith
  few_nodes (any ts) h = let z = all_few_nodes ts h.1 in omega (arith, h.0)
  few_nodes (row ts) h = let z = all_few_nodes ts h.1 in omega (arith, h.0)

  pub all_few_nodes : (ts : Trees) → Goods ts → all_nodes ts + len ts ≤ 2 * sizes ts
  all_few_nodes none h = omega arith
  all_few_nodes (more t ts) h = let y = few_nodes t h.0 in let z = all_few_nodes ts h.1 in omega arith

-- The graves with a kind and those without it are all graves.
mutual
  pub size_count : (k : ℕ → Bool) (t : Tree) → count_t k true t + count_t k false t ≡ size t
  size_count k (grave g) = go (k g)
    where
      go : (x : Bool) → hit x true + hit x false ≡ 1
      go true = refl
      go false = refl
  size_count k (any ts) = sizes_count k ts
  size_count k (row ts) = sizes_count k ts

  pub sizes_count : (k : ℕ → Bool) (ts : Trees) → count_ts k true ts + count_ts k false ts ≡ sizes ts
  sizes_count k none = refl
  sizes_count k (more t ts) = let y = size_count k t in let z = sizes_count k ts in omega arith
