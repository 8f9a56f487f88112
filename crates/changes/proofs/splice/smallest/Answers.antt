use Rattle.std.proofs.Common.{rules, ◌≡◌, ℕ, Some, None, Option, IsSome, take, subst, arith}
use Rattle.trees.specs.Rows.{seen}
use Rattle.trees.proofs.Checking.{tree_in_stands}
use Rattle.trees.proofs.Finding.{had_tree}
use Rattle.changes.specs.Splice.{having, LastWith}
use Rattle.changes.proofs.Redrawing.{smallest_some, smallest_none}
use Rattle.changes.proofs.splice.smallest.Goals as goal

pub bounds-tree-0 : goal.bounds-tree-0
bounds-tree-0 c = let s = tree_in_stands (had_tree c.args.tree.holds) in omega (arith, s.below, s.long.sets_long)

pub slice_bounds-last_with-end : goal.slice_bounds-last_with-end
slice_bounds-last_with-end c = let long = (tree_in_stands (had_tree c.args.tree.holds)).long.sets_long in search rules

-- The first cell has all graves, so there is a last one.
found : (o : Option ℕ) → (o ≡ None → ⊥) → IsSome o
found None n = absurd (n (search rules))
found (Some r) n = search rules

pub unwrap-requires : goal.unwrap-requires
unwrap-requires c =
    let s = tree_in_stands (had_tree c.args.tree.holds) in
    found c.last_with.result (λ e. smallest_none c.args.tree.rows c.args.tree.count c.args.kind s.below s.long.sets_long
    (subst (LastWith (take c.args.tree.count c.args.tree.rows.sets.now) c.args.kind (having (seen c.args.tree.rows) c.args.kind 0)) e c.last_with.ensures))

pub returns : goal.returns
returns c =
    let s = tree_in_stands (had_tree c.args.tree.holds) in
    smallest_some c.args.tree.rows c.args.tree.count c.args.kind c.unwrap.result s.below s.long.sets_long
    (subst (LastWith (take c.args.tree.count c.args.tree.rows.sets.now) c.args.kind (having (seen c.args.tree.rows) c.args.kind 0)) c.unwrap.ensures c.last_with.ensures)
