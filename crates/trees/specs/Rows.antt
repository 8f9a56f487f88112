-- What lent rows hold.
use Rattle.std.specs.Prelude.{◌≡◌, ℕ, ◌+◌, ◌<◌, ◌≤◌, length}
use Rattle.finds.specs.Trees.{Tree, Trees}
use Rattle.trees.specs.Cells.{all_nodes, Cells, cells, Lent, lent, Part, Parts, roots, Sound, Sounds}
use Rattle.trees.specs.declared.rows.Rows.{Rows}
use Rattle.trees.specs.declared.rows.View.{View}

-- The four rows that are seen.
abbrev pub seen_rows : View → Lent
seen_rows v = lent v.parents.now v.sorts.now v.places.now v.sets.now

-- The four rows that are lent to be written.
abbrev pub lent_rows : Rows → Lent
lent_rows r = lent r.parents.now r.sorts.now r.places.now r.sets.now

-- Each row is still the same slice of its owner, and as long as it was.
pub record SameSlices (before after : Rows) : Type 0 where
  pub parents : after.parents.ghost_name ≡ before.parents.ghost_name
  pub sorts : after.sorts.ghost_name ≡ before.sorts.ghost_name
  pub places : after.places.ghost_name ≡ before.places.ghost_name
  pub sets : after.sets.ghost_name ≡ before.sets.ghost_name
  pub parents_long : length after.parents.now ≡ length before.parents.now
  pub sorts_long : length after.sorts.now ≡ length before.sorts.now
  pub places_long : length after.places.now ≡ length before.places.now
  pub sets_long : length after.sets.now ≡ length before.sets.now

-- The cells that are seen in the four rows.
abbrev pub seen : View → Cells
seen v = cells v.parents.now v.sorts.now v.places.now v.sets.now

-- The rows have n cells or more.
pub record Long (v : View) (n : ℕ) : Type 0 where
  pub parents_long : n ≤ length v.parents.now
  pub sorts_long : n ≤ length v.sorts.now
  pub places_long : n ≤ length v.places.now
  pub sets_long : n ≤ length v.sets.now

-- In cell i of the first n cells some sound tree has its root.
pub record Stands (v : View) (n i : ℕ) : Type 0 where
  pub long : Long v n
  pub few : n ≤ 127
  pub below : i < n
  pub tree : Tree
  pub part : Part (seen v) n i tree
  pub sound : Sound tree

-- From cell i to before the cell e sound trees lie one after the other, no two of which have a grave in common.
pub record Row (v : View) (n i e : ℕ) : Type 0 where
  pub long : Long v n
  pub few : n ≤ 127
  pub within : i ≤ e
  pub ended : e ≤ n
  pub trees : Trees
  pub parts : Parts (seen v) n (roots i trees) trees
  pub sounds : Sounds trees
  pub end : e ≡ i + all_nodes trees
