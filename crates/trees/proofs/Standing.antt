-- What follows from that a sound tree stands in lent rows.
use Rattle.std.proofs.Common.{◌≡◌, ℕ, ◌+◌, ◌<◌, ◌≤◌, sym, refl, ap, ◌∙◌, arith}
use lib.Count.{ones}
use Rattle.finds.specs.Trees.{Tree, grave, any, row}
use Rattle.trees.specs.Cells.{size, sizes, sets_of, kids, Sound, Cells, Body, Part}
use Rattle.trees.specs.Rows.{seen, Stands}
use Rattle.trees.specs.declared.rows.View.{View}
use Rattle.trees.proofs.Cells.{body_set, len_nodes}
use Rattle.trees.proofs.Sets.{set_size, few_graves}
use Rattle.trees.proofs.Allowing.{good_size}

-- The set of a cell has as many ones as the tree has graves, at least one and at most 64.
pub part_size : (R : Cells) (n i : ℕ) (t : Tree) → Part R n i t → Sound t → ones (R.set i) ≡ size t
part_size R n i t p s = ap ones (body_set R i t p.0) ∙ set_size t s

pub stands_size : {v : View} {n i : ℕ} → Stands v n i → (1 ≤ ones ((seen v).set i)) × (ones ((seen v).set i) ≤ 64)
stands_size {v} {n} {i} s =
    let e = part_size (seen v) n i s.tree s.part s.sound in
    let a = good_size s.tree s.sound.good in
    let b = few_graves s.tree s.sound in
    omega arith

-- A sort is at most 2, and tells what tree the cell is the root of.
pub sort_low : (R : Cells) (i : ℕ) (t : Tree) → Body R i t → R.sort i ≤ 2
sort_low R i (grave g) b = omega (arith, b.0)
sort_low R i (any ts) b = omega (arith, b.0)
sort_low R i (row ts) b = omega (arith, b.0)

pub is_any : (R : Cells) (i : ℕ) (t : Tree) → Body R i t → R.sort i ≡ 1 → t ≡ any (kids t)
is_any R i (grave g) b e = absurd (omega (arith, b.0))
is_any R i (any ts) b e = refl
is_any R i (row ts) b e = absurd (omega (arith, b.0))

-- A cell that is no grave has the graves of its branches.
pub kids_set : (R : Cells) (i : ℕ) (t : Tree) → Body R i t → 1 ≤ R.sort i → (R.set i ≡ sets_of (kids t)) × (size t ≡ sizes (kids t))
kids_set R i (grave g) b l = absurd (omega (arith, b.0))
kids_set R i (any ts) b l = (b.1, refl)
kids_set R i (row ts) b l = (b.1, refl)

pub kids_size : (R : Cells) (n i : ℕ) (t : Tree) → Part R n i t → Sound t → 1 ≤ R.sort i → sizes (kids t) ≡ ones (R.set i)
kids_size R n i t p s l = sym (part_size R n i t p s ∙ (kids_set R i t p.0 l).1)

-- Such a cell has a cell behind it, that of its first branch.
pub kids_room : (R : Cells) (n i : ℕ) (t : Tree) → Part R n i t → Sound t → 1 ≤ R.sort i → i + 1 < n
kids_room R n i (grave g) p s l = absurd (omega (arith, p.0.0))
kids_room R n i (any ts) p s l = omega (arith, p.1, s.good.0, len_nodes ts)
kids_room R n i (row ts) p s l = omega (arith, p.1, s.good.0, len_nodes ts)
