-- How a partial tree is laid open.
use Rattle.std.specs.Prelude.{◌≡◌, ℕ, Bool, true, false, ◌⊎◌, List, reverse, Some, None, filter, Option}
use Rattle.finds.specs.Trees.{Tree, Trees, Mixed}
use Rattle.finds.specs.Branches.{◌+++◌}
use Rattle.pqtree.specs.Opening.{stuck, laid, ◌⊞◌, group, open_up, open_all}
use Rattle.trees.specs.Cells.{kids, Parts}
use Rattle.trees.specs.Rows.{seen}
use Rattle.trees.specs.declared.rows.View.{View}
use Rattle.changes.specs.declared.bunch.Bunch.{Bunch}
use Rattle.changes.specs.declared.shares.Share.{Share}
use Rattle.changes.specs.declared.shares.Share.TheVariants.{Empty, Partial, Full}
use Rattle.changes.specs.declared.opening.Layout.{Layout}
use Rattle.changes.specs.Bunches.{listed}
use Rattle.changes.specs.Shares.{has_share, in_order}

-- The cells of the bunch are the roots of these trees.
abbrev pub Bunched : View → ℕ → Bunch → Trees → Type 0
Bunched v n u ts = Parts (seen v) n (listed u) ts

-- The bunch has those of the cells that have this share of the mask m, in the row ms of sets.
abbrev pub Picked : List ℕ → ℕ → List ℕ → Share → Bunch → Type 0
Picked ms m cs want u = listed u ≡ filter (has_share ms m want) cs

-- The layout has all branches of the tree, and so the tree is laid open: the first as one branch, those in the middle each laid open, the last as one branch.
pub record Lays (v : View) (n : ℕ) (k : ℕ → Bool) (b : Bool) (t : Tree) (l : Layout) : Type 0 where
  pub firsts : Trees
  pub middles : Trees
  pub lasts : Trees
  pub first : Bunched v n l.first firsts
  pub middle : Bunched v n l.middle middles
  pub last : Bunched v n l.last lasts
  pub all : Mixed (kids t) (firsts +++ (middles +++ lasts))
  pub opens : open_up k b t ≡ laid (group firsts) ⊞ (open_all k b middles ⊞ laid (group lasts))

-- The layout of the tree, or None where it cannot be laid open.
abbrev pub LayoutOf : View → ℕ → (ℕ → Bool) → Bool → Tree → Option Layout → Type 0
LayoutOf v n k b t None = open_up k b t ≡ stuck
LayoutOf v n k b t (Some l) = Lays v n k b t l

-- The layout has the cells apart by their share of the mask m, in the row ms of sets.
pub record Apart (ms : List ℕ) (m : ℕ) (cs : List ℕ) (l : Layout) : Type 0 where
  pub first : Picked ms m cs Empty l.first
  pub middle : Picked ms m cs Partial l.middle
  pub last : Picked ms m cs Full l.last

-- The cells in sequence, as they are or turned round; None if they are not in sequence either way.
abbrev pub InSequence : List ℕ → ℕ → List ℕ → Option Bunch → Type 0
InSequence ms m cs None = (in_order ms m false cs ≡ false) × (in_order ms m false (reverse cs) ≡ false)
InSequence ms m cs (Some u) =
    ((in_order ms m false cs ≡ true) × (listed u ≡ cs))
    ⊎ ((in_order ms m false cs ≡ false) × (in_order ms m false (reverse cs) ≡ true) × (listed u ≡ reverse cs))
