-- What a draft holds while a changed tree is written into it.
use Rattle.std.specs.Prelude.{◌≡◌, ℕ, ◌+◌, ◌<◌, Some, None, Option}
use Rattle.finds.specs.Trees.{Tree}
use Rattle.pqtree.specs.Change.{Outcome, torn, made}
use Rattle.trees.specs.Cells.{Cells, cells, nodes, Body}
use Rattle.changes.specs.declared.draft.Draft.{Draft}

-- The cells of a draft.
abbrev pub drafted : Draft → Cells
drafted d = cells d.parents d.sorts d.places d.sets

-- The cells below o are the same.
pub record Kept (R S : Cells) (o : ℕ) : Type 0 where
  pub parents : (x : ℕ) → x < o → S.parent x ≡ R.parent x
  pub sorts : (x : ℕ) → x < o → S.sort x ≡ R.sort x
  pub places : (x : ℕ) → x < o → S.place x ≡ R.place x
  pub sets : (x : ℕ) → x < o → S.set x ≡ R.set x

-- The tree has its root in cell o, as the branch of cell p at the place q, and its cells end before e.
pub record Lies (R : Cells) (o p q e : ℕ) (t : Tree) : Type 0 where
  pub parent_is : R.parent o ≡ p
  pub place_is : R.place o ≡ q
  pub body : Body R o t
  pub ends : e ≡ o + nodes t

-- The answer is that of the outcome: the cell behind the tree that was made, which lies from o on; or None where there is none.
abbrev pub Rebuilt : Cells → ℕ → ℕ → ℕ → Option ℕ → Outcome → Type 0
Rebuilt R o p q None torn = Unit {0}
Rebuilt R o p q None (made u) = ⊥
Rebuilt R o p q (Some e) torn = ⊥
Rebuilt R o p q (Some e) (made u) = Lies R o p q e u
