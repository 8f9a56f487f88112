-- The changed part: a cell with its branches behind it, or none.
use Rattle.std.proofs.Common.{◌≡◌, ℕ, ◌+◌, ◌≤◌, Bool, Some, None, sym, ◌∙◌, arith}
use Rattle.finds.specs.Trees.{Tree, grave, any, row, Trees}
use Rattle.pqtree.specs.Change.{as_row}
use Rattle.pqtree.specs.Opening.{Opening}
use Rattle.pqtree.specs.Status.{heavy}
use Rattle.trees.specs.Cells.{sets_of, kids, Cells, Body}
use Rattle.changes.specs.declared.draft.Spot.{Spot}
use Rattle.changes.specs.Draft.{Kept, Rebuilt}
use Rattle.changes.specs.Written.{first_in, Headed, Room, Opened, not_laid, laid_at}
use Rattle.changes.proofs.Keeping.{Keeps, same_sets}
use Rattle.changes.proofs.Writing.{lies_row}

pub room_inside : {first : Spot} (at : Spot) (c : ℕ) → first ≡ first_in at → at.cell + c ≤ 255 → Room first c
room_inside at c i l = rw i (record { fits = omega arith; few = omega arith })

pub rebuilt_none : {R : Cells} {first : Spot} {o : Opening} (at : Spot) → Opened R first None o → Rebuilt R at.cell at.parent at.place None (as_row o)
rebuilt_none at not_laid = tt

-- The opening has the graves of ts, and so the set that was written.
pub rebuilt_row : {R S : Cells} (at : Spot) {first end : Spot} {o : Opening} {m : ℕ} (ts : Trees) → first ≡ first_in at → Kept R S first.cell → Headed R at 2 m → m ≡ sets_of ts → Keeps o ts →
    Opened S first (Some end) o → Rebuilt S at.cell at.parent at.place (Some end.cell) (as_row o)
rebuilt_row at ts i k h e g (laid_at {us = us} w) = lies_row at i k us (e ∙ sym (same_sets us ts g)) w h

-- A tree of which two branches have something of the kind is a row, if its branches are not in any order.
pub is_row : (R : Cells) (i : ℕ) (k : ℕ → Bool) (t : Tree) → Body R i t → 2 ≤ heavy k (kids t) → (1 ≡ R.sort i → ⊥) → R.sort i ≡ 2
is_row R i k (grave g) b h n = absurd (omega (arith, h))
is_row R i k (any ts) b h n = absurd (n (omega (arith, b.0)))
is_row R i k (row ts) b h n = omega (arith, b.0)
