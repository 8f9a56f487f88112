-- What a call says of the parts that were passed to it, said of the rows and cells they lie in.
use Rattle.std.proofs.Common.{ℕ, Bool, false, List, get_or, take, drop, Option, ap, ◌∙◌}
use Rattle.finds.specs.Trees.{Trees}
use Rattle.pqtree.specs.Opening.{group as as_one, open_row}
use Rattle.trees.specs.Cells as cells
use Rattle.trees.specs.Cells.{Cells, Sounds}
use Rattle.trees.specs.Rows.{seen}
use Rattle.trees.specs.declared.rows.View.{View}
use Rattle.trees.specs.declared.subtree.Subtree.{Subtree}
use Rattle.changes.specs.Layouts.{Apart}
use Rattle.changes.specs.Parts.{Are, Lying, Front, Behind, At}
use Rattle.changes.specs.Shares.{FirstWith}
use Rattle.changes.specs.Written.{Wrote, Opened}
use Rattle.changes.specs.declared.draft.Spot.{Spot}
use Rattle.changes.specs.declared.opening.Layout.{Layout}
use Rattle.changes.specs.declared.parts.Parts.{Parts}
use Rattle.changes.proofs.Openings.{Found, FoundAll}
use Rattle.changes.proofs.Through.{to_part, from_part, to_parts, from_parts}

-- Of one of the parts.
pub at_found : {p : Parts} {x m : ℕ} {s : Subtree} {R : Cells} {at : Spot} {r : Option Spot} → At p x s → Found s.rows s.count m s.root R at r → Found p.rows p.count m (get_or p.cells.now x 0) R at r
at_found {m = m} {R = R} {at = at} {r = r} = from_part (λ (v : View) (n c : ℕ). Found v n m c R at r)

module _ {v : View} {n : ℕ} {cs : List ℕ} {p : Parts} (l : Lying v n cs p) where
  pub lying_are : (ts : Trees) → cells.Parts (seen v) n cs ts → Are p ts
  lying_are ts = to_parts (λ (v : View) (n : ℕ) (cs : List ℕ). cells.Parts (seen v) n cs ts) l

  pub copied_all : {R : Cells} {at next : Spot} → ((ts : Trees) → Are p ts → Wrote R at next ts) → (ts : Trees) → cells.Parts (seen v) n cs ts → Wrote R at next ts
  copied_all {R} {at} {next} = from_parts (λ (v : View) (n : ℕ) (cs : List ℕ). (ts : Trees) → cells.Parts (seen v) n cs ts → Wrote R at next ts) l

  pub grouped : {R : Cells} {at next : Spot} → ((ts : Trees) → Are p ts → Wrote R at next (as_one ts)) → (ts : Trees) → cells.Parts (seen v) n cs ts → Wrote R at next (as_one ts)
  grouped {R} {at} {next} = from_parts (λ (v : View) (n : ℕ) (cs : List ℕ). (ts : Trees) → cells.Parts (seen v) n cs ts → Wrote R at next (as_one ts)) l

  pub all_found : {m : ℕ} {R : Cells} {at : Spot} {r : Option Spot} → FoundAll p.rows p.count m p.cells.now R at r → FoundAll v n m cs R at r
  all_found {m} {R} {at} {r} = from_parts (λ (v : View) (n : ℕ) (cs : List ℕ). FoundAll v n m cs R at r) l

  pub row_found : {k : ℕ → Bool} {R : Cells} {at : Spot} {r : Option Spot} → ((ts : Trees) → Are p ts → Sounds ts → Opened R at r (open_row k false ts)) →
      (ts : Trees) → cells.Parts (seen v) n cs ts → Sounds ts → Opened R at r (open_row k false ts)
  row_found {k} {R} {at} {r} = from_parts (λ (v : View) (n : ℕ) (cs : List ℕ). (ts : Trees) → cells.Parts (seen v) n cs ts → Sounds ts → Opened R at r (open_row k false ts)) l

  pub first_lying : (m : ℕ) (r : Option ℕ) → FirstWith p.rows.sets.now m p.cells.now r → FirstWith v.sets.now m cs r
  first_lying m r = from_parts (λ (v : View) (n : ℕ) (cs : List ℕ). FirstWith v.sets.now m cs r) l

  pub apart_lying : {m : ℕ} {a : Layout} → Apart p.rows.sets.now m p.cells.now a → Apart v.sets.now m cs a
  apart_lying {m} {a} = from_parts (λ (v : View) (n : ℕ) (cs : List ℕ). Apart v.sets.now m cs a) l

  -- Some of the parts lie in the same rows.
  pub front_lying : (x : ℕ) {f : Parts} → Front p x f → Lying v n (take x cs) f
  front_lying x h = record { rows = h.rows ∙ l.rows; count = h.count ∙ l.count; cells = h.cells ∙ ap (take x) l.cells }

  pub behind_lying : (x : ℕ) {b : Parts} → Behind p x b → Lying v n (drop x cs) b
  behind_lying x h = record { rows = h.rows ∙ l.rows; count = h.count ∙ l.count; cells = h.cells ∙ ap (drop x) l.cells }

  -- And so does one of them.
  pub to_one : {x : ℕ} {s : Subtree} (Q : View → ℕ → ℕ → Type 0) → At p x s → Q v n (get_or cs x 0) → Q s.rows s.count s.root
  to_one {x} Q a q = to_part Q a (to_parts (λ (v : View) (n : ℕ) (cs : List ℕ). Q v n (get_or cs x 0)) l q)

  pub one_found : {x m : ℕ} {s : Subtree} {R : Cells} {at : Spot} {r : Option Spot} → At p x s → Found s.rows s.count m s.root R at r → Found v n m (get_or cs x 0) R at r
  one_found {x} {m} {R = R} {at = at} {r = r} a q = from_parts (λ (v : View) (n : ℕ) (cs : List ℕ). Found v n m (get_or cs x 0) R at r) l (at_found a q)
