-- From what the whole call promises to what is printed.
use Rattle.std.proofs.Common.{◌≡◌, ℕ, ◌*◌, ◌≤◌, List, take, sym, ◌∙◌, subst, arith}
use Rattle.finds.specs.Finds.{Finds}
use Rattle.finds.proofs.Size.{few_nodes}
use Rattle.grounds.specs.Whole.{Held, ATree, AGround, Answer}
use Rattle.grounds.specs.declared.outcome.Outcome.{Outcome}
use Rattle.grounds.specs.declared.outcome.Outcome.TheVariants.{Tree, Ground}
use Rattle.report.specs.Answer.{ring_answer}
use Rattle.tables.specs.Room.{branches_for}
use Rattle.trees.specs.Cells.{Lent, held, shortest, Holds}
use Rattle.trees.specs.Rows.{seen_rows}
use Rattle.trees.specs.Checks.{TreeIn}
use Rattle.trees.specs.declared.rows.View.{View}
use Rattle.answers.specs.Printing.{Prints}
use Rattle.answers.specs.Seriating.{PrintsRing}
use Rattle.answers.specs.declared.printed.Printed.{Printed}

-- The answer at the outcome that came.
pub at_tree : (f : Finds) (before after : Held) {o : Outcome} {root count : ℕ} → o ≡ Tree root count → Answer f before after o → ATree f root count before after
at_tree f before after e a = subst (Answer f before after) e a

pub at_ground : (f : Finds) (before after : Held) {o : Outcome} {pairs : ℕ} → o ≡ Ground pairs → Answer f before after o → AGround f pairs before after
at_ground f before after e a = subst (Answer f before after) e a

-- The rows that the whole call leaves hold a tree: it has no more cells than are lent.
pub tree_there : (v : View) (f : Finds) (root count : ℕ) (before after : Held) → seen_rows v ≡ after.rows → ATree f root count before after → branches_for f.graves ≤ shortest after.rows → TreeIn v count
tree_there v f root count before after e a room =
    let s = a.standing.stage in
    let few = few_nodes s.tree s.sound.good in
    let many = s.holds.many in
    let size = s.graves_are in
    let wide : count ≤ shortest (seen_rows v) = subst (λ (l : Lent). count ≤ shortest l) (sym e) (omega arith) in
    record {
      long = record { parents_long = omega arith; sorts_long = omega arith; places_long = omega arith; sets_long = omega arith };
      tree = s.tree;
      holds = subst (λ (l : Lent). Holds (held l) count s.tree) (sym e) s.holds;
      sound = s.sound;
    }

-- The ring is printed from the part of the lent bytes that holds it.
pub ring_shown : (f : Finds) (pairs : ℕ) (before after : Held) (p : Printed) (text : List ℕ) → AGround f pairs before after →
    text ≡ ring_answer (take (2 * pairs) after.ring) → Prints p text 0 → PrintsRing f p
ring_shown f pairs before after p text a e prints =
    record {
      ring = a.ring.ring;
      ground = a.ground;
      none = a.none;
      bytes = take (2 * pairs) after.ring;
      pairs_are = a.ring.pairs_are;
      prints = record { text_is = prints.text_is ∙ e; status_is = prints.status_is };
    }
