use Rattle.std.proofs.Common.{◌≡◌, ℕ, List, ◌++◌, Option, string_bytes, sym, ap, ◌∙◌, append-nil}
use Rattle.certain.specs.declared.neighbours.Neighbours.{Neighbours}
use Rattle.report.specs.Answer.{near_line}
use Rattle.report.proofs.Lines.{lines_none, lines_more}
use Rattle.report.proofs.write_nearest.Goals as goal
use Rattle.report.proofs.write_nearest.Goals.{in-Some+in_ok-writeln, in_default}

pub loop-b-init : goal.loop-b-init
loop-b-init c = lines_none

line : (a : List ℕ) (b : ℕ) {r q : Option Neighbours} → r ≡ q → a ++ near_line b q ≡ a ++ near_line b r
line a b e = sym (ap (λ (r : Option Neighbours). a ++ near_line b r) e)

pub loop-b-preserved : goal.loop-b-preserved
loop-b-preserved c = lines_more c.nearest.result c.loop-b.invariant c.nearest.ensures (elim c.match-nearest.branch [
  | in-Some+in_ok-writeln w ↦ ap string_bytes w.out-is ∙ w.in_ok-writeln.ensures.bytes ∙ line (string_bytes c.loop-b.out) c.loop-b.b-counter w.in-Some.is
  | in_default w ↦ ap string_bytes w.out-is ∙ sym (append-nil (string_bytes c.loop-b.out)) ∙ line (string_bytes c.loop-b.out) c.loop-b.b-counter w.in_default.is
])
