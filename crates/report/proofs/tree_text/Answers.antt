use Rattle.std.proofs.Common.{◌≡◌, ℕ, List, ◌++◌, Option, sym, append_assoc}
use Rattle.finds.specs.Finds.{Finds}
use Rattle.finds.specs.Trees.{Tree}
use Rattle.trees.specs.declared.whole.WholeTree.{WholeTree}
use Rattle.certain.specs.Counting.{Counted}
use Rattle.certain.specs.Shown.{ShownBy}
use Rattle.text.specs.Show.{show}
use Rattle.report.specs.Answer.{line_feed, orders_line, near_lines}
use Rattle.report.specs.Tells.{Tells, Lines}
use Rattle.report.proofs.Lines.{lines_all}
use Rattle.report.proofs.tree_text.Goals as goal

-- The tree, the end of its line, the number of orders, and the lines on the graves, one behind the other.
one_by_one : (w : WholeTree) (n : ℕ) (number : Option ℕ) {a b c d : List ℕ} (f : Finds) (t : Tree) → ShownBy w f t → f.graves ≡ n → Counted f number →
    a ≡ show t → b ≡ a ++ line_feed → c ≡ b ++ orders_line number → Lines w n c d → Tells f t d
one_by_one w n number f t s e k p q r lines =
    let j = lines_all (sym e) lines in
    let l = near_lines j.near f.graves in
    let g = append_assoc (show t ++ line_feed) (orders_line number) l in
    let h = append_assoc (show t) line_feed (orders_line number ++ l) in
    record { count = number; near = j.near; counted = k; told = j.told f t s; written = cc j.written }

pub returns : goal.returns
returns c = λ f t s e.
    one_by_one c.args.tree c.args.graves c.orders.result f t s e (c.orders.ensures.by_finds f t s)
    (c.in_ok-out.ensures t s.holds s.sound) c.in_ok-push_str.ensures.bytes c.in_ok-write_orders.ensures c.in_ok-write_nearest.ensures
