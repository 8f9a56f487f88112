use Rattle.std.proofs.Common.{sym, ap, ◌∙◌}
use Rattle.std.proofs.lemmas.Result.{IfOk-weaker}
use lib.Count.{ones}
use Rattle.trees.proofs.Roots.{root_set}
use Rattle.certain.proofs.Sizes.{shown_size}
use Rattle.report.proofs.whole_tree_text.Goals as goal

pub returns : goal.returns
returns c =
    IfOk-weaker c.tree_text.result _ _ (λ s told f t w. told f t w (shown_size c.args.tree.rows w ∙ sym (c.size.ensures.many ∙ ap ones (root_set c.root.ensures)))) c.tree_text.ensures
