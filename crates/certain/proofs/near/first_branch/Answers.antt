use Rattle.std.proofs.Common.{◌+◌, sym, ap, ◌∙◌, subst}
use Rattle.trees.specs.Cells.{Sounds}
use Rattle.trees.specs.Rows.{seen}
use Rattle.trees.specs.Sorts.{code_of}
use Rattle.trees.specs.declared.rows.Sort.TheVariants.{Grave}
use Rattle.trees.proofs.Finding.{had_standing}
use Rattle.trees.proofs.Sets.{sound_kids, sounds_first}
use Rattle.trees.proofs.Sorts.{same_sort, other_sort}
use Rattle.certain.proofs.Ends.{stands_at, leaf, first_kid}
use Rattle.certain.proofs.near.first_branch.Goals as goal

pub returns-then-eq-clause-first : goal.returns-then-eq-clause-first
returns-then-eq-clause-first c = λ t p s.
    leaf (seen c.args.part.rows) c.args.part.root t p.0 (sym c.sort.ensures ∙ ap code_of (same_sort c.sort.result Grave c.if-eq.ensures))

pub invariant_of-result : goal.invariant_of-result
invariant_of-result c =
    let o = had_standing c.args.part.stands in
    let k = first_kid (seen c.args.part.rows) c.args.part.count c.args.part.root o.tree o.part o.sound (λ e. other_sort c.sort.result Grave c.if-eq.ensures (c.sort.ensures ∙ e)) in
    record { stands = ∣ stands_at o (c.args.part.root + 1) k.0 k.3 (sounds_first k.0 k.1 (subst Sounds k.2 (sound_kids o.tree o.sound))) ∣₁ }

pub returns-clause-first : goal.returns-clause-first
returns-clause-first c = λ t p s.
    first_kid (seen c.args.part.rows) c.args.part.count c.args.part.root t p s (λ e. other_sort c.sort.result Grave c.if-eq.ensures (c.sort.ensures ∙ e))
