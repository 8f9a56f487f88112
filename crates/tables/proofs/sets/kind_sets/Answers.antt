use Rattle.std.proofs.Common.{◌+◌, ◌/◌, ◌<◌, ◌≢◌, length, take, sym, refl, ◌∙◌, arith, length-drop, get_or-set_other, get_or-set_same, below_more}
use Rattle.std.proofs.lemmas.List.{ext_get_or, get_or-take, get_or-drop, length-take-le}
use Rattle.tables.proofs.KindList.{finds_as_sets}
use Rattle.tables.proofs.sets.kind_sets.Goals as goal

pub loop-i-preserved : goal.loop-i-preserved
loop-i-preserved c = (
  below_more _ _ (λ j h. let ne : j ≢ c.loop-i.i = omega arith in rw get_or-set_other (c.loop-i.invariant.0 j h))
      (let lt : c.loop-i.i < length c.loop-i.sets = omega arith in rw get_or-set_same c.kind_at.ensures),
  λ j h. let ne : j ≢ c.loop-i.i = omega arith in rw get_or-set_other (c.loop-i.invariant.1 j (omega arith)),
)

pub returns : goal.returns
returns c =
    let bs = c.args.table.kinds.now in let m = length bs / 8 in let ss = c.loop-i.sets in
    record {
      count = refl;
      written = λ i h. c.loop-i.invariant.0 i (omega arith);
      finds = finds_as_sets c.args.table.graves bs (take m ss) (length-take-le m ss (omega arith)) (λ j l. get_or-take m ss j 0 l ∙ c.loop-i.invariant.0 j (omega arith));
      rest = ext_get_or 0 _ _ (simp length-drop (omega arith)) (λ k h. get_or-drop m ss k 0 ∙ c.loop-i.invariant.1 (m + k) (omega arith) ∙ sym (get_or-drop m c.args.sets.now k 0));
    }
