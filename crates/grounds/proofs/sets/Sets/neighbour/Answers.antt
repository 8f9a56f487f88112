use Rattle.std.proofs.Common.{ap, arith}
use Rattle.grounds.specs.Checking.{said}
use Rattle.grounds.specs.Neighbours.{finds_in_sets}
use Rattle.grounds.specs.Notes.{number}
use Rattle.grounds.proofs.Beside.{beside_on, beside_back, on_tells, back_tells, meets}
use Rattle.grounds.proofs.sets.Sets.neighbour.Goals as goal

pub returns-then-place-n : goal.returns-then-place-n
returns-then-place-n c =
    let f = finds_in_sets c.args.self in let p = said c.args.work.pair in let k = c.args.place in let w = c.requires.ready in
    meets f p k _ c.contains.ensures c.then_some.ensures (on_tells f p w.proper c.args.work.onward k c.if-place-n.true w.on) (ap (number f.graves) (beside_on f.graves p k c.if-place-n.true))

pub returns-else-place-n : goal.returns-else-place-n
returns-else-place-n c =
    let f = finds_in_sets c.args.self in let p = said c.args.work.pair in let k = c.args.place in let w = c.requires.ready in
    meets f p k _ c.contains-else-place-n.ensures c.then_some-else-place-n.ensures
    (back_tells f p w.proper c.args.work.back k c.if-place-n.false (let h = c.requires.within in let l = c.if-place-n.false in omega arith) w.off)
    (ap (number f.graves) (beside_back f.graves p k c.if-place-n.false))
