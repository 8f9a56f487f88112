use Rattle.std.proofs.Common.{rules, arith}
use Rattle.trees.proofs.Starting.{graves_all}
use Rattle.trees.proofs.Writing.{same_room}
use Rattle.trees.proofs.first.start.Goals as goal

pub put-requires-2 : goal.put-requires-2
put-requires-2 c = omega (arith, same_room c.put_graves-graves.ensures.same, c.room.ensures, c.if-room-n.false, c.if-n-eq0.false)

pub returns-clause-starts : goal.returns-clause-starts
returns-clause-starts c =
    let w = graves_all (search rules) c.put_graves-graves.ensures.graves
    (record { parents = c.put-2.ensures.parents_after; sorts = c.put-2.ensures.sorts_after; places = c.put-2.ensures.places_after; sets = c.put-2.ensures.sets_after })
    (omega (arith, same_room c.put_graves-graves.ensures.same, c.room.ensures, c.if-room-n.false, c.if-n-eq0.false)) in
    (search rules, w.0, w.1)
