use Rattle.std.proofs.Common.{refl, inl, arith, rules}
use Rattle.tables.specs.Room.{branches_for, colours_for, ring_for}
use Rattle.grounds.proofs.Answering.{room_for, same_finds, tree_of, ground_of, sets_of_file, taken_room, stages}
use Rattle.grounds.proofs.whole.seriate.Goals as goal

pub grow-requires : goal.grow-requires
grow-requires c =
    let t = c.in_ok-table.ensures in
    let b = room_for branches_for c.in_ok-table.table.graves _ c.room.result t.1.graves_are (λ l. t.0.1.0 (inl l)) in
    record { some = t.1.some; few = t.1.few; room = omega arith }

pub find_ring-requires : goal.find_ring-requires
find_ring-requires c =
    let t = c.in_ok-table.ensures in
    let b = room_for colours_for c.in_ok-table.table.graves _ c.room-2.result t.1.graves_are t.0.1.1 in
    let r = room_for ring_for c.in_ok-table.table.graves _ _ t.1.graves_are t.0.1.2 in
    record { few = (t.1.some, t.1.few); wide = (omega arith, (omega arith, omega arith)); long = r }

pub returns-in-Tree-clause-whole : goal.returns-in-Tree-clause-whole
returns-in-Tree-clause-whole c =
    let t = c.in_ok-table.ensures in let w = c.in-Tree.ensures in let k = c.kind_sets-many.ensures in
    let file = c.args.file.now in let table = c.in_ok-table.table in (
      taken_room file c.room.result c.room-2.result _ _ _ _ (omega arith) (omega arith) t.0,
      tree_of _ _ _ _ _ _ (same_finds file table c.kind_sets-many.result c.kind_sets-many.new.sets t.1 k.finds) w.builds (record { depths = refl; parents = refl; queue = refl; ring = refl }),
      sets_of_file file table c.kind_sets-many.result _ _ t.1 k.count k.written k.rest,
      stages file table t.1,
    )

pub returns-in-Some-clause-whole : goal.returns-in-Some-clause-whole
returns-in-Some-clause-whole c =
    let t = c.in_ok-table.ensures in let w = c.in-NoOrder.ensures in let r = c.in-Some.ensures in let k = c.kind_sets-many.ensures in
    let file = c.args.file.now in let table = c.in_ok-table.table in (
      taken_room file c.room.result c.room-2.result _ _ _ _ (omega arith) (omega arith) t.0,
      ground_of _ _ _ _ _ _ (same_finds file table c.kind_sets-many.result c.kind_sets-many.new.sets t.1 k.finds) w.builds r.found
          (record { depths = search rules; parents = search rules; queue = search rules }),
      sets_of_file file table c.kind_sets-many.result _ _ t.1 k.count k.written k.rest,
      stages file table t.1,
    )
