use Rattle.std.proofs.Common.{refl, arith}
use Rattle.grounds.specs.Neighbours.{finds_in_sets}
use Rattle.grounds.proofs.Numbers.{split_proper, split_number, split_below}
use Rattle.grounds.proofs.sets.Sets.at_work.Goals as goal

pub overflow_cast-pair : goal.overflow_cast-pair
overflow_cast-pair c = let h = (split_proper (finds_in_sets c.args.self) c.args.cell c.requires).0 in omega arith

pub beyond-requires : goal.beyond-requires
beyond-requires c = let h = split_proper (finds_in_sets c.args.self) c.args.cell c.requires in (h.0, h.1)

pub beyond-requires-2 : goal.beyond-requires-2
beyond-requires-2 c = let h = split_proper (finds_in_sets c.args.self) c.args.cell c.requires in (h.1, h.0)

pub returns : goal.returns
returns c =
    let f = finds_in_sets c.args.self in
    (record { numbers = split_number f c.args.cell c.requires; within = split_below f c.args.cell c.requires; proper = split_proper f c.args.cell c.requires; on = c.beyond.ensures; off = c.beyond-2.ensures }, refl)
