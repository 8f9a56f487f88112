use Rattle.std.proofs.Common.{refl, rules, arith, below_more}
use Rattle.clashes.specs.Rings.{Closes}
use Rattle.trees.proofs.Deciding.{denied}
use Rattle.grounds.specs.Checking.{finds_in_table, pairs_of, said}
use Rattle.grounds.proofs.RingBytes.{pairs_length}
use Rattle.grounds.proofs.RingChunks.{TwoPairs, both_well, both_held}
use Rattle.grounds.proofs.Clashing.{ring_ground}
use Rattle.grounds.proofs.checking.judge.Goals as goal
use Rattle.grounds.proofs.checking.judge.Goals.{After-from-in-loop-place}

-- The two pairs at hand.
at_hand : (c : After-from-in-loop-place) → TwoPairs c.args.ring.now c.as_chunks.result.0.now c.loop-place.place c.place_after.result (said c.from.result) (said c.from-in-loop-place.result)
at_hand c = record { cut = c.as_chunks.ensures.front; this = c.from.ensures; next = c.from-in-loop-place.ensures; this_lt = search rules; next_lt = search rules; next_is = search rules }

pub joint-requires : goal.joint-requires
joint-requires c = record { well = both_well (at_hand (goal.at.joint-requires c).After-from-in-loop-place) c.requires.good }

pub returns-then-not-joint : goal.returns-then-not-joint
returns-then-not-joint c =
    let z = pairs_length c.args.ring.now in let f = finds_in_table c.args.table in
    (omega arith, (λ h. denied c.if-not-joint.ensures ((both_held (at_hand (goal.at.returns-then-not-joint c).After-from-in-loop-place) f).1 h)), c.loop-place.invariant)

pub loop-place-preserved : goal.loop-place-preserved
loop-place-preserved c =
    let f = finds_in_table c.args.table in
    below_more _ _ c.loop-place.invariant ((both_held (at_hand (goal.at.loop-place-preserved c).After-from-in-loop-place) f).0 (c.if-not-joint.ensures.0 refl))

pub returns : goal.returns
returns c =
    let f = finds_in_table c.args.table in let l = c.args.ring.now in let z = pairs_length l in
    let closes : Closes f (pairs_of l) = λ i h. c.loop-place.invariant i (omega arith) in (closes, ring_ground f l c.requires.good.0 closes)
