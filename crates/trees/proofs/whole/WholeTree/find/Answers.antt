use Rattle.std.proofs.Common.{arith}
use Rattle.trees.proofs.Checking.{tree_in_few}
use Rattle.trees.proofs.whole.WholeTree.find.Goals as goal
use Rattle.trees.proofs.whole.WholeTree.find.Goals.{then-count-eq0-via-then-count-eq0, then-count-eq0-via-else-count-eq0+then-count-gt127, then-count-eq0-via-else-count-eq0+else-count-gt127+then-room-count}

pub returns-then-count-eq0 : goal.returns-then-count-eq0
returns-then-count-eq0 c = λ h.
    let f = tree_in_few h in
    let l = h.long in
    elim c.then-count-eq0.branch [
      | then-count-eq0-via-then-count-eq0 w ↦ omega (arith, w.if-count-eq0.true)
      | then-count-eq0-via-else-count-eq0+then-count-gt127 w ↦ omega (arith, w.if-count-gt127.true)
      | then-count-eq0-via-else-count-eq0+else-count-gt127+then-room-count w ↦ omega (arith, w.if-room-count.true, w.room.ensures)
    ]
