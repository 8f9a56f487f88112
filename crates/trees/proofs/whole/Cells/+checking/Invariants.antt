use Rattle.std.proofs.Common.{◌+◌, ◌-◌, ◌*◌}
use Rattle.trees.specs.Rows.{seen}
use Rattle.trees.proofs.Checking.{Checking}
use Rattle.trees.proofs.whole.Cells.+checking.Given as goal

-- A branch lies behind its root, so the cells that are left grow fewer.
abbrev pub decreases-branches_end : goal.decreases-branches_end
decreases-branches_end l = 2 * (l.self.count - l.i)

abbrev pub decreases-part_end : goal.decreases-part_end
decreases-part_end l = 2 * (l.self.count - l.i) + 1

abbrev pub invariant-branches_end-loop-i : goal.invariant-branches_end-loop-i
invariant-branches_end-loop-i l = Checking (seen l.self.rows) l.self.count l.i l.at l.place l.graves

abbrev pub decreases-branches_end-loop-i : goal.decreases-branches_end-loop-i
decreases-branches_end-loop-i l = l.self.count - l.at
