use Rattle.std.proofs.Common.{◌≡◌, ◌≤◌, length, take, filter}
use Rattle.changes.specs.Bunches.{listed}
use Rattle.changes.specs.Shares.{has_share}
use Rattle.changes.proofs.parts.Parts.pick.Given as goal

abbrev pub invariant-loop-cell : goal.invariant-loop-cell
invariant-loop-cell l =
    (length (listed l.picked) ≤ l.cell-index)
    × (listed l.picked ≡ filter (has_share l.self.rows.sets.now l.mask l.want) (take l.cell-index l.self.cells.now))
