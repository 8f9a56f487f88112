use Rattle.std.proofs.Common.{◌≡◌, false, drop}
use Rattle.changes.specs.Shares.{in_order}
use Rattle.changes.proofs.parts.Parts.in_sequence.Given as goal

abbrev pub invariant-loop-cell : goal.invariant-loop-cell
invariant-loop-cell l = in_order l.self.rows.sets.now l.mask l.past (drop l.cell-index l.self.cells.now) ≡ in_order l.self.rows.sets.now l.mask false l.self.cells.now
