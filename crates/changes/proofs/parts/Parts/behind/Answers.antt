use Rattle.std.proofs.Common.{ℕ, ◌-◌, List, length, drop, sym, subst, arith}
use Rattle.std.proofs.lemmas.List.{take_all, length-drop}
use mathlib.Core.Logic.{∥∥₁_map}
use Rattle.changes.specs.Bunches.{AllStand}
use Rattle.changes.proofs.Standing.{all_behind}
use Rattle.changes.proofs.parts.Parts.behind.Goals as goal

pub invariant_of-result : goal.invariant_of-result
invariant_of-result c =
    let cs = c.args.self.cells.now in
    let x = c.args.x in
    let e = take_all (length cs - x) (drop x cs) (let l = length-drop x cs in omega arith) in
    record { stand = subst (λ (l : List ℕ). ∥ AllStand c.args.self.rows c.args.self.count l ∥₁) (sym e) (∥∥₁_map c.args.self.stand (all_behind x)) }
