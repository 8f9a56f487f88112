use Rattle.finds.specs.Sets.{has}
use Rattle.tables.proofs.Between.{Ends, none_between, between_first}
use Rattle.tables.proofs.orders.first_between.Goals as goal
use Rattle.tables.proofs.orders.first_between.Goals.{In_ok-last}

-- What the two searches found.
ends : (c : In_ok-last) → Ends (has c.args.set) c.args.order.now c.in_ok-first.first c.in_ok-last.last
ends c =
    let f = c.in_ok-first.ensures in let l = c.in_ok-last.ensures in
    record { first_lt = f.0; first_has = f.1; none_before = f.2; last_lt = l.0; last_has = l.1; none_behind = l.2 }

pub returns-in_err-lacking : goal.returns-in_err-lacking
returns-in_err-lacking c = rw c.from_residual-in_err-lacking.ensures (none_between (ends (goal.at.returns-in_err-lacking c).In_ok-last) c.in_err-lacking.ensures)

pub returns : goal.returns
returns c = let x = c.in_ok-lacking.ensures in between_first (ends (goal.at.returns c).In_ok-last) c.in_ok-lacking.lacking x.0 x.1 x.2
