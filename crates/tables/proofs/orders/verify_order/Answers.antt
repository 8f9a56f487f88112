use Rattle.std.proofs.Common.{ℕ, subst, arith}
use Rattle.finds.specs.Finds.{Finds}
use Rattle.tables.specs.Orders.{GoodOrder, Judged}
use Rattle.tables.proofs.orders.verify_order.Goals as goal

pub returns : goal.returns
returns c =
    let h = c.in_ok-table.ensures in let l = c.args.order.now in (
      h.0,
      subst (λ (n : ℕ). GoodOrder n l) h.1.graves_are (c.if-order-table.false, λ p m b. c.in_default.ensures p (omega arith) b),
      subst (λ (f : Finds). Judged f l c.judge.result) h.1.finds_are c.judge.ensures,
    )
