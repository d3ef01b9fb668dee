use Rattle.std.proofs.Common.{arith}
use Rattle.least_order.proofs.Building.{some_sum}
use Rattle.least_order.proofs.counting.above_one.Goals as goal

pub returns-clause-least : goal.returns-clause-least
returns-clause-least c =
    let sum = some_sum c.checked_add.result c.args.number 1 c.in_ok-next.next c.checked_add.ensures c.in_ok-next.ensures.ok_part in
    omega (arith, sum.1, c.if-number-least.false)

pub returns-clause-above : goal.returns-clause-above
returns-clause-above c =
    let sum = some_sum c.checked_add.result c.args.number 1 c.in_ok-next.next c.checked_add.ensures c.in_ok-next.ensures.ok_part in
    omega (arith, sum.1)
