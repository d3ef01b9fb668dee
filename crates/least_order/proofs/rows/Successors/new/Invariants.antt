use Rattle.std.proofs.Common.{◌≡◌, [], replicate}
use Rattle.least_order.proofs.rows.Successors.new.Given as goal

abbrev pub invariant-loop : goal.invariant-loop
invariant-loop l = l.rows.items ≡ replicate l.counter []
