use Rattle.match_core.proofs.Ordered.{NoneBefore}
use Rattle.match_core.proofs.order.first.Given as goal

abbrev pub invariant-loop-place : goal.invariant-loop-place
invariant-loop-place l = NoneBefore (record { specs = l.specs; entries = l.entries }) l.key l.order l.place-index
