use Rattle.std.proofs.Common.{◌≡◌, replicate, None}
use Rattle.v1_seats.proofs.laying.none_laid.Given as goal

abbrev pub invariant-loop-made : goal.invariant-loop-made
invariant-loop-made l = l.laid.items ≡ replicate l.made None
