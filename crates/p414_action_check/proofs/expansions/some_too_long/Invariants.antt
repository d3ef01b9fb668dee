use Rattle.std.proofs.Common.{◌≡◌, nat_lt, drop}
use Rattle.std.specs.List.{list_any}
use Rattle.p414_action_check.proofs.expansions.some_too_long.Given as goal

abbrev pub invariant-loop-size : goal.invariant-loop-size
invariant-loop-size l = list_any (nat_lt 4096) (drop l.size-index l.sizes) ≡ list_any (nat_lt 4096) l.sizes
