use Rattle.std.proofs.Common.{◌≡◌, nat_lt, drop}
use Rattle.std.specs.List.{list_any}
use Rattle.p414_control_check.proofs.deep.some_too_deep.Given as goal

abbrev pub invariant-loop-depth : goal.invariant-loop-depth
invariant-loop-depth l = list_any (nat_lt 63) (drop l.depth-index l.depths) ≡ list_any (nat_lt 63) l.depths
