use Rattle.std.proofs.Common.{◌≡◌, drop}
use Rattle.std.specs.List.{list_any}
use Rattle.p414_syntax.specs.Widths.{looks_too_far}
use Rattle.p414_decl_check.proofs.currents.some_value_looks_too_far.Given as goal

abbrev pub invariant-loop-value : goal.invariant-loop-value
invariant-loop-value l = list_any (looks_too_far) (drop l.value-index l.values) ≡ list_any (looks_too_far) l.values
