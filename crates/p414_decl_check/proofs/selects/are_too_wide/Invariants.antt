use Rattle.std.proofs.Common.{◌≡◌, ◌+◌, ◌≤◌, drop, sum_by, option_copied}
use Rattle.p414_syntax.specs.Selects.{value_bits}
use Rattle.p414_decl_check.proofs.selects.are_too_wide.Given as goal

abbrev pub invariant-loop-value : goal.invariant-loop-value
invariant-loop-value l = record {
  within : l.total ≤ 128;
  same : l.total + sum_by (value_bits l.names (option_copied l.last)) (drop l.value-index l.values) ≡ sum_by (value_bits l.names (option_copied l.last)) l.values;
}
