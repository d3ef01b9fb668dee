use Rattle.std.proofs.Common.{◌≡◌, ◌+◌, ◌≤◌, drop, sum_by}
use Rattle.p414_syntax.specs.Totals.{header_bits}
use Rattle.p414_decl_check.proofs.totals.has_too_many_bits.Given as goal

abbrev pub invariant-loop-decl : goal.invariant-loop-decl
invariant-loop-decl l = record {
  within : l.total ≤ 262144;
  same : l.total + sum_by (header_bits l.names) (drop l.decl-index l.decls) ≡ sum_by (header_bits l.names) l.decls;
}
