use Rattle.std.proofs.Common.{◌≡◌, ◌+◌, ◌≤◌, drop, sum_by}
use Rattle.p414_syntax.specs.Totals.{instance_fields}
use Rattle.p414_decl_check.proofs.totals.has_too_many_fields.Given as goal

abbrev pub invariant-loop-decl : goal.invariant-loop-decl
invariant-loop-decl l = record {
  within : l.total ≤ 65536;
  same : l.total + sum_by (instance_fields l.names) (drop l.decl-index l.decls) ≡ sum_by (instance_fields l.names) l.decls;
}
