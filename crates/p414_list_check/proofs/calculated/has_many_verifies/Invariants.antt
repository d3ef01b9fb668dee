use Rattle.std.proofs.Common.{◌≡◌, ◌+◌, ◌≤◌, drop, count_by}
use Rattle.p414_syntax.specs.Lists.{is_verify}
use Rattle.p414_list_check.proofs.calculated.has_many_verifies.Given as goal

abbrev pub invariant-loop-entry : goal.invariant-loop-entry
invariant-loop-entry l = record {
  within : l.total ≤ 16;
  same : l.total + count_by is_verify (drop l.entry-index l.entries) ≡ count_by is_verify l.entries;
}
