use Rattle.std.proofs.Common.{◌≡◌, ◌+◌, ◌≤◌, drop, count_by}
use Rattle.p414_syntax.specs.Tables.{is_lpm_key}
use Rattle.p414_flat_check.proofs.tables.some_two_prefixes.Given as goal

abbrev pub invariant-loop-read : goal.invariant-loop-read
invariant-loop-read l = record {
  within : l.total ≤ 1;
  same : l.total + count_by is_lpm_key (drop l.read-index l.reads) ≡ count_by is_lpm_key l.reads;
}
