use Rattle.std.proofs.Common.{◌≡◌, ◌+◌, ◌%◌, ◌<◌, drop, sum_by}
use Rattle.p414_syntax.specs.Fields.{field_bits}
use Rattle.p414_names.proofs.types.loose_bits.Given as goal

abbrev pub invariant-loop-field : goal.invariant-loop-field
invariant-loop-field l = record {
  within : l.rest < 8;
  same : (l.rest + sum_by field_bits (drop l.field-index l.fields)) % 8 ≡ sum_by field_bits l.fields % 8;
}
