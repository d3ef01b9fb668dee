use Rattle.std.proofs.Common.{◌≡◌, drop, sum_by}
use Rattle.p414_syntax.specs.Fields.{field_bits}
use Rattle.p414_names.proofs.types.have_no_bits.Given as goal

abbrev pub invariant-loop-field : goal.invariant-loop-field
invariant-loop-field l = sum_by field_bits (drop l.field-index l.fields) ≡ sum_by field_bits l.fields
