use Rattle.std.proofs.Common.{◌≡◌, drop}
use Rattle.std.specs.List.{list_any}
use Rattle.p414_syntax.specs.Unsupported.{is_unsupported_field}
use Rattle.p414_flat_check.proofs.unsupported.some_unsupported_field.Given as goal

abbrev pub invariant-loop-field : goal.invariant-loop-field
invariant-loop-field l = list_any is_unsupported_field (drop l.field-index l.fields) ≡ list_any is_unsupported_field l.fields
