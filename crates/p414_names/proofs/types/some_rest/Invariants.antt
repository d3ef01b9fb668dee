use Rattle.std.proofs.Common.{◌≡◌, drop}
use Rattle.std.specs.List.{list_any}
use Rattle.p414_syntax.specs.Fields.{is_rest_field}
use Rattle.p414_names.proofs.types.some_rest.Given as goal

abbrev pub invariant-loop-field : goal.invariant-loop-field
invariant-loop-field l = list_any is_rest_field (drop l.field-index l.fields) ≡ list_any is_rest_field l.fields
