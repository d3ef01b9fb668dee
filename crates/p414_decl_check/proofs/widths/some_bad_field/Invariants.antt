use Rattle.std.proofs.Common.{◌≡◌, drop}
use Rattle.std.specs.List.{list_any}
use Rattle.p414_syntax.specs.Widths.{is_bad_field}
use Rattle.p414_decl_check.proofs.widths.some_bad_field.Given as goal

abbrev pub invariant-loop-field : goal.invariant-loop-field
invariant-loop-field l = list_any (is_bad_field) (drop l.field-index l.fields) ≡ list_any (is_bad_field) l.fields
