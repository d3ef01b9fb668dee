use Rattle.std.proofs.Common.{◌≡◌, ◌+◌, ◌*◌, ◌≤◌, drop, sum_by}
use Rattle.std.specs.List.{list_any}
use Rattle.p416_syntax.specs.Sizes.{bits_of_field, has_bad_width}
use Rattle.p416_uses.proofs.types.bits_of.Given as goal

abbrev pub invariant-loop-field : goal.invariant-loop-field
invariant-loop-field l = record {
  widths : list_any has_bad_width (drop l.field-index l.fields) ≡ list_any has_bad_width l.fields;
  sum : l.bits + sum_by bits_of_field (drop l.field-index l.fields) ≡ sum_by bits_of_field l.fields;
  within : l.bits ≤ 128 * l.field-index;
}
