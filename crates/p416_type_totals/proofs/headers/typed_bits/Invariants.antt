use Rattle.std.proofs.Common.{◌≡◌, map, take, min, sum_by}
use Rattle.p416_syntax.specs.Declarations.{top_names, struct_field}
use Rattle.p416_syntax.specs.Totals.{field_bits}
use Rattle.p416_type_totals.specs.internal.Sized.{bit_limit}
use Rattle.p416_type_totals.proofs.headers.typed_bits.Given as goal

abbrev pub invariant-loop-field : goal.invariant-loop-field
invariant-loop-field l = l.so_far ≡ min bit_limit (sum_by field_bits (map (struct_field (top_names l.types)) (take l.field-index l.fields)))
