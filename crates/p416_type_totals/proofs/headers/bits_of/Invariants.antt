use Rattle.std.proofs.Common.{◌≡◌, map, take, min, sum_by}
use Rattle.p416_syntax.specs.Declarations.{bit_field}
use Rattle.p416_syntax.specs.Totals.{field_bits}
use Rattle.p416_type_totals.specs.internal.Sized.{bit_limit}
use Rattle.p416_type_totals.proofs.headers.bits_of.Given as goal

abbrev pub invariant-loop-field : goal.invariant-loop-field
invariant-loop-field l = l.so_far ≡ min bit_limit (sum_by field_bits (map bit_field (take l.field-index l.fields)))
