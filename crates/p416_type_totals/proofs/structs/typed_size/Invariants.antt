use Rattle.std.proofs.Common.{◌≡◌, map, take}
use Rattle.p416_syntax.specs.Declarations.{top_names, struct_field}
use Rattle.p416_type_totals.specs.internal.Sized.{looked_fields}
use Rattle.p416_type_totals.proofs.structs.typed_size.Given as goal

abbrev pub invariant-loop-field : goal.invariant-loop-field
invariant-loop-field l = l.so_far ≡ looked_fields l.headers.measure l.types l.structs (map (struct_field (top_names l.types)) (take l.field-index l.fields))
