use Rattle.std.proofs.Common.{◌≡◌, map, drop}
use Rattle.std.specs.List.{list_all}
use Rattle.p416_syntax.specs.Declarations.{top_names, struct_field}
use Rattle.p416_syntax.specs.Main.{is_bits_field}
use Rattle.p416_main_check.proofs.structs.are_bits_fields.Given as goal

abbrev pub invariant-loop-field : goal.invariant-loop-field
invariant-loop-field l =
    list_all is_bits_field (map (struct_field (top_names l.top)) (drop l.field-index l.fields)) ≡ list_all is_bits_field (map (struct_field (top_names l.top)) l.fields)
