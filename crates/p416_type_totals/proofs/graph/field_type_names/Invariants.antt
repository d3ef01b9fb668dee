use Rattle.std.proofs.Common.{◌≡◌, ◌++◌, map, filter_map, drop}
use Rattle.p416_syntax.specs.Unknown.{field_type_name}
use Rattle.p416_type_totals.proofs.graph.field_type_names.Given as goal

abbrev pub invariant-loop-field : goal.invariant-loop-field
invariant-loop-field l = map (λ name. name.now) l.names.items ++ filter_map field_type_name (drop l.field-index l.fields) ≡ filter_map field_type_name l.fields
