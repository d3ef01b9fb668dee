use Rattle.std.proofs.Common.{◌≡◌, ◌++◌, map, drop}
use Rattle.p416_syntax.specs.Declarations.{top_names, struct_field}
use Rattle.p416_names.specs.SeenKinds.{seen_kind}
use Rattle.v1_layout.specs.Left.{kind_of_field}
use Rattle.v1_layout.proofs.fields.typed_kinds.Given as goal

abbrev pub invariant-loop-field : goal.invariant-loop-field
invariant-loop-field l = map seen_kind l.kinds.items ++ map kind_of_field (map (struct_field (top_names l.top)) (drop l.field-index l.fields)) ≡ map kind_of_field (map (struct_field (top_names l.top)) l.fields)
