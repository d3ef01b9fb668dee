use Rattle.std.proofs.Common.{◌≡◌, ◌++◌, map, drop}
use Rattle.p416_syntax.specs.Declarations.{field_name}
use Rattle.p416_names.proofs.layout.bit_field_names.Given as goal

abbrev pub invariant-loop-field : goal.invariant-loop-field
invariant-loop-field l = map (λ name. name.now) l.names.items ++ map field_name (drop l.field-index l.fields) ≡ map field_name l.fields
