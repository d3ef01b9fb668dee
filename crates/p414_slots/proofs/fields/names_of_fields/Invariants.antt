use Rattle.std.proofs.Common.{◌≡◌, ◌++◌, map, drop}
use Rattle.p414_syntax.specs.References.{referred}
use Rattle.p414_syntax.specs.Names.{field_name}
use Rattle.p414_slots.proofs.fields.names_of_fields.Given as goal

abbrev pub invariant-loop-field : goal.invariant-loop-field
invariant-loop-field l = map referred l.names.items ++ map field_name (drop l.field-index l.fields) ≡ map field_name l.fields
