use Rattle.std.proofs.Common.{◌≡◌, ◌++◌, map, drop}
use Rattle.p414_syntax.specs.Expansion.{type_fields}
use Rattle.p414_syntax.specs.Fields.{types}
use Rattle.p414_slots.proofs.fields.fields_of_types.Given as goal

abbrev pub invariant-loop-decl : goal.invariant-loop-decl
invariant-loop-decl l = l.found.items ++ map type_fields (types (drop l.decl-index l.decls)) ≡ map type_fields (types l.decls)
