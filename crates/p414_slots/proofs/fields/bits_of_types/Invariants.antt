use Rattle.std.proofs.Common.{◌≡◌, ◌++◌, map, drop}
use Rattle.p414_slots.specs.internal.Found.{bits_together}
use Rattle.p414_syntax.specs.Fields.{types}
use Rattle.p414_slots.proofs.fields.bits_of_types.Given as goal

abbrev pub invariant-loop-decl : goal.invariant-loop-decl
invariant-loop-decl l = l.found.items ++ map bits_together (types (drop l.decl-index l.decls)) ≡ map bits_together (types l.decls)
