use Rattle.std.proofs.Common.{◌≡◌, ◌++◌, map, drop}
use Rattle.p414_syntax.specs.Fields.{types}
use Rattle.lower_decls.specs.Using.{has_of}
use Rattle.lower_decls.proofs.picked.flags_by.Given as goal

abbrev pub invariant-loop-decl : goal.invariant-loop-decl
invariant-loop-decl l = l.found ++ map (has_of l.used) (types (drop l.decl-index l.decls)) ≡ map (has_of l.used) (types l.decls)
