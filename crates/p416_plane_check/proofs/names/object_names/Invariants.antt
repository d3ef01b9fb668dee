use Rattle.std.proofs.Common.{◌≡◌, ◌++◌, map, flat_map, drop}
use Rattle.p416_syntax.specs.Tables.{objects_of}
use Rattle.p416_plane_check.proofs.names.object_names.Given as goal

abbrev pub invariant-loop-decl : goal.invariant-loop-decl
invariant-loop-decl l = map (λ name. name.now) l.names.items ++ flat_map objects_of (drop l.decl-index l.decls) ≡ flat_map objects_of l.decls
