use Rattle.std.proofs.Common.{◌≡◌, ◌++◌, map, flat_map, drop}
use Rattle.p416_syntax.specs.Tables.{table_plane, tables_of}
use Rattle.p416_plane_check.proofs.names.table_names.Given as goal

abbrev pub invariant-loop-decl : goal.invariant-loop-decl
invariant-loop-decl l = map (λ name. name.now) l.names.items ++ map table_plane (flat_map tables_of (drop l.decl-index l.decls)) ≡ map table_plane (flat_map tables_of l.decls)
