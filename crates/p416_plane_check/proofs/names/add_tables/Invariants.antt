use Rattle.std.proofs.Common.{◌≡◌, ◌++◌, map, filter_map, drop}
use Rattle.p416_syntax.specs.Declarations.{table_in}
use Rattle.p416_syntax.specs.Tables.{table_plane}
use Rattle.p416_plane_check.proofs.names.add_tables.Given as goal

abbrev pub invariant-loop-declared : goal.invariant-loop-declared
invariant-loop-declared l = map (λ name. name.now) l.names.items ++ map table_plane (filter_map table_in (drop l.declared-index l.locals)) ≡ map (λ name. name.now) l.fn.names.items ++ map table_plane (filter_map table_in l.locals)
