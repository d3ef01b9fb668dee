use Rattle.std.proofs.Common.{◌≡◌, ◌++◌, map, filter, filter_map, drop}
use Rattle.p416_syntax.specs.Declarations.{table_in, counters_in}
use Rattle.p416_syntax.specs.Tables.{is_not_among}
use Rattle.p416_plane_check.proofs.counters.add_counters.Given as goal

abbrev pub invariant-loop-declared : goal.invariant-loop-declared
invariant-loop-declared l = map (λ name. name.now) l.found.items ++ filter (is_not_among l.names) (filter_map counters_in (filter_map table_in (drop l.declared-index l.locals))) ≡ map (λ name. name.now) l.fn.found.items ++ filter (is_not_among l.names) (filter_map counters_in (filter_map table_in l.locals))
