use Rattle.std.proofs.Common.{◌≡◌, ◌++◌, map, filter_map, drop}
use Rattle.p416_syntax.specs.Declarations.{counters_in, table_in}
use Rattle.p416_uses.proofs.controls.counter_names.Given as goal

abbrev pub invariant-loop-declared : goal.invariant-loop-declared
invariant-loop-declared l = map (λ name. name.now) l.names.items ++ filter_map counters_in (filter_map table_in (drop l.declared-index l.locals)) ≡ filter_map counters_in (filter_map table_in l.locals)
