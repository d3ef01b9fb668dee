use Rattle.std.proofs.Common.{◌≡◌, ◌++◌, map, filter_map, drop}
use Rattle.p416_syntax.specs.Declarations.{table_in}
use Rattle.v1_ready_locals.proofs.own.own_tables.Given as goal

abbrev pub invariant-loop-local : goal.invariant-loop-local
invariant-loop-local l =
    map (λ t. t.now) l.found.items ++ filter_map table_in (drop l.local-index l.locals) ≡ filter_map table_in l.locals
