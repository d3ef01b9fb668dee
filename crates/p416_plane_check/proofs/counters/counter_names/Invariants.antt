use Rattle.std.proofs.Common.{◌≡◌, ◌++◌, map, flat_map, drop}
use Rattle.p416_syntax.specs.Tables.{outer_counters}
use Rattle.p416_plane_check.proofs.counters.counter_names.Given as goal

abbrev pub invariant-loop-decl : goal.invariant-loop-decl
invariant-loop-decl l = map (λ name. name.now) l.found.items ++ flat_map outer_counters (drop l.decl-index l.decls) ≡ flat_map outer_counters l.decls
