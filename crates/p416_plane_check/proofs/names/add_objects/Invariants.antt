use Rattle.std.proofs.Common.{◌≡◌, ◌++◌, map, flat_map, drop}
use Rattle.p416_syntax.specs.Tables.{local_object}
use Rattle.p416_plane_check.proofs.names.add_objects.Given as goal

abbrev pub invariant-loop-declared : goal.invariant-loop-declared
invariant-loop-declared l = map (λ name. name.now) l.names.items ++ flat_map local_object (drop l.declared-index l.locals) ≡ map (λ name. name.now) l.fn.names.items ++ flat_map local_object l.locals
