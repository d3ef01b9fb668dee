use Rattle.std.proofs.Common.{◌≡◌, ◌++◌, [], map, drop}
use Rattle.p416_syntax.specs.Scopes.{called_of}
use Rattle.p416_syntax.specs.Declarations.{known_local}
use Rattle.p416_plane_check.proofs.counters.add_local_names.Given as goal

abbrev pub invariant-loop-declared : goal.invariant-loop-declared
invariant-loop-declared l = map (λ name. name.now) l.names.items ++ map called_of (map (known_local []) (drop l.declared-index l.locals)) ≡ map (λ name. name.now) l.fn.names.items ++ map called_of (map (known_local []) l.locals)
