use Rattle.std.proofs.Common.{◌≡◌, ◌++◌, [], map, drop}
use Rattle.p416_syntax.specs.Scopes.{called_of, known_parameter}
use Rattle.p416_plane_check.proofs.counters.parameter_names.Given as goal

abbrev pub invariant-loop-parameter : goal.invariant-loop-parameter
invariant-loop-parameter l = map (λ name. name.now) l.names.items ++ map called_of (map (known_parameter []) (drop l.parameter-index l.parameters)) ≡ map called_of (map (known_parameter []) l.parameters)
