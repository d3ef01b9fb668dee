use Rattle.std.proofs.Common.{◌≡◌, ◌++◌, map, drop}
use Rattle.p416_syntax.specs.Scopes.{known_parameter}
use Rattle.p416_syntax.specs.Declarations.{top_names}
use Rattle.p416_scopes.specs.Seen.{seen_scope, seen_declared}
use Rattle.p416_scopes.proofs.scope.Scope.parameters_within.Given as goal

abbrev pub invariant-loop-parameter : goal.invariant-loop-parameter
invariant-loop-parameter l =
    map (seen_declared (top_names l.self.top.now)) l.found.items ++ map (known_parameter (seen_scope l.self).names) (drop l.parameter-index l.parameters)
    ≡ map (known_parameter (seen_scope l.self).names) l.parameters
