use Rattle.std.proofs.Common.{◌≡◌, flat_map, drop}
use Rattle.p416_syntax.specs.Declarations.{parameter_uses}
use Rattle.p416_scopes.specs.Seen.{seen_scope}
use Rattle.p416_expression_uses.specs.Found.{after_all}
use Rattle.p416_expression_uses.specs.Seen.{seen_type_place}
use Rattle.p416_uses.proofs.types.see_parameters.Given as goal

abbrev pub invariant-loop-parameter : goal.invariant-loop-parameter
invariant-loop-parameter l = after_all l.found (flat_map (parameter_uses (seen_scope l.scope) (seen_type_place l.place)) (drop l.parameter-index l.parameters)) ≡ after_all l.fn.found (flat_map (parameter_uses (seen_scope l.scope) (seen_type_place l.place)) l.parameters)
