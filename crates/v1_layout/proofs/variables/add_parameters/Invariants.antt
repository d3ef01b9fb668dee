use Rattle.std.proofs.Common.{◌≡◌, ◌++◌, map, drop}
use Rattle.p416_names.specs.SeenKinds.{seen_kind}
use Rattle.p416_scopes.specs.Seen.{seen_scope}
use Rattle.v1_core.specs.Slots.{parameter_kind}
use Rattle.v1_layout.proofs.variables.add_parameters.Given as goal

abbrev pub invariant-loop-parameter : goal.invariant-loop-parameter
invariant-loop-parameter l = map seen_kind l.kinds.items ++ map (parameter_kind (seen_scope l.scope)) (drop l.parameter-index l.parameters) ≡ map seen_kind l.fn.kinds.items ++ map (parameter_kind (seen_scope l.scope)) l.parameters
