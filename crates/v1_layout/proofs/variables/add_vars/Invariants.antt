use Rattle.std.proofs.Common.{◌≡◌, ◌++◌, map, drop}
use Rattle.p416_names.specs.SeenKinds.{seen_kind}
use Rattle.p416_scopes.specs.Seen.{seen_scope}
use Rattle.v1_core.specs.Slots.{var_kind}
use Rattle.v1_layout.proofs.variables.add_vars.Given as goal

abbrev pub invariant-loop-var : goal.invariant-loop-var
invariant-loop-var l = map seen_kind l.kinds.items ++ map (var_kind (seen_scope l.scope)) (drop l.var-index l.vars) ≡ map seen_kind l.fn.kinds.items ++ map (var_kind (seen_scope l.scope)) l.vars
