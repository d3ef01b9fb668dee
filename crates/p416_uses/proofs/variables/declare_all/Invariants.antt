use Rattle.std.proofs.Common.{◌≡◌, map, drop}
use Rattle.p416_scopes.specs.Seen.{seen_scope}
use Rattle.p416_uses.specs.Variables.{seen_variable, with_all}
use Rattle.p416_uses.proofs.variables.declare_all.Given as goal

abbrev pub invariant-loop-variable : goal.invariant-loop-variable
invariant-loop-variable l = record {
  scope : with_all (seen_scope l.scope) (map seen_variable (drop l.variable-index l.variables)) ≡ with_all (seen_scope l.fn.scope) (map seen_variable l.variables);
  top : l.scope.top ≡ l.fn.scope.top;
}
