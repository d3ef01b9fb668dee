use Rattle.std.proofs.Common.{◌≡◌, ◌+◌, ◌++◌, length, map, flat_map, drop}
use Rattle.p416_scopes.specs.Seen.{seen_scope}
use Rattle.v1_core.specs.Slots.{local_kinds}
use Rattle.v1_block_laws.specs.Variables.{locals_from}
use Rattle.v1_block_seats.specs.Seen.{seen_variable}
use Rattle.v1_block_seats.specs.Numbers.{actions_from}
use Rattle.v1_block_seats.proofs.numbers.control_numbers.Given as goal

abbrev pub invariant-loop-local : goal.invariant-loop-local
invariant-loop-local l = record {
  variables : map seen_variable l.variables.items ++ locals_from (seen_scope l.fn.scope) l.body (drop l.local-index l.locals) ≡ locals_from (seen_scope l.fn.scope) l.fn.first l.locals;
  actions : l.actions.items ++ actions_from (seen_scope l.fn.scope) l.body (drop l.local-index l.locals) ≡ actions_from (seen_scope l.fn.scope) l.fn.first l.locals;
  body : l.body + length (flat_map (local_kinds (seen_scope l.fn.scope)) (drop l.local-index l.locals)) ≡ l.fn.first + length (flat_map (local_kinds (seen_scope l.fn.scope)) l.locals);
  scope : seen_scope l.scope ≡ seen_scope l.fn.scope;
  top : l.scope.top ≡ l.fn.scope.top;
}
