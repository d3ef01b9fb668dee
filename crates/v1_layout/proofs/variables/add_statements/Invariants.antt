use Rattle.std.proofs.Common.{◌≡◌, ◌++◌, map, length}
use Rattle.std.specs.Prelude.{filter_map}
use Rattle.p416_names.specs.SeenKinds.{seen_kind}
use Rattle.p416_scopes.specs.Seen.{seen_scope}
use Rattle.p416_visits.specs.Left.{left_in, scope_behind}
use Rattle.v1_core.specs.Slots.{visited_kind, kinds_in}
use Rattle.v1_layout.proofs.variables.add_statements.Given as goal

abbrev pub invariant-loop-visits : goal.invariant-loop-visits
invariant-loop-visits l = record {
  kinds : map seen_kind l.kinds.items ++ filter_map visited_kind (left_in l.scope l.visits.work) ≡ map seen_kind l.fn.kinds.items ++ kinds_in (seen_scope l.fn.scope) l.statements;
  scope : scope_behind l.scope l.visits.work ≡ seen_scope l.fn.scope;
  top : l.scope.top ≡ l.fn.scope.top;
}

abbrev pub decreases-loop-visits : goal.decreases-loop-visits
decreases-loop-visits l = length (left_in l.scope l.visits.work)
