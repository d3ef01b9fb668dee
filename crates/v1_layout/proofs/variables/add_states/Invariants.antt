use Rattle.std.proofs.Common.{◌≡◌, ◌++◌, map, drop}
use Rattle.std.specs.Prelude.{flat_map}
use Rattle.p416_names.specs.SeenKinds.{seen_kind}
use Rattle.p416_scopes.specs.Seen.{seen_scope}
use Rattle.v1_core.specs.Slots.{state_kinds}
use Rattle.v1_layout.proofs.variables.add_states.Given as goal

abbrev pub invariant-loop-state : goal.invariant-loop-state
invariant-loop-state l = record {
  kinds : map seen_kind l.kinds.items ++ flat_map (state_kinds (seen_scope l.fn.scope)) (drop l.state-index l.states) ≡ map seen_kind l.fn.kinds.items ++ flat_map (state_kinds (seen_scope l.fn.scope)) l.states;
  scope : seen_scope l.scope ≡ seen_scope l.fn.scope;
}
