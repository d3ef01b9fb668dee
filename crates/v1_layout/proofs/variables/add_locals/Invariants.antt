use Rattle.std.proofs.Common.{◌≡◌, ◌++◌, map, drop}
use Rattle.std.specs.Prelude.{flat_map}
use Rattle.p416_names.specs.SeenKinds.{seen_kind}
use Rattle.p416_scopes.specs.Seen.{seen_scope}
use Rattle.v1_core.specs.Slots.{local_kinds}
use Rattle.v1_layout.proofs.variables.add_locals.Given as goal

abbrev pub invariant-loop-local : goal.invariant-loop-local
invariant-loop-local l = record {
  kinds : map seen_kind l.kinds.items ++ flat_map (local_kinds (seen_scope l.fn.scope)) (drop l.local-index l.locals) ≡ map seen_kind l.fn.kinds.items ++ flat_map (local_kinds (seen_scope l.fn.scope)) l.locals;
  scope : seen_scope l.scope ≡ seen_scope l.fn.scope;
}
