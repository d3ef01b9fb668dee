use Rattle.std.proofs.Common.{◌≡◌, ◌++◌, map, drop}
use Rattle.p416_syntax.specs.Expressions.{kind_of}
use Rattle.p416_names.specs.SeenKinds.{seen_kind}
use Rattle.p416_scopes.specs.Seen.{seen_scope}
use Rattle.v1_ready_transitions.proofs.transitions.key_kinds.Given as goal

abbrev pub invariant-loop-key : goal.invariant-loop-key
invariant-loop-key l = map seen_kind l.kinds.items ++ map (kind_of (seen_scope l.scope)) (drop l.key-index l.keys) ≡ map (kind_of (seen_scope l.scope)) l.keys
