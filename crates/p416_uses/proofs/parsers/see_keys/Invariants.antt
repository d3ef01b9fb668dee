use Rattle.std.proofs.Common.{◌≡◌, ◌++◌, map, flat_map, drop}
use Rattle.p416_syntax.specs.Expressions.{kind_of}
use Rattle.p416_syntax.specs.Calls.{select_key}
use Rattle.p416_syntax.specs.Uses.{uses}
use Rattle.p416_names.specs.SeenKinds.{seen_kind}
use Rattle.p416_scopes.specs.Seen.{seen_scope}
use Rattle.p416_expression_uses.specs.Found.{after_all}
use Rattle.p416_uses.proofs.parsers.see_keys.Given as goal

abbrev pub invariant-loop-key : goal.invariant-loop-key
invariant-loop-key l = record {
  judged : after_all l.found (flat_map (uses (seen_scope l.scope) select_key) (drop l.key-index l.keys)) ≡ after_all l.fn.found (flat_map (uses (seen_scope l.scope) select_key) l.keys);
  known : map seen_kind l.kinds.items ++ map (kind_of (seen_scope l.scope)) (drop l.key-index l.keys) ≡ map (kind_of (seen_scope l.scope)) l.keys;
}
