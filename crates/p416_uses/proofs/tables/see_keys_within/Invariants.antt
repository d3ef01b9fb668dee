use Rattle.std.proofs.Common.{◌≡◌, flat_map, drop}
use Rattle.p416_scopes.specs.Seen.{seen_scope}
use Rattle.p416_expression_uses.specs.Found.{after_all}
use Rattle.p416_uses.specs.Parts.{key_uses_in}
use Rattle.p416_uses.proofs.tables.see_keys_within.Given as goal

abbrev pub invariant-loop-key : goal.invariant-loop-key
invariant-loop-key l = after_all l.found (flat_map (key_uses_in (seen_scope l.scope)) (drop l.key-index l.keys)) ≡ after_all l.fn.found (flat_map (key_uses_in (seen_scope l.scope)) l.keys)
