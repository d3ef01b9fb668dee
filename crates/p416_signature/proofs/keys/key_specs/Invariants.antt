use Rattle.std.proofs.Common.{◌≡◌, ◌++◌, map, drop}
use Rattle.p416_scopes.specs.Seen.{seen_scope}
use Rattle.p416_signature.specs.internal.Gathered.{key_in}
use Rattle.p416_signature.proofs.keys.key_specs.Given as goal

abbrev pub invariant-loop-key : goal.invariant-loop-key
invariant-loop-key l =
    l.specs ++ map (key_in (seen_scope l.scope)) (drop l.key-index l.keys) ≡ map (key_in (seen_scope l.scope)) l.keys
