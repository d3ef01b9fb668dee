use Rattle.p416_scopes.specs.Seen.{seen_scope}
use Rattle.p416_uses.specs.Parts.{key_uses_in}
use Rattle.p416_uses.proofs.Loops.{flat_on}
use Rattle.p416_uses.proofs.tables.see_keys_within.Goals as goal

pub loop-key-preserved : goal.loop-key-preserved
loop-key-preserved c = flat_on (key_uses_in (seen_scope c.args.scope.now)) c.args.keys.now c.loop-key.key-index c.key-item.result _ _ _ c.loop-key-test.true c.key-item.is c.in_ok-see_key.ensures c.loop-key.invariant
