use Rattle.std.proofs.Common.{◌+◌, map, refl, ap}
use Rattle.p416_names.specs.SeenKinds.{seen_kind}
use Rattle.p416_scopes.specs.Seen.{seen_scope}
use Rattle.p416_uses.proofs.Loops.{parts_on}
use Rattle.p416_uses.proofs.keysets.see_parts.Goals as goal

pub loop-part-preserved : goal.loop-part-preserved
loop-part-preserved c = record {
  judged =
      parts_on (seen_scope c.args.scope.now) (map seen_kind c.args.keys.now) c.args.parts.now c.loop-part.part-index c.loop-part.number _ c.part-item.result _ _ _ _ c.loop-part-test.true c.part-item.is
      c.key_at.ensures refl c.in_ok-see_simple.ensures c.loop-part.invariant.judged;
  counted = ap (λ n. n + 1) c.loop-part.invariant.counted;
}
