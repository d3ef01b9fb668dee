use Rattle.std.proofs.Common.{rules}
use Rattle.p416_syntax.specs.Calls.{select_key}
use Rattle.p416_syntax.specs.Uses.{uses}
use Rattle.p416_scopes.specs.Seen.{seen_scope}
use Rattle.p416_uses.proofs.Loops.{flat_on, kinds_on}
use Rattle.p416_uses.proofs.parsers.see_keys.Goals as goal

pub loop-key-preserved : goal.loop-key-preserved
loop-key-preserved c = record {
  judged =
      flat_on (uses (seen_scope c.args.scope.now) select_key) c.args.keys.now c.loop-key.key-index c.key-item.result c.loop-key.found c.see_expression.new.found _ c.loop-key-test.true c.key-item.is
      (rw c.view.ensures at c.in_ok-kind.ensures.found) c.loop-key.invariant.judged;
  known =
      kinds_on (seen_scope c.args.scope.now) c.args.keys.now c.loop-key.key-index c.key-item.result c.loop-key.kinds.items c.push.new.self.items c.in_ok-kind.kind _ c.loop-key-test.true c.key-item.is
      (search (rules, c.in_ok-push.ensures.items)) (rw c.view.ensures at c.in_ok-kind.ensures.kind) c.loop-key.invariant.known;
}
