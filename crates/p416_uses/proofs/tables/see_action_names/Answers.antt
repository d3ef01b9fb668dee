use Rattle.p416_syntax.specs.Declarations.{action_name_uses}
use Rattle.p416_scopes.specs.Seen.{seen_scope}
use Rattle.p416_uses.proofs.Loops.{flat_on}
use Rattle.p416_uses.proofs.tables.see_action_names.Goals as goal

pub loop-action-preserved : goal.loop-action-preserved
loop-action-preserved c = flat_on (action_name_uses (seen_scope c.args.scope.now)) c.args.actions.now c.loop-action.action-index c.action-item.result _ _ _ c.loop-action-test.true c.action-item.is c.see_action_name.ensures c.loop-action.invariant
