use Rattle.p416_scopes.specs.Seen.{seen_scope}
use Rattle.p416_uses.proofs.ControlUses.{action_told}
use Rattle.p416_uses.proofs.controls.see_action.Goals as goal

pub returns-clause-found : goal.returns-clause-found
returns-clause-found c = action_told _ _ _ (seen_scope c.args.scope.now) c.args.action.now c.in_ok-see_action_head.ensures c.in_ok-see_action_body.ensures.found
