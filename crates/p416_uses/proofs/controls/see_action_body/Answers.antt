use Rattle.std.proofs.Common.{ap, ◌∙◌}
use Rattle.p416_scopes.specs.Seen.{seen_scope}
use Rattle.p416_uses.proofs.ControlUses.{action_body_told, action_left}
use Rattle.p416_uses.proofs.controls.see_action_body.Goals as goal

pub returns-clause-found : goal.returns-clause-found
returns-clause-found c =
    action_body_told c.args.found.now c.see_body.new.found (seen_scope c.args.scope.now) (seen_scope c.enter_action.new.self) c.args.action.now c.in_ok-enter_action.ensures.scope
    (rw c.statements.ensures at c.in_ok-see_body.ensures.found)

pub returns-clause-scope : goal.returns-clause-scope
returns-clause-scope c =
    action_left c.args.scope.now c.see_body.new.scope.top.now c.args.action.now c.len-len.result (seen_scope c.see_body.new.scope) (seen_scope c.leave_action.new.scope)
    c.args.scope.now.same (ap (λ t. t.now) (c.see_body.ensures.top ∙ c.enter_action.ensures.top)) c.len-len.ensures c.requires
    (c.in_ok-see_body.ensures.scope ∙ c.in_ok-enter_action.ensures.scope) c.in_ok-leave_action.ensures.scope
