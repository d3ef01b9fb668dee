use Rattle.std.proofs.Common.{ap, refl, ◌∙◌}
use Rattle.p416_scopes.specs.Seen.{seen_part, seen_scope}
use Rattle.v1_layout.proofs.Actions.{action_left}
use Rattle.v1_layout.proofs.variables.add_action_body.Goals as goal

-- src/variables.rt:155:1
pub returns-clause-scope : goal.returns-clause-scope
returns-clause-scope c =
    action_left c.args.scope.now c.add_statements.new.scope.top.now c.args.action.now c.len-len.result (seen_part c.args.scope.now.part) (seen_scope c.add_statements.new.scope) (seen_scope c.leave_action.new.scope)
    c.args.scope.now.same (ap (λ t. t.now) (c.add_statements.ensures.top ∙ c.enter_action.ensures.top)) c.len-len.ensures refl
    (c.in_ok-add_statements.ensures.scope ∙ c.in_ok-enter_action.ensures.scope) c.in_ok-leave_action.ensures.scope
