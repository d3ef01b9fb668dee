use Rattle.std.proofs.Common.{sym, ◌∙◌}
use Rattle.v1_ready_locals.proofs.Owning.{action_on, actions_through}
use Rattle.v1_ready_locals.proofs.own.numbered_actions.Goals as goal

pub loop-action-preserved : goal.loop-action-preserved
loop-action-preserved c =
    action_on c.args.numbers.now c.loop-action.next c.in-Some.first (sym c.number_at.ensures ∙ c.in-Some.is) c.args.actions.now c.loop-action.action-index c.action-item.result c.loop-action-test.true c.action-item.is c.loop-action.found.items c.push.new.self.items _
    c.in_ok-push.ensures.items c.loop-action.invariant

pub returns : goal.returns
returns c = actions_through c.args.numbers.now c.loop-action.next c.args.actions.now c.loop-action.action-index c.loop-action-test.false _ _ c.loop-action.invariant
