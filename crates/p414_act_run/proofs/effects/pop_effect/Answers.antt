use Rattle.p414_sem.specs.State.{elements_at}
use Rattle.p414_act_run.proofs.Held.{popped_holds}
use Rattle.p414_act_run.proofs.effects.pop_effect.Goals as goal

pub returns : goal.returns
returns c =
    popped_holds c.args.state.now.layout c.args.stack c.args.count (elements_at c.args.state.now.state c.args.stack)
    c.in_ok-elements.elements c.pop.new.self c.requires c.in_ok-elements.ensures c.pop.ensures
