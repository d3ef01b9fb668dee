use Rattle.p414_control_run.proofs.Passing.{branches_pass}
use Rattle.p414_control_run.proofs.pipelines.ReadyPipelines.run_branches.Goals as goal

pub returns : goal.returns
returns c =
    branches_pass c.args.self.now c.args.taken c.args.rest.now c.args.stack.now.left c.args.state.now c.apply.new.state
    c.args.store.now c.apply.new.store c.args.table c.in_ok-applied.applied c.in_ok-applied.ensures.layout
    c.in_ok-applied.ensures.shapes c.in_ok-applied.ensures.applies c.args.named.now c.push.new.self.left
    c.taken_of-taken.result c.taken_of-taken.ensures c.in_ok-push.ensures
