use Rattle.p414_control_run.proofs.Passing.{if_passes}
use Rattle.p414_control_run.proofs.pipelines.ReadyPipelines.run_node.Goals as goal

pub returns-in_ok-run_if-in-If : goal.returns-in_ok-run_if-in-If
returns-in_ok-run_if-in-If c =
    rw c.in-If.is
    (if_passes c.args.self.now c.args.taken c.args.rest.now c.args.stack.now.left c.run_if.new.stack.left c.args.state.now
    c.args.store.now c.in-If.condition c.in-If.first c.in_ok-run_if-in-If.ensures)
