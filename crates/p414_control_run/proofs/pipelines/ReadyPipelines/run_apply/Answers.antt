use Rattle.p414_control_run.proofs.Passing.{apply_passes}
use Rattle.p414_control_run.proofs.pipelines.ReadyPipelines.run_apply.Goals as goal

pub returns : goal.returns
returns c =
    apply_passes c.args.self.now c.args.taken c.args.rest.now c.args.stack.now.left c.args.state.now c.apply.new.state
    c.args.store.now c.apply.new.store c.args.table c.in_ok-apply.field-0 c.in_ok-apply.ensures.layout
    c.in_ok-apply.ensures.shapes c.in_ok-apply.ensures.applies
