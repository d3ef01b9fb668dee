use Rattle.p414_control_run.proofs.Passing.{front_seen}
use Rattle.p414_control_run.proofs.pipelines.ReadyPipelines.run_first.Goals as goal

pub returns : goal.returns
returns c =
    front_seen c.args.self.now c.args.work c.work.inside.taken c.work.inside.nodes.now c.in-Some.node.now c.in-Some.rest.now
    c.args.stack.now.left c.run_node.new.stack.left c.args.state.now c.run_node.new.state c.args.store.now
    c.run_node.new.store c.work.view_is c.in-Some.ensures c.in_ok-run_node.ensures
