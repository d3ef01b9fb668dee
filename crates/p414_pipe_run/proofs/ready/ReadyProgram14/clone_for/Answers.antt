use Rattle.p414_pipe_run.proofs.Steps.{clone_now}
use Rattle.p414_pipe_run.proofs.ready.ReadyProgram14.clone_for.Goals as goal

pub returns : goal.returns
returns c =
    clone_now (record { loaded = c.self.inside.pipelines; order = c.self.inside.order }) c.args.self.now c.self.inside.parser c.self.inside.layout c.self.inside.lists c.self.inside.fields c.self.inside.calculations c.self.view_is c.self.invariant
    c.shapes.result.now c.args.list c.args.packet.now c.in_ok-clone.clone c.in_ok-kept.kept c.shapes.ensures c.in_ok-kept.ensures.is c.requires c.in_ok-clone.ensures
