use Rattle.p414_pipe_run.proofs.Steps.{nothing_now}
use Rattle.p414_pipe_run.proofs.ready.ReadyProgram14.nothing.Goals as goal

pub returns-clause-is : goal.returns-clause-is
returns-clause-is c =
    nothing_now (record { loaded = c.self.inside.pipelines; order = c.self.inside.order }) c.args.self.now c.self.inside.parser c.self.inside.layout c.self.inside.lists c.self.inside.fields c.self.inside.calculations c.self.view_is c.self.invariant
    c.shapes.result.now c.in_ok-kept.kept c.shapes.ensures c.in_ok-kept.ensures.is
