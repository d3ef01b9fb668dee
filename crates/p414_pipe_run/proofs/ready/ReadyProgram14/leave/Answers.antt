use Rattle.std.proofs.Common.{ap, ◌∙◌}
use Rattle.p414_pipe_run.specs.Prepared.{Prepared}
use Rattle.p414_pipe_run.proofs.Steps.{left_now}
use Rattle.p414_pipe_run.proofs.ready.ReadyProgram14.leave.Goals as goal

pub returns-clause-is : goal.returns-clause-is
returns-clause-is c =
    left_now (record { loaded = c.self.inside.pipelines; order = c.self.inside.order }) c.args.self.now c.self.inside.parser c.self.inside.layout c.self.inside.lists c.self.inside.fields c.self.inside.calculations c.self.view_is c.self.invariant
    c.as_slice.result.now c.args.packet.now c.update.new.state c.in_ok-out.out (c.as_slice.ensures ∙ ap (λ (q : Prepared). q.order) c.self.view_is) c.requires c.in_ok-update.ensures c.in_ok-out.ensures
