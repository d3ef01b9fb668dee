use Rattle.p414_act_run.specs.Moments.{moment}
use Rattle.p414_control_run.proofs.Passing.{applies_seen}
use Rattle.p414_control_run.proofs.pipelines.ReadyPipelines.apply.Goals as goal

pub returns-clause-applies : goal.returns-clause-applies
returns-clause-applies c =
    applies_seen c.self.inside.tables c.args.self.now c.args.table c.in_ok-applied.applied
    (moment c.args.state.now c.args.store.now) (moment c.apply.new.state c.apply.new.store) c.self.view_is
    c.in_ok-applied.ensures.applies
