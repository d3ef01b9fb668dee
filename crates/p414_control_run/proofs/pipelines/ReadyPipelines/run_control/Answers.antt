use Rattle.p414_act_run.specs.Moments.{moment}
use Rattle.p414_control_run.proofs.Passing.{none_runs, some_runs}
use Rattle.p414_control_run.proofs.pipelines.ReadyPipelines.run_control.Goals as goal

pub returns-in-None-clause-runs : goal.returns-in-None-clause-runs
returns-in-None-clause-runs c =
    λ x ex pipeline is body to.
    none_runs c.args.self.now (moment c.args.state.now c.args.store.now) x pipeline body (cc (c.in-None.is, is)) to

pub returns-in_ok-run_body-in-Some-clause-runs : goal.returns-in_ok-run_body-in-Some-clause-runs
returns-in_ok-run_body-in-Some-clause-runs c =
    λ x ex pipeline is body to.
    some_runs c.args.self.now c.in-Some.number c.args.state.now c.run_body.new.state c.args.store.now c.run_body.new.store x
    pipeline body c.in_ok-run_body-in-Some.ensures ex (cc (c.in-Some.is, is)) to
