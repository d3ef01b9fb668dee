use Rattle.p414_act_run.specs.Moments.{moment}
use Rattle.p414_sem.specs.Expanded.{Expanded}
use Rattle.p414_pipe_run.proofs.Steps.{layout_here, store_here, runs_now}
use Rattle.p414_pipe_run.proofs.ready.ReadyProgram14.run_egress.Goals as goal

pub run_egress-requires-clause-layout : goal.run_egress-requires-clause-layout
run_egress-requires-clause-layout c =
    layout_here (record { loaded = c.self.inside.pipelines; order = c.self.inside.order }) c.args.self.now c.self.inside.parser c.self.inside.layout c.self.inside.lists c.self.inside.fields c.self.inside.calculations c.self.view_is c.self.invariant
    c.args.packet.now c.requires.layout

pub run_egress-requires-clause-shapes : goal.run_egress-requires-clause-shapes
run_egress-requires-clause-shapes c =
    store_here (record { loaded = c.self.inside.pipelines; order = c.self.inside.order }) c.args.self.now c.self.inside.parser c.self.inside.layout c.self.inside.lists c.self.inside.fields c.self.inside.calculations c.self.view_is c.self.invariant
    c.args.store.now c.requires.shapes

pub returns-clause-runs : goal.returns-clause-runs
returns-clause-runs c =
    runs_now (record { loaded = c.self.inside.pipelines; order = c.self.inside.order }) c.args.self.now c.self.inside.parser c.self.inside.layout c.self.inside.lists c.self.inside.fields c.self.inside.calculations c.self.view_is c.self.invariant
    (λ (x : Expanded). x.egress) (moment c.args.packet.now c.args.store.now) (moment c.run_egress.new.state c.run_egress.new.store) c.in_ok-run_egress.ensures.runs
