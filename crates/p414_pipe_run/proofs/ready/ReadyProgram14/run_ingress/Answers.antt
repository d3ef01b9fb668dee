use Rattle.p414_act_run.specs.Moments.{moment}
use Rattle.p414_sem.specs.Expanded.{Expanded}
use Rattle.p414_pipe_run.proofs.Steps.{layout_here, store_here, runs_now}
use Rattle.p414_pipe_run.proofs.ready.ReadyProgram14.run_ingress.Goals as goal

pub run_ingress-requires-clause-layout : goal.run_ingress-requires-clause-layout
run_ingress-requires-clause-layout c =
    layout_here (record { loaded = c.self.inside.pipelines; order = c.self.inside.order }) c.args.self.now c.self.inside.parser c.self.inside.layout c.self.inside.lists c.self.inside.fields c.self.inside.calculations c.self.view_is c.self.invariant
    c.args.packet.now c.requires.layout

pub run_ingress-requires-clause-shapes : goal.run_ingress-requires-clause-shapes
run_ingress-requires-clause-shapes c =
    store_here (record { loaded = c.self.inside.pipelines; order = c.self.inside.order }) c.args.self.now c.self.inside.parser c.self.inside.layout c.self.inside.lists c.self.inside.fields c.self.inside.calculations c.self.view_is c.self.invariant
    c.args.store.now c.requires.shapes

pub returns-clause-runs : goal.returns-clause-runs
returns-clause-runs c =
    runs_now (record { loaded = c.self.inside.pipelines; order = c.self.inside.order }) c.args.self.now c.self.inside.parser c.self.inside.layout c.self.inside.lists c.self.inside.fields c.self.inside.calculations c.self.view_is c.self.invariant
    (λ (x : Expanded). x.ingress) (moment c.args.packet.now c.args.store.now) (moment c.run_ingress.new.state c.run_ingress.new.store) c.in_ok-run_ingress.ensures.runs
