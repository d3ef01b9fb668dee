use Rattle.std.proofs.Common.{refl}
use Rattle.fabric.proofs.OwnJobs.{leaves_resubmitted, leaves_dropped, leaves_onward_later}
use Rattle.fabric.proofs.fates.make_ingress.Goals as goal

pub returns-in_ok-end_resubmitted-in-Resubmit-clause-leaves :
    goal.returns-in_ok-end_resubmitted-in-Resubmit-clause-leaves
returns-in_ok-end_resubmitted-in-Resubmit-clause-leaves g c =
    let setting = g.P.Passes.setting c.args.passes.now in
    let made = c.in_ok-ended.ensures in
    leaves_resubmitted (g.P.Passes.own setting) (g.P.Passes.machine setting) c.args.sessions.now c.args.from (g.P.Passes.state c.args.passes.now) c.args.came.now c.in_ok-ended.ended (g.P.Passes.state c.ingress.new.self) c.clone_of-clone.result c.args.progress.now (record { queue = c.end_resubmitted.new.queue; sent = c.args.progress.now.sent }) made.gives c.clone_of-clone.ensures c.requires.sessions c.requires.from made.own c.in-Resubmit.kept c.in-Resubmit.is (rw c.in-Resubmit.kept-is at c.in_ok-end_resubmitted-in-Resubmit.ensures) refl

pub returns-in_ok-make_egress-in-Go-clause-leaves :
    goal.returns-in_ok-make_egress-in-Go-clause-leaves
returns-in_ok-make_egress-in-Go-clause-leaves g c =
    let setting = g.P.Passes.setting c.args.passes.now in
    let made = c.in_ok-ended.ensures in
    leaves_onward_later g.P.Passes.own g.P.Passes.machine setting (g.P.Passes.setting c.ingress.new.self) c.args.sessions.now c.args.from (g.P.Passes.state c.args.passes.now) c.args.came.now c.in_ok-ended.ended (g.P.Passes.state c.ingress.new.self) c.clone_of-clone.result c.args.progress.now c.make_egress.new.progress made.gives c.clone_of-clone.ensures c.requires.sessions c.requires.from made.own c.in-Go.port c.in-Go.held _ c.in-Go.is made.setting (g.P.Passes.state c.make_egress.new.passes) (record { queue = c.end_dropped-in-Go.new.queue; sent = c.args.progress.now.sent }) c.in_ok-end_dropped-in-Go.ensures refl c.in_ok-make_egress-in-Go.ensures.leaves (rw c.in-Go.is refl)

pub returns-in_ok-end_dropped-in-Drop-clause-leaves :
    goal.returns-in_ok-end_dropped-in-Drop-clause-leaves
returns-in_ok-end_dropped-in-Drop-clause-leaves g c =
    let setting = g.P.Passes.setting c.args.passes.now in
    let made = c.in_ok-ended.ensures in
    leaves_dropped (g.P.Passes.own setting) (g.P.Passes.machine setting) c.args.sessions.now c.args.from (g.P.Passes.state c.args.passes.now) c.args.came.now c.in_ok-ended.ended (g.P.Passes.state c.ingress.new.self) c.clone_of-clone.result c.args.progress.now (record { queue = c.end_dropped.new.queue; sent = c.args.progress.now.sent }) made.gives c.clone_of-clone.ensures c.requires.sessions c.requires.from made.own c.in-Drop.is c.in_ok-end_dropped-in-Drop.ensures refl
