use Rattle.std.proofs.Common.{inr}
use Rattle.fabric.specs.Fabric.{pass}
use Rattle.fabric.proofs.QueueRuns.{run_ends}
use Rattle.fabric.proofs.fates.make_rest.Goals as goal

pub returns-then-is_empty-clause-runs : goal.returns-then-is_empty-clause-runs
returns-then-is_empty-clause-runs g c =
    let step = pass (g.P.Passes.machine (g.P.Passes.setting c.args.passes.now)) c.args.sessions.now c.args.from in
    run_ends step c.args.most (g.P.Passes.state c.args.passes.now) c.args.progress.now.queue c.args.progress.now.sent (inr (c.is_empty.ensures c.if-is_empty.true))
