-- what was sent, and then the run of what waits, is the run of what waited first
use Rattle.std.proofs.Common.{◌≡◌}
use Rattle.std.specs.List.{AllByRecursion}
use Rattle.fabric.specs.Queue.{run, send_first}
use Rattle.fabric.specs.Fabric.{pass}
use Rattle.fabric.specs.internal.Progress.{IsOwnJob}
use Rattle.fabric.proofs.fates.make_passes.Given as goal

abbrev pub invariant-loop-left : goal.invariant-loop-left
invariant-loop-left g l =
    let before = g.P.Passes.setting l.fn.passes in
    let step = pass (g.P.Passes.machine before) l.sessions l.from in
    record {
      setting : g.P.Passes.setting l.passes ≡ before;
      jobs : AllByRecursion (IsOwnJob (g.P.Passes.own before)) l.progress.queue;
      runs : send_first l.progress.sent (run step l.left (g.P.Passes.state l.passes) l.progress.queue) ≡ send_first l.fn.progress.sent (run step l.fn.most (g.P.Passes.state l.fn.passes) l.fn.progress.queue);
    }

abbrev pub decreases-loop-left : goal.decreases-loop-left
decreases-loop-left g l = l.left
