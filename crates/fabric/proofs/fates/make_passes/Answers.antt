use Rattle.std.proofs.Common.{◌≡◌, inl, inr, ◌∷◌, rules, arith, ap, length, sym, ◌∙◌}
use Rattle.fabric.specs.Fabric.{pass}
use Rattle.fabric.specs.internal.Progress.{IsOwnJob}
use Rattle.fabric.proofs.OwnJobs.{all_append}
use Rattle.fabric.proofs.QueueRuns.{run_goes_on, run_ends}
use Rattle.fabric.proofs.fates.make_passes.Goals as goal

pub loop-left-preserved : goal.loop-left-preserved
loop-left-preserved g c =
    let before = g.P.Passes.setting c.args.passes.now in
    let own = IsOwnJob (g.P.Passes.own before) in
    let job = c.in-Some.job in
    let rest = c.pop.new.self in
    let first : c.loop-left.progress.queue ≡ job ∷ rest = search rules in
    let jobs = rw first at c.loop-left.invariant.jobs in
    let leaves = rw c.loop-left.invariant.setting at c.in_ok-make_pass-in-Some.ensures.leaves in
    record {
      setting = search rules;
      jobs = rw leaves.queued (all_append own rest _ jobs.1 leaves.owned);
      runs = run_goes_on own (pass (g.P.Passes.machine before) c.args.sessions.now c.args.from) c.loop-left.left (g.P.Passes.state c.loop-left.passes) (g.P.Passes.state c.make_pass.new.passes) job c.loop-left.progress.queue (record { queue = rest; sent = c.loop-left.progress.sent }) c.make_pass.new.progress (omega arith) first leaves ∙ c.loop-left.invariant.runs;
    }

pub returns-after-loop-left-clause-runs : goal.returns-after-loop-left-clause-runs
returns-after-loop-left-clause-runs g c =
    let step = pass (g.P.Passes.machine (g.P.Passes.setting c.args.passes.now)) c.args.sessions.now c.args.from in
    sym c.loop-left.invariant.runs
    ∙ run_ends step c.loop-left.left (g.P.Passes.state c.loop-left.passes) c.loop-left.progress.queue c.loop-left.progress.sent (inl (omega arith))

pub returns-in-None-clause-runs : goal.returns-in-None-clause-runs
returns-in-None-clause-runs g c =
    let step = pass (g.P.Passes.machine (g.P.Passes.setting c.args.passes.now)) c.args.sessions.now c.args.from in
    let state = g.P.Passes.state c.loop-left.passes in
    let sent = c.loop-left.progress.sent in
    sym c.loop-left.invariant.runs
    ∙ run_ends step c.loop-left.left state c.loop-left.progress.queue sent (inr (search rules))
    ∙ ap (λ q. record { state = state; sent = sent; cut = length q }) (search rules)
