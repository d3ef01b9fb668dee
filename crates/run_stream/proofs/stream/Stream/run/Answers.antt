use Rattle.std.proofs.Common.{◌∙◌}
use Rattle.run_stream.specs.internal.Streams.{view_of}
use Rattle.run_stream.proofs.Sending.{ran_one}
use Rattle.run_stream.proofs.stream.Stream.run.Goals as goal

pub returns-clause-ran : goal.returns-clause-ran
returns-clause-ran g c =
    let r = g.R.Runner in
    let old = view_of c.args.self.now (r.store c.args.runner.now) (r.done c.args.runner.now) in
    ran_one (r.outcome (r.setting c.args.runner.now)) c.args.one old _ c.one.new.arrival _ _ _ _ _ _ c.arrive-came.ensures.is c.in_ok-one.ensures.seconds c.in_ok-one.ensures.fraction c.arrive-came.ensures.behind (c.as_slice.ensures ∙ c.in_ok-one.ensures.sent) c.in_ok-one.ensures.cut
    c.in_ok-one.ensures.store c.in_ok-one.ensures.work c.in_ok-send_all.ensures.sent
