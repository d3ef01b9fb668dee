use Rattle.std.proofs.Common.{◌∙◌}
use Rattle.p414_parse_run.proofs.Turns.{goes_further, ends}
use Rattle.p414_parse_run.specs.Shown.{IsRun, shown_to, widths_in}
use Rattle.p414_ready_parser.specs.Running.{run_next}
use Rattle.p414_parse_run.proofs.run.run_from.Goals as goal

pub returns-in-Ended : goal.returns-in-Ended
returns-in-Ended c =
    ends c.args.state.now c.loop.state c.run_next.new.state c.args.states.now c.args.most c.loop.counter c.loop.next c.in-Ended.end c.in_ok-to.field-0 _
    c.loop-test.true c.loop.invariant.layout c.loop.invariant.same c.in_ok-to.ensures c.in-Ended.is

pub loop-preserved : goal.loop-preserved
loop-preserved c =
    let done : IsRun c.loop.state c.run_next.new.state (shown_to c.in_ok-to.field-0 c.run_next.new.state.state) (run_next (widths_in c.loop.state.layout) c.args.states.now c.loop.next c.loop.state.state) = c.in_ok-to.ensures in
    record {
      layout = done.layout ∙ c.loop.invariant.layout;
      same =
          goes_further c.args.state.now c.loop.state c.run_next.new.state c.args.states.now c.args.most c.loop.counter c.loop.next c.in-To.to c.in_ok-to.field-0 _
          c.loop-test.true c.loop.invariant.layout c.loop.invariant.same done c.in-To.is;
    }
