use Rattle.std.proofs.Common.{◌≡◌, ◌-◌}
use Rattle.p414_ready_parser.specs.Running.{run_from}
use Rattle.p414_parse_run.specs.Shown.{widths_in}
use Rattle.p414_parse_run.proofs.run.run_from.Given as goal

abbrev pub invariant-loop : goal.invariant-loop
invariant-loop l = record {
  layout : l.state.layout ≡ l.fn.state.layout;
  same : run_from (widths_in l.fn.state.layout) l.states (l.most - l.counter) l.next l.state.state ≡ run_from (widths_in l.fn.state.layout) l.states l.most l.fn.start l.fn.state.state;
}
