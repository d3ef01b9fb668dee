use Rattle.std.proofs.Common.{◌≡◌, drop}
use Rattle.p414_ready_parser.specs.Running.{with_initials}
use Rattle.p414_parse_run.proofs.run.write_initials.Given as goal

abbrev pub invariant-loop-row : goal.invariant-loop-row
invariant-loop-row l = record {
  layout : l.state.layout ≡ l.fn.state.layout;
  written : with_initials (drop l.row-index l.rows) l.state.state ≡ with_initials l.rows l.fn.state.state;
}
