use Rattle.std.proofs.Common.{◌≡◌, drop}
use Rattle.std.specs.List.{fold}
use Rattle.p414_ready_parser.specs.Running.{do_next, goes_on}
use Rattle.p414_parse_run.specs.Shown.{widths_in}
use Rattle.p414_parse_run.proofs.statements.run_statements.Given as goal

abbrev pub invariant-loop-statement : goal.invariant-loop-statement
invariant-loop-statement l = record {
  layout : l.state.layout ≡ l.fn.state.layout;
  same : fold (do_next (widths_in l.fn.state.layout)) (goes_on l.element l.state.state) (drop l.statement-index l.statements) ≡ fold (do_next (widths_in l.fn.state.layout)) (goes_on 0 l.fn.state.state) l.statements;
}
