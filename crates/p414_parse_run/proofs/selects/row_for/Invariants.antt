use Rattle.std.proofs.Common.{◌≡◌, drop}
use Rattle.p414_ready_parser.specs.Running.{row_for}
use Rattle.p414_parse_run.proofs.selects.row_for.Given as goal

abbrev pub invariant-loop-row : goal.invariant-loop-row
invariant-loop-row l = row_for (drop l.row-index l.rows) l.key ≡ row_for l.rows l.key
