use Rattle.std.proofs.Common.{◌≡◌, ◌++◌, drop, flat_map}
use Rattle.p414_ready_parser.specs.Rows.{case_rows}
use Rattle.p414_ready_parser.proofs.cases.rows_of.Given as goal

abbrev pub invariant-loop-case : goal.invariant-loop-case
invariant-loop-case l = l.rows ++ flat_map (case_rows l.names l.width) (drop l.case-index l.cases) ≡ flat_map (case_rows l.names l.width) l.cases
