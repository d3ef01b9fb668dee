use Rattle.std.proofs.Common.{◌≡◌, ◌++◌, drop}
use Rattle.std.specs.Prelude.{None, option_copied}
use Rattle.p414_ready_parser.specs.Rows.{statement_rows}
use Rattle.p414_ready_parser.proofs.statements.statement_rows.Given as goal

abbrev pub invariant-loop-statement : goal.invariant-loop-statement
invariant-loop-statement l = l.rows ++ statement_rows l.slots (option_copied l.latest) (drop l.statement-index l.statements) ≡ statement_rows l.slots None l.statements
