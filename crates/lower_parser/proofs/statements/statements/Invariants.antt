use Rattle.std.proofs.Common.{None, drop}
use Rattle.p416_syntax.specs.Tree.{no_statements}
use Rattle.lower_expressions.specs.Table.{words_in}
use Rattle.lower_parser.specs.Rows.{rows_behind}
use Rattle.lower_parser.proofs.Turning.{GoesRows}
use Rattle.lower_parser.proofs.statements.statements.Given as goal

abbrev pub invariant-loop-row : goal.invariant-loop-row
invariant-loop-row l = GoesRows (words_in l.fn.table) l.fn.nodes l.nodes l.element l.done (drop l.row-index l.fn.rows) (rows_behind (words_in l.fn.table) None no_statements l.fn.rows)
