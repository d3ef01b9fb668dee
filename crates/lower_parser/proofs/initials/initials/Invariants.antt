use Rattle.std.proofs.Common.{map, drop}
use Rattle.p416_syntax.specs.Tree.{no_statements}
use Rattle.lower_laws_actions.specs.Mirror.{behind_stmts}
use Rattle.lower_expressions.specs.Table.{words_in}
use Rattle.lower_parser.specs.Rows.{row_initial}
use Rattle.lower_parser.proofs.Starting.{GoesInitials}
use Rattle.lower_parser.proofs.initials.initials.Given as goal

abbrev pub invariant-loop-row : goal.invariant-loop-row
invariant-loop-row l = GoesInitials (words_in l.fn.table) l.fn.nodes l.nodes l.done (drop l.row-index l.fn.rows) (behind_stmts no_statements (map (row_initial (words_in l.fn.table)) l.fn.rows))
