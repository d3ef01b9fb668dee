use Rattle.std.proofs.Common.{◌≡◌, None, drop}
use Rattle.lower_parser.specs.Rows.{element_of}
use Rattle.lower_parser.proofs.statements.last_element.Given as goal

abbrev pub invariant-loop-row : goal.invariant-loop-row
invariant-loop-row l = element_of l.element (drop l.row-index l.fn.rows) ≡ element_of None l.fn.rows
