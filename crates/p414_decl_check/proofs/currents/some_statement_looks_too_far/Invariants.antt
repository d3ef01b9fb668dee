use Rattle.std.proofs.Common.{◌≡◌, drop}
use Rattle.std.specs.List.{list_any}
use Rattle.p414_syntax.specs.Widths.{statement_looks_too_far}
use Rattle.p414_decl_check.proofs.currents.some_statement_looks_too_far.Given as goal

abbrev pub invariant-loop-statement : goal.invariant-loop-statement
invariant-loop-statement l = list_any (statement_looks_too_far) (drop l.statement-index l.statements) ≡ list_any (statement_looks_too_far) l.statements
