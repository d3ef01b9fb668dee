use Rattle.std.proofs.Common.{◌≡◌, ◌++◌, map, drop, None}
use Rattle.p414_syntax.specs.Uses.{uses_of_statements}
use Rattle.std.proofs.Common.{option_copied}
use Rattle.p414_uses.specs.Shown.{shown_use}
use Rattle.p414_uses.proofs.collect.parsers.add_statements.Given as goal

abbrev pub invariant-loop-statement : goal.invariant-loop-statement
invariant-loop-statement l = map shown_use l.found.items ++ uses_of_statements (option_copied l.last) (drop l.statement-index l.statements) ≡ map shown_use l.fn.found.items ++ uses_of_statements None l.statements
