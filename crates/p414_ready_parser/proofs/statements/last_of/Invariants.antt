use Rattle.std.proofs.Common.{◌≡◌, drop}
use Rattle.std.specs.Prelude.{None, option_copied}
use Rattle.p414_syntax.specs.Uses.{last_of}
use Rattle.p414_ready_parser.proofs.statements.last_of.Given as goal

abbrev pub invariant-loop-statement : goal.invariant-loop-statement
invariant-loop-statement l = last_of (option_copied l.latest) (drop l.statement-index l.statements) ≡ last_of None l.statements
