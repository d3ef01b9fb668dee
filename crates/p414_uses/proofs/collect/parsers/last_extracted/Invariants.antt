use Rattle.std.proofs.Common.{◌≡◌, drop, None, option_copied}
use Rattle.p414_syntax.specs.Uses.{last_of}
use Rattle.p414_uses.proofs.collect.parsers.last_extracted.Given as goal

abbrev pub invariant-loop-statement : goal.invariant-loop-statement
invariant-loop-statement l = last_of (option_copied l.last) (drop l.statement-index l.statements) ≡ last_of None l.statements
