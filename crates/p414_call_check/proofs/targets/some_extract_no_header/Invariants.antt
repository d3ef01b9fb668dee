use Rattle.std.proofs.Common.{◌≡◌, drop}
use Rattle.std.specs.List.{list_any}
use Rattle.p414_call_check.specs.internal.Written.{extracts_no_header}
use Rattle.p414_call_check.proofs.targets.some_extract_no_header.Given as goal

abbrev pub invariant-loop-statement : goal.invariant-loop-statement
invariant-loop-statement l = list_any (extracts_no_header l.names) (drop l.statement-index l.statements) ≡ list_any (extracts_no_header l.names) l.statements
