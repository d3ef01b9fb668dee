use Rattle.std.proofs.Common.{◌≡◌, drop}
use Rattle.std.specs.List.{list_any}
use Rattle.p414_call_check.specs.internal.Written.{sets_no_metadata}
use Rattle.p414_call_check.proofs.targets.some_set_no_metadata.Given as goal

abbrev pub invariant-loop-statement : goal.invariant-loop-statement
invariant-loop-statement l = list_any (sets_no_metadata l.names) (drop l.statement-index l.statements) ≡ list_any (sets_no_metadata l.names) l.statements
