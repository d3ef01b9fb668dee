use Rattle.std.proofs.Common.{◌≡◌, drop}
use Rattle.std.specs.List.{list_any}
use Rattle.p414_call_check.specs.internal.Written.{sets_group}
use Rattle.p414_call_check.proofs.targets.some_set_group.Given as goal

abbrev pub invariant-loop-statement : goal.invariant-loop-statement
invariant-loop-statement l = list_any sets_group (drop l.statement-index l.statements) ≡ list_any sets_group l.statements
