use Rattle.std.proofs.Common.{◌≡◌, drop}
use Rattle.std.specs.List.{list_any}
use Rattle.p414_syntax.specs.Targets.{is_no_header, extracts}
use Rattle.p414_call_check.specs.internal.Written.{state_extracts_no_header}
use Rattle.p414_call_check.proofs.targets.some_state_extracts_no_header.Given as goal

abbrev pub invariant-loop-decl : goal.invariant-loop-decl
invariant-loop-decl l = list_any (state_extracts_no_header l.names) (drop l.decl-index l.names) ≡ list_any (is_no_header l.names) (extracts l.names)
