use Rattle.std.proofs.Common.{◌≡◌, drop}
use Rattle.std.specs.List.{list_any}
use Rattle.p414_syntax.specs.Targets.{is_no_metadata_field, parser_targets}
use Rattle.p414_call_check.specs.internal.Written.{state_sets_no_metadata}
use Rattle.p414_call_check.proofs.targets.some_state_sets_no_metadata.Given as goal

abbrev pub invariant-loop-decl : goal.invariant-loop-decl
invariant-loop-decl l = list_any (state_sets_no_metadata l.names) (drop l.decl-index l.names) ≡ list_any (is_no_metadata_field l.names) (parser_targets l.names)
