use Rattle.std.proofs.Common.{◌≡◌, drop}
use Rattle.std.specs.List.{list_any}
use Rattle.p414_syntax.specs.Targets.{parser_targets}
use Rattle.p414_syntax.specs.Unsupported.{is_group_field}
use Rattle.p414_call_check.specs.internal.Written.{state_sets_group}
use Rattle.p414_call_check.proofs.targets.some_state_sets_group.Given as goal

abbrev pub invariant-loop-decl : goal.invariant-loop-decl
invariant-loop-decl l = list_any state_sets_group (drop l.decl-index l.decls) ≡ list_any is_group_field (parser_targets l.decls)
