use Rattle.std.proofs.Common.{◌≡◌, map, flat_map, drop}
use Rattle.p414_syntax.specs.Calls.{type_names}
use Rattle.p414_calls.specs.Shown.{shown_argument}
use Rattle.p414_call_check.specs.internal.Types.{differ_from}
use Rattle.p414_call_check.proofs.types.some_other_type.Given as goal

abbrev pub invariant-loop-argument : goal.invariant-loop-argument
invariant-loop-argument l = differ_from (flat_map (type_names l.names) (map shown_argument (drop l.argument-index l.arguments))) l.name ≡ differ_from (flat_map (type_names l.names) (map shown_argument l.arguments)) l.name
