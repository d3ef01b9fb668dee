use Rattle.std.proofs.Common.{◌≡◌, ◌++◌, map, drop}
use Rattle.std.specs.List.{flat_map}
use Rattle.p414_syntax.specs.Names.{has_name}
use Rattle.p414_syntax.specs.Uses.{uses_of_call}
use Rattle.p414_uses.specs.Shown.{shown_use}
use Rattle.p414_uses.proofs.collect.actions.add_calls.Given as goal

abbrev pub invariant-loop-call : goal.invariant-loop-call
invariant-loop-call l = map shown_use l.found.items ++ flat_map (uses_of_call (has_name l.parameters)) (drop l.call-index l.calls) ≡ map shown_use l.fn.found.items ++ flat_map (uses_of_call (has_name l.parameters)) l.calls
