use Rattle.std.proofs.Common.{◌≡◌, ◌++◌, map, flat_map, drop}
use Rattle.p414_call_check.specs.Shown.{shown_placed}
use Rattle.p414_call_check.specs.internal.Placing.{placed_in_action}
use Rattle.p414_call_check.proofs.placed.placed_of.Given as goal

abbrev pub invariant-loop-action : goal.invariant-loop-action
invariant-loop-action l = map shown_placed l.found.items ++ flat_map (placed_in_action l.names) (drop l.action-index l.calls) ≡ flat_map (placed_in_action l.names) l.calls
