use Rattle.std.proofs.Common.{◌≡◌, ◌++◌, map, flat_map, drop}
use Rattle.p414_syntax.specs.Arguments.{placed_in}
use Rattle.p414_call_check.specs.Shown.{shown_placed}
use Rattle.p414_call_check.proofs.placed.add_calls.Given as goal

abbrev pub invariant-loop-call : goal.invariant-loop-call
invariant-loop-call l = map shown_placed l.found.items ++ flat_map (placed_in l.names) (drop l.call-index l.calls) ≡ map shown_placed l.fn.found.items ++ flat_map (placed_in l.names) l.calls
