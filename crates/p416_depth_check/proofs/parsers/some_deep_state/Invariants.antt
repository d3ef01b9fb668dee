use Rattle.std.proofs.Common.{◌≡◌, drop}
use Rattle.std.specs.List.{list_any}
use Rattle.p416_depth_check.specs.internal.Deep.{is_deep_state}
use Rattle.p416_depth_check.proofs.parsers.some_deep_state.Given as goal

abbrev pub invariant-loop-state : goal.invariant-loop-state
invariant-loop-state l = list_any is_deep_state (drop l.state-index l.states) ≡ list_any is_deep_state l.states
