use Rattle.std.proofs.Common.{◌≡◌, ◌++◌, map, drop}
use Rattle.v1_ready_selects.specs.Matching.{state_names}
use Rattle.v1_ready_whole.proofs.parser.names_of.Given as goal

abbrev pub invariant-loop-state : goal.invariant-loop-state
invariant-loop-state l = map (λ name. name.now) l.names.items ++ state_names (drop l.state-index l.states) ≡ state_names l.states
