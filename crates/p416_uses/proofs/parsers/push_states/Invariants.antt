use Rattle.std.proofs.Common.{◌≡◌, ◌++◌, map, drop}
use Rattle.p416_syntax.specs.Declarations.{state_name}
use Rattle.p416_uses.proofs.parsers.push_states.Given as goal

abbrev pub invariant-loop-state : goal.invariant-loop-state
invariant-loop-state l = map (λ name. name.now) l.names.items ++ map state_name (drop l.state-index l.states) ≡ map (λ name. name.now) l.fn.names.items ++ map state_name l.states
