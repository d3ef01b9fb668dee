use Rattle.std.proofs.Common.{◌≡◌, drop, map}
use Rattle.std.specs.Prelude.{codes}
use Rattle.p416_syntax.specs.Names.{has_name}
use Rattle.p416_syntax.specs.Declarations.{state_name}
use Rattle.p416_state_check.proofs.states.has_start.Given as goal

abbrev pub invariant-loop-state : goal.invariant-loop-state
invariant-loop-state l = has_name (map state_name (drop l.state-index l.states)) (codes "start") ≡ has_name (map state_name l.states) (codes "start")
