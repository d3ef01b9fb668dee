use Rattle.std.proofs.Common.{◌≡◌, ◌-◌, drop}
use Rattle.p414_ready_controls.specs.internal.Building.{nothing_built, put_all}
use Rattle.p414_ready_controls.proofs.building.put_all.Given as goal

abbrev pub invariant-loop-done : goal.invariant-loop-done
invariant-loop-done l = l.built ≡ put_all l.names (drop (l.count - l.done) l.statements) nothing_built
