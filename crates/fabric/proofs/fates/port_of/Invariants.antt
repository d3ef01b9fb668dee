-- what is left has the answer for all
use Rattle.std.proofs.Common.{◌≡◌, drop}
use Rattle.fabric.specs.Fabric.{port_of}
use Rattle.fabric.proofs.fates.port_of.Given as goal

abbrev pub invariant-loop-session : goal.invariant-loop-session
invariant-loop-session l = port_of (drop l.session-index l.sessions) l.number ≡ port_of l.sessions l.number
