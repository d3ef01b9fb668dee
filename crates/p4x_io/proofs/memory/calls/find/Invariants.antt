use Rattle.std.proofs.Common.{◌≡◌, take, None}
use Rattle.p4x_io.specs.Memory.{known_at}
use Rattle.p4x_io.proofs.memory.calls.find.Given as goal

abbrev pub invariant-loop-i : goal.invariant-loop-i
invariant-loop-i l = known_at (take l.i l.slots) l.name ≡ None
