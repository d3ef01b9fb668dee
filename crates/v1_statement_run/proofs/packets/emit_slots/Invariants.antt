use Rattle.std.proofs.Common.{◌++◌}
use Rattle.v1_statement_run.proofs.Packing.{EmittingSlots}
use Rattle.v1_statement_run.proofs.packets.emit_slots.Given as goal

abbrev pub invariant-loop-i : goal.invariant-loop-i
invariant-loop-i l = EmittingSlots l.frame l.count l.slot l.i l.fn.emitted (l.emitted ++ l.buffer)
