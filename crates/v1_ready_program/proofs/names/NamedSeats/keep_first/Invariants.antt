use Rattle.std.proofs.Common.{◌≡◌, length, take}
use Rattle.v1_ready_program.proofs.names.NamedSeats.keep_first.Given as goal

abbrev pub invariant-loop-self : goal.invariant-loop-self
invariant-loop-self l = record {
  names : take l.len l.self.names ≡ take l.len l.fn.self.names;
  seats : take l.len l.self.seats.items ≡ take l.len l.fn.self.seats.items;
  same : length l.self.names ≡ length l.self.seats.items;
}

abbrev pub decreases-loop-self : goal.decreases-loop-self
decreases-loop-self l = length l.self.names
