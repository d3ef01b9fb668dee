use Rattle.std.proofs.Common.{◌≡◌, take}
use Rattle.run_stream.specs.internal.Streams.{held_of, with_written}
use Rattle.run_stream.proofs.stream.Stream.send_all.Given as goal

-- the packets so far are written
abbrev pub invariant-loop-out : goal.invariant-loop-out
invariant-loop-out l = record {
  written : held_of l.self ≡ with_written l.arrival (take l.out-index l.outs) (held_of l.fn.self);
  ports : l.self.ports.now ≡ l.fn.self.ports.now;
}
