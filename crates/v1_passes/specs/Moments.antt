-- As a block of a program begins, by the packed frame of the packet (this project's own).
use Rattle.std.specs.Prelude.{ℕ, List, None}
use Rattle.state_store.specs.State.{Contents}
use Rattle.p416_syntax.specs.declared.program.Syntax16.{Syntax16}
use Rattle.v1_core.specs.Frames.{Moment}
use Rattle.v1_core.specs.Cells.{Cells}
use Rattle.v1_packets.specs.Packets.{packet_frame}

-- with this store, these octets that aren't parsed yet, those that were emitted, and this count of work: nothing stopped the
-- parser, and no table runs an action
abbrev pub moment_at : Syntax16 → Cells → Contents → List ℕ → List ℕ → ℕ → Moment
moment_at syntax c store unparsed emitted work = record {
  frame = packet_frame syntax c;
  store = store;
  unparsed = unparsed;
  emitted = emitted;
  work = work;
  stopped = None;
  hit = None;
}
