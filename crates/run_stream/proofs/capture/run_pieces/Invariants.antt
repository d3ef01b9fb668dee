use Rattle.std.proofs.Common.{◌≡◌, ◌-◌, ℕ, List, [], ◌∷◌, length, Option, None, Some, All}
use Rattle.state_store.specs.Ports.{IsPort}
use Rattle.p4x_io.specs.Desk.{Moves}
use Rattle.p4x_io.proofs.Reading.{Front}
use Rattle.pcap_io.specs.Captures.{reading_of}
use Rattle.run_stream.specs.internal.Streams.{view_of, Streamed}
use Rattle.run_stream.proofs.capture.run_pieces.Given as goal

-- the octets that were read are a front of the file, and were run
abbrev pub invariant-pieces : goal.invariant-pieces
invariant-pieces g l = record {
  moves : Moves (l.names.sent.now ∷ l.names.report.now ∷ []) (g.D.Desk.view l.fn.desk) (g.D.Desk.view l.desk);
  setting : g.R.Runner.setting l.runner ≡ g.R.Runner.setting l.fn.runner;
  read : (octets : List ℕ) × (length octets ≡ l.place) × ((file : Option (List ℕ)) → (g.D.Desk.view l.fn.desk).told l.names.capture.now ≡ Some file → Front file octets)
      × ((reading_of octets).fault ≡ None)
      × Streamed (g.R.Runner.outcome (g.R.Runner.setting l.fn.runner)) (g.R.Runner.store l.fn.runner) l.fn.stream.ports.now octets ((g.D.Desk.view l.fn.desk).told l.names.sent.now) ((g.D.Desk.view l.fn.desk).told l.names.report.now)
      ((g.D.Desk.view l.desk).told l.names.sent.now) ((g.D.Desk.view l.desk).told l.names.report.now) l.reader (view_of l.stream (g.R.Runner.store l.runner) (g.R.Runner.done l.runner));
  ports : All IsPort l.stream.ports.now;
}

abbrev pub decreases-pieces : goal.decreases-pieces
decreases-pieces g l = 1073741824 - l.place
