-- The edge to the system, of which contracts see a count of faults alone: this project's own.
use Rattle.std.specs.Prelude.{ℕ, None}
use Rattle.p4x_io.specs.Desk.{DeskView, SinkView}

-- The system's files as any desk: nothing is told of their content, and one count is each of its
-- counts.
abbrev pub host_desk : ℕ → DeskView
host_desk faults = record { told = λ name. None; reads = λ name. faults; writes = λ name. faults }

-- the standard output as any sink: nothing is told of what was printed
abbrev pub host_sink : ℕ → SinkView
host_sink faults = record { printed = None; writes = faults }
