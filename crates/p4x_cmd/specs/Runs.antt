-- The runs of programs over the packets of a capture, as the command makes them (this project's own).
use Rattle.std.specs.Prelude.{ℕ, List}
use Rattle.state_store.specs.State.{Contents}
use Rattle.p416_syntax.specs.declared.program.Syntax16.{Syntax16}
use Rattle.fabric.specs.declared.packets.Arrival.{Arrival}
use Rattle.p414_one_table.specs.declared.program.OneTable14.{OneTable14}
use Rattle.run_stream.specs.Runs.{Ran}
use Rattle.p4x_cmd.specs.Entries.{no_entries}
use Rattle.p4x_cmd.specs.Meaning14.{Run14, signature14}
use Rattle.p4x_cmd.specs.Meaning16.{Run16, signature16}

-- the run of a program of P4_16 without entries over these arrivals, under this bound on passes
abbrev pub this_run : Syntax16 → ℕ → List Arrival → Ran Contents
this_run s bound arrivals = Run16 s (no_entries (signature16 s)) bound arrivals

-- the same of a program of P4_14
abbrev pub this_run14 : OneTable14 → ℕ → List Arrival → Ran Contents
this_run14 p bound arrivals = Run14 p (no_entries (signature14 p)) bound arrivals
