-- The queue of passes for programs that make no further items and declare no object, and what a run over a list of
-- arrivals gives (this project's own).
use Rattle.std.specs.Prelude.{ℕ, zero, suc, ◌+◌, List, [], ◌∷◌}
use Rattle.state_store.specs.State.{Contents}
use Rattle.fabric.specs.declared.packets.Arrival.{Arrival}
use Rattle.fabric.specs.declared.packets.Sent.{Sent}
use Rattle.run_stream.specs.Runs.{Ran, followed}

-- what a pass ends in: the packet is dropped, or it leaves on a port
pub data PassEnd : Type 0 where
  dropped : PassEnd
  leaves : (port : ℕ) (octets : List ℕ) → PassEnd

-- a pass: its end, and how many statements and transitions began in it
pub record Pass : Type 0 where
  pub end : PassEnd
  pub work : ℕ

-- the packet that leaves, under the number of its arrival
abbrev pub sent_from : ℕ → PassEnd → List Sent
sent_from number dropped = []
sent_from number (leaves port octets) = record { arrival = number; port = port; octets = octets } ∷ []

-- A packet that arrives is the first item of its queue. While fewer than `bound` passes were made the first item is
-- taken; what remains is cut.
abbrev pub served : (Arrival → Pass) → ℕ → Contents → ℕ → Arrival → Ran Contents
served pass zero store number arrival = record { sent = []; store = store; cut = 1; work = 0 }
served pass (suc bound) store number arrival =
    let p = pass arrival in
    record { sent = sent_from number p.end; store = store; cut = 0; work = p.work }

-- The run over arrivals that are numbered from a number on. No pass changes the store.
abbrev pub run_from : (Arrival → Pass) → ℕ → Contents → ℕ → List Arrival → Ran Contents
run_from pass bound store number [] = record { sent = []; store = store; cut = 0; work = 0 }
run_from pass bound store number (a ∷ arrivals) =
    followed (served pass bound store number a) (run_from pass bound store (number + 1) arrivals)

-- the run over arrivals from number 0 on
abbrev pub run_of : (Arrival → Pass) → ℕ → Contents → List Arrival → Ran Contents
run_of pass bound store arrivals = run_from pass bound store 0 arrivals
