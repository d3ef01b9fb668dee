-- What stands between two packets of a run, and what one packet more leaves (this project's own).
use Rattle.std.specs.Prelude.{ℕ, List}
use Rattle.state_store.specs.State.{Contents}
use Rattle.fabric.specs.declared.items.Event.{Event}
use Rattle.fabric.specs.declared.packets.Arrival.{Arrival}
use Rattle.fabric.specs.Fabric.{Whole, fabric, one_of, followed}
use Rattle.v1_core.specs.Surroundings.{Setting}
use Rattle.v1_core.specs.Runs.{machine16}
use Rattle.v1_core.specs.Passes.{Between}

-- what stands between two packets, by its parts
abbrev pub between_of : Contents → ℕ → List Event → Between
between_of store work events = record { store = store; work = work; events = events }

-- a run, and behind it a packet with this number
abbrev pub run_on : Setting → ℕ → ℕ → Whole Between → Arrival → Whole Between
run_on c bound number first arrival =
    followed first (one_of number (fabric (machine16 c) c.entries.sessions bound first.state arrival))
