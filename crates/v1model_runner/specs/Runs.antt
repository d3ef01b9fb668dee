-- Where a runner stands behind packets that came in one after another (this project's own).
use Rattle.std.specs.Prelude.{◌≡◌, ℕ, List, [], ◌∷◌, ◌++◌, length}
use Rattle.state_store.specs.declared.ports.Session.{Session}
use Rattle.fabric.specs.declared.packets.Arrival.{Arrival}
use Rattle.fabric.specs.declared.packets.Out.{Out}
use Rattle.fabric.specs.Fabric.{followed, one_of}
use Rattle.v1_core.specs.Surroundings.{Setting}
use Rattle.v1_core.specs.Passes.{Between}
use Rattle.v1_core.specs.Runs.{Run16}

-- it runs this program, with the program's clone sessions, and its state is the one that the run over these packets leaves
pub record IsBehind (c : Setting) (bound : ℕ) (arrivals : List Arrival) (runs : Setting) (sessions : List Session) (state : Between) : Type 0 where
  pub runs_it : runs ≡ c
  pub sessions_are : sessions ≡ c.entries.sessions
  pub state_is : state ≡ (Run16 c bound arrivals).state

-- the run over these packets and one behind them is that over these packets, and then what came of the one: what was sent, how many
-- items were cut, and the state
pub record ComesNext (c : Setting) (bound : ℕ) (arrivals : List Arrival) (arrival : Arrival) (sent : List Out) (cut : ℕ) (state : Between) : Type 0 where
  pub run : Run16 c bound (arrivals ++ arrival ∷ []) ≡ followed (Run16 c bound arrivals) (one_of (length arrivals) (record { state = state; sent = sent; cut = cut }))
