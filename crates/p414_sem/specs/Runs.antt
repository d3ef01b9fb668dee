-- What a program does with a list of packets: the fabric over the functions of its passes, beginning with the store whose
-- cells are 0 and which has the colours of the entries (P4_14 1.0.5, "Packet Processing and Control Flow"; the fabric is
-- this project's own).
use Rattle.std.specs.Prelude.{ℕ, List, []}
use Rattle.state_store.specs.State.{Contents}
use Rattle.match_core.specs.Stores.{first_store}
use Rattle.fabric.specs.declared.items.Event.{Event}
use Rattle.fabric.specs.declared.packets.Arrival.{Arrival}
use Rattle.fabric.specs.Fabric.{Machine, Whole, fabric_of}
use Rattle.p414_sem.specs.Signatures.{signature14}
use Rattle.p414_sem.specs.Controls.{Setting}
use Rattle.p414_sem.specs.Passes.{Preserved, Held, Ended, none_preserved, ingress14, reparse14, egress14}

-- what stands between two calls: the store, and the applications of tables in the last call
pub record Between : Type 0 where
  pub store : Contents
  pub events : List Event

abbrev pub events_of : Between → List Event
events_of b = b.events

-- a pass's answer with what it leaves
abbrev pub ends : {A : Type 0} → Ended A → A × Between
ends e = (e.answer, record { store = e.store; events = e.events })

-- the four functions of a program's passes
abbrev pub machine14 : Setting → Machine Between Preserved Held
machine14 c = record {
  nothing = λ b. (none_preserved c.decls, b);
  ingress = λ b came. ends (ingress14 c b.store came);
  reparse = λ b came. ends (reparse14 c b.store came);
  egress = λ b held port kind. ends (egress14 c b.store held port kind);
}

-- as a run begins
abbrev pub before : Setting → Between
before c = record { store = first_store (signature14 c.decls) c.entries; events = [] }

-- the sent packets, the store and how many items were cut
unfoldable pub Run14 : Setting → ℕ → List Arrival → Whole Between
Run14 c bound arrivals = fabric_of (machine14 c) c.entries.sessions bound (before c) arrivals
