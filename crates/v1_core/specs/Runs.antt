-- What a program does with a list of packets: the fabric over the functions of its passes, from the store whose cells are 0
-- and which has the colours of the entries; and the count of work (`v1model.p4`, `V1Switch`; the fabric and the count are
-- this project's own).
use Rattle.std.specs.Prelude.{ℕ, List, []}
use Rattle.match_core.specs.Stores.{first_store}
use Rattle.fabric.specs.declared.items.Event.{Event}
use Rattle.fabric.specs.declared.packets.Arrival.{Arrival}
use Rattle.fabric.specs.Fabric.{Machine, Whole, fabric_of}
use Rattle.v1_core.specs.Values.{Value}
use Rattle.v1_core.specs.Signatures.{signature16}
use Rattle.v1_core.specs.Surroundings.{Setting}
use Rattle.v1_core.specs.Passes.{Between, Held, none_preserved, ingress16, reparse16, egress16}

abbrev pub events_of : Between → List Event
events_of b = b.events

-- the four functions of a program's passes
abbrev pub machine16 : Setting → Machine Between Value Held
machine16 c = record {
  nothing = λ b. (none_preserved c.syntax, b);
  ingress = λ b came. ingress16 c b came;
  reparse = λ b came. reparse16 c b came;
  egress = λ b held port kind. egress16 c b held port kind;
}

-- as a run begins
abbrev pub before : Setting → Between
before c = record { store = first_store (signature16 c.syntax) c.entries; work = 0; events = [] }

-- the sent packets, the store, how many items were cut, and the work
unfoldable pub Run16 : Setting → ℕ → List Arrival → Whole Between
Run16 c bound arrivals = fabric_of (machine16 c) c.entries.sessions bound (before c) arrivals

abbrev pub Work16 : Setting → ℕ → List Arrival → ℕ
Work16 c bound arrivals = (Run16 c bound arrivals).state.work
