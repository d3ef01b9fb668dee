-- The runner of the tests: its program sends each packet on one port and queues it again, under a bound of two passes
-- (this project's own).
use Rattle.std.specs.Prelude.{ℕ, List, [], ◌∷◌}
use Rattle.std.proofs.Common.{refl, leb-true}
use Rattle.state_store.specs.State.{Contents}
use Rattle.fabric.specs.declared.packets.Arrival.{Arrival}
use Rattle.fabric.specs.declared.packets.Out.{Out}
use Rattle.run_stream.specs.Runs.{Outcome, AreFew}

-- a packet that leaves on this port with these octets
abbrev pub leaving : ℕ → List ℕ → Out
leaving port octets = record { port = port; octets = octets }

-- Each packet leaves twice, and the item that its second pass queues is cut.
abbrev pub twice : ℕ → Contents → Arrival → Outcome Contents
twice port store a = record {
  sent = leaving port a.octets ∷ leaving port a.octets ∷ [];
  store = store;
  cut = 1;
  work = 2;
}

-- the store of a program that declares no object
abbrev pub no_store : Contents
no_store = record { shapes = []; cells = [] }

-- two packets are few
pub are_few : (port : ℕ) → AreFew (twice port)
are_few port store a = leb-true 2 65536 refl
