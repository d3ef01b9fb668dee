-- What a program of the one-table form comes to with one packet: the plain program beside its meaning (this project's own).
use Rattle.std.specs.Prelude.{◌≡◌, ℕ, ◌*◌, ◌%◌, ◌==◌, ◌≤◌, nat_lt, if◌then◌else◌, List, [], ◌∷◌, length, sum_by, Option, None, Some}
use Rattle.std.proofs.Common.{refl, leb-true}
use Rattle.state_store.specs.Ports.{drop_port}
use Rattle.state_store.specs.State.{Contents}
use Rattle.fabric.specs.declared.packets.Arrival.{Arrival}
use Rattle.fabric.specs.declared.packets.Out.{Out}
use Rattle.run_stream.specs.Runs.{Outcome, AreFew}
use Rattle.one_table_text.specs.declared.one_table.OneTable16.{OneTable16}
use Rattle.p4x_cmd.specs.Entries.{no_entries}
use Rattle.one_table_text.specs.Programs.{program16}
use Rattle.p4x_cmd.specs.Meaning16.{pass16, signature16}
use Rattle.p4x_cmd.specs.Passes.{PassEnd, Pass, dropped, leaves}

-- A packet that is shorter than the header is dropped after 3 statements and transitions, one to the drop port after 5,
-- and another one leaves as it came after 6.
abbrev pub plain_pass : ℕ → ℕ → Arrival → Pass
plain_pass bits port a =
    if nat_lt (8 * length a.octets) bits then record { end = dropped; work = 3 }
    else (if port == drop_port then record { end = dropped; work = 5 }
    else record { end = leaves port a.octets; work = 6 })

-- The header has whole octets, not more than 64 fields of 128 bits have, and the port fits 9 bits.
pub record IsSized (q : OneTable16) : Type 0 where
  pub bits : sum_by (λ f. f.width) q.fields ≤ 8192
  pub even : sum_by (λ f. f.width) q.fields % 8 ≡ 0
  pub port : q.port ≤ drop_port

-- the end of a pass of a packet that leaves on this port as it came, if it does
abbrev pub end_of : Option ℕ → List ℕ → PassEnd
end_of None octets = dropped
end_of (Some port) octets = leaves port octets

-- what leaves at the end of a pass
abbrev pub outs_of : PassEnd → List Out
outs_of dropped = []
outs_of (leaves port octets) = record { port = port; octets = octets } ∷ []

-- the store of a program that declares no object
abbrev pub no_store : Contents
no_store = record { shapes = []; cells = [] }

-- what comes of a packet that makes this one pass
abbrev pub outcome_of : Pass → Contents → Outcome Contents
outcome_of pass store = record { sent = outs_of pass.end; store = store; cut = 0; work = pass.work }

-- the pass of the program without entries
unfoldable pub own_pass : OneTable16 → Arrival → Pass
own_pass q a = pass16 (program16 q) (no_entries (signature16 (program16 q))) a

abbrev pub own_outcome : OneTable16 → Contents → Arrival → Outcome Contents
own_outcome q store a = outcome_of (own_pass q a) store

-- a pass gives at most one packet
outs_few : (end : PassEnd) → length (outs_of end) ≤ 65536
outs_few dropped = leb-true 0 65536 refl
outs_few (leaves port octets) = leb-true 1 65536 refl

pub are_few : (q : OneTable16) → AreFew (own_outcome q)
are_few q store a = outs_few (own_pass q a).end
