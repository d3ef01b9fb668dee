-- What a plain program that follows the meaning of P4_14 step by step answers (this project's own).
use Rattle.std.specs.Prelude.{◌≡◌, ◌≤◌, ◌%◌, ℕ, List, map, sum, All}
use Rattle.p414_one_table.specs.declared.program.OneTable14.{OneTable14}
use Rattle.fabric.specs.declared.packets.Arrival.{Arrival}
use Rattle.fabric.specs.declared.packets.Sent.{Sent}
use Rattle.p4x_cmd.specs.Entries.{no_entries}
use Rattle.p4x_cmd.specs.Meaning14.{Run14, signature14, widths14}
use Rattle.command_words.specs.Words.{default_passes}
use Rattle.command_examples.specs.declared.plain.Leaving.{Leaving}

-- the widths of a header: whole octets in all, each field of at most 128 bits
pub record AreWidths (widths : List ℕ) : Type 0 where
  pub each : All (λ w. w ≤ 128) widths
  pub bits : sum widths ≤ 8192
  pub even : sum widths % 8 ≡ 0

-- a program whose header has these widths and which sends to this port
pub record IsProgram (widths : List ℕ) (port : ℕ) (p : OneTable14) : Type 0 where
  pub widths_are : widths14 p ≡ widths
  pub port_is : p.port ≡ port

-- a packet that leaves, as the meaning has it
abbrev pub sent_of : Leaving → Sent
sent_of l = record { arrival = l.arrival; port = l.port; octets = l.octets }

-- it is what every such program sends of packets with these octets, without entries and under the bound that holds where
-- no other is given
abbrev pub IsRun14 : List ℕ → ℕ → List (List ℕ) → List Leaving → Type 0
IsRun14 widths port packets leaving =
    (p : OneTable14) (arrivals : List Arrival) → IsProgram widths port p → map (λ a. a.octets) arrivals ≡ packets
    → (Run14 p (no_entries (signature14 p)) default_passes arrivals).sent ≡ map sent_of leaving
