-- What the plain program answers for one packet.
use Rattle.std.specs.Prelude.{◌≡◌, ℕ, List, Option, Some, None}
use Rattle.fabric.specs.declared.packets.Arrival.{Arrival}
use Rattle.p414_one_table.specs.declared.program.OneTable14.{OneTable14}
use Rattle.p4x_cmd.specs.Entries.{no_entries}
use Rattle.p4x_cmd.specs.Meaning14.{pass14, signature14}
use Rattle.p4x_cmd.specs.Passes.{PassEnd, dropped, leaves}
use Rattle.command_examples.specs.Plain.{IsProgram}

-- the end of a pass, from the octets that leave
abbrev pub end_of : ℕ → Option (List ℕ) → PassEnd
end_of port None = dropped
end_of port (Some octets) = leaves port octets

-- it is what every such program does with a packet of these octets, without entries
abbrev pub IsPass14 : List ℕ → ℕ → List ℕ → Option (List ℕ) → Type 0
IsPass14 widths port octets leaving =
    (p : OneTable14) (a : Arrival) → IsProgram widths port p → a.octets ≡ octets
    → (pass14 p (no_entries (signature14 p)) a).end ≡ end_of port leaving
