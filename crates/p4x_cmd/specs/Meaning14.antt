-- What a P4_14 program of the one-table form does with a packet.
-- P4_14 1.0.5, "Parser Specification", "Standard Intrinsic Metadata", "Actions", "Deparsing", "Table Declarations" and
-- "Packet Processing and Control Flow".
use Rattle.std.specs.Prelude.{ℕ, zero, suc, ◌*◌, ◌/◌, ◌%◌, ◌^◌, Bool, true, false, ◌==◌, if◌then◌else◌, nat_lt, List, [], ◌∷◌, ◌++◌, length, map, sum, drop, Option, Some, None}
use Rattle.state_store.specs.State.{Contents}
use Rattle.p4x_bits.specs.BitLists.{octet_bits}
use Rattle.state_store.specs.Ports.{drop_port}
use Rattle.match_core.specs.declared.signatures.TableSig.{TableSig}
use Rattle.match_core.specs.declared.signatures.Signature.{Signature}
use Rattle.match_core.specs.declared.entries.DefaultCall.{DefaultCall}
use Rattle.match_core.specs.declared.entries.Entries.{Entries}
use Rattle.match_core.specs.Stores.{first_store}
use Rattle.p414_one_table.specs.declared.program.OneTable14.{OneTable14}
use Rattle.fabric.specs.declared.packets.Arrival.{Arrival}
use Rattle.p4x_cmd.specs.Headers.{numbers_in, bits_in, octets_in, zeros}
use Rattle.run_stream.specs.Runs.{Ran}
use Rattle.p4x_cmd.specs.Passes.{PassEnd, dropped, leaves, Pass, run_of}
use Rattle.p4x_cmd.specs.Entries.{fill_at}

-- the widths of the header's fields
abbrev pub widths14 : OneTable14 → List ℕ
widths14 p = map (λ f. f.width) p.fields

-- The state of a pass: the header instance's validity and numbers, the octets not yet parsed, and the standard
-- metadata.
pub record State14 : Type 0 where
  pub valid : Bool
  pub numbers : List ℕ
  pub unparsed : List ℕ
  pub ingress_port : ℕ
  pub egress_spec : ℕ
  pub egress_port : ℕ
  pub packet_length : ℕ
  pub instance_type : ℕ

-- as parsing begins: the header is invalid, with fields 0
abbrev pub start14 : OneTable14 → Arrival → State14
start14 p a = record {
  valid = false;
  numbers = zeros (widths14 p);
  unparsed = a.octets;
  ingress_port = a.port;
  egress_spec = 0;
  egress_port = 0;
  packet_length = length a.octets % 2 ^ 32;
  instance_type = 0;
}

-- `extract`: the next octets become the header's fields, and the header is valid; none where there are too few
-- (p4_pe_out_of_packet)
abbrev pub extract14 : OneTable14 → State14 → Option State14
extract14 p s =
    if nat_lt (8 * length s.unparsed) (sum (widths14 p)) then None
    else
    Some (record s {
      valid = true;
      numbers = numbers_in (widths14 p) (octet_bits s.unparsed);
      unparsed = drop (sum (widths14 p) / 8) s.unparsed;
    })

-- the action: modify_field(standard_metadata.egress_spec, N), which has 9 bits
abbrev pub act14 : OneTable14 → State14 → State14
act14 p s = record s { egress_spec = p.port % 2 ^ 9 }

-- the action of a number in the table's list
abbrev pub action14 : OneTable14 → ℕ → State14 → State14
action14 p zero s = act14 p s
action14 p (suc n) s = s

-- apply(t): a table without keys misses, so the default of the entries file runs, or else the program's own
abbrev pub apply14 : OneTable14 → Option DefaultCall → State14 → State14
apply14 p None s = action14 p 0 s
apply14 p (Some call) s = action14 p call.action s

-- as egress begins; there is no control `egress`, so nothing is done in it
abbrev pub egress14 : State14 → State14
egress14 s = record s { egress_port = s.egress_spec; egress_spec = 0 }

-- the header if it is valid, then the octets that were not parsed
abbrev pub deparsed14 : OneTable14 → State14 → List ℕ
deparsed14 p s = (if s.valid then octets_in (bits_in (widths14 p) s.numbers) else []) ++ s.unparsed

-- what becomes of the packet after ingress: the drop port drops it
abbrev pub after_ingress14 : OneTable14 → State14 → PassEnd
after_ingress14 p s =
    if s.egress_spec == drop_port then dropped else leaves (egress14 s).egress_port (deparsed14 p (egress14 s))

-- a packet whose parsing ends in an exception is dropped
abbrev pub after_parser14 : OneTable14 → Entries → Option State14 → PassEnd
after_parser14 p e None = dropped
after_parser14 p e (Some s) = after_ingress14 p (apply14 p (fill_at e 0).default s)

-- one pass
abbrev pub pass14 : OneTable14 → Entries → Arrival → Pass
pass14 p e a = record { end = after_parser14 p e (extract14 p (start14 p a)); work = 0 }

-- the table: it has no keys, one action without parameters, and the size of a table that gives none
abbrev pub table14 : OneTable14 → TableSig
table14 p = record {
  name = p.table;
  keys = [];
  actions = record { name = p.action; widths = [] } ∷ [];
  size = 1024;
  direct = None;
}

-- the signature: one table, and no object
abbrev pub signature14 : OneTable14 → Signature
signature14 p = record { tables = table14 p ∷ []; objects = [] }

-- what the program does on a list of arrivals
unfoldable pub Run14 : OneTable14 → Entries → ℕ → List Arrival → Ran Contents
Run14 p e bound arrivals = run_of (pass14 p e) bound (first_store (signature14 p) e) arrivals
