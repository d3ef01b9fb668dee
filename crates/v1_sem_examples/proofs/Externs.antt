-- Each extern. The packet is 12 34 00 00, but where another one stands.
use Rattle.std.proofs.Common.{◌≡◌, ℕ, List, [], ◌∷◌, ◌++◌, refl}
use Rattle.std.specs.Prelude.{codes, true, false}
use Rattle.p4x_bits.specs.BitLists.{num, bits}
use Rattle.state_store.specs.declared.cells.Cells.TheVariants.{Counts, Numbers, Colours}
use Rattle.fabric.specs.Queue.{run}
use Rattle.p416_syntax.specs.declared.parts.Member.TheVariants as member_of
use Rattle.p416_syntax.specs.declared.parts.CounterType.TheVariants.{PacketsAndBytes}
use Rattle.p416_syntax.specs.declared.parts.MeterType.TheVariants as meter_type
use Rattle.p416_syntax.specs.declared.controls.Instance.TheVariants as instance
use Rattle.p416_syntax.specs.declared.controls.Local.{Local}
use Rattle.p416_syntax.specs.declared.controls.Local.TheVariants as local
use Rattle.p416_syntax.specs.declared.node.BinaryOperator.TheVariants.{Equal}
use Rattle.p416_syntax.specs.declared.node.CastType.TheVariants.{Bit}
use Rattle.p416_syntax.specs.declared.program.Syntax16.{Syntax16}
use Rattle.p416_syntax.specs.Tree.{Exp16, truth, slice, cast, binary, listed, Stmt16, assign, block, if_then}
use Rattle.v1_core.specs.Surroundings.{Setting}
use Rattle.v1_core.specs.Signatures.{signature16}
use Rattle.v1_core.specs.Blocks.{control16}
use Rattle.v1_core.specs.Parsing.{parse16}
use Rattle.v1_core.specs.Passes.{ingress16, reparse16, egress16}
use Rattle.v1_core.specs.Runs.{Run16}
use Rattle.v1_sem_examples.specs.Parts.{n, number, meta, sm, is_kind, algorithm, hashes, method, calls, clones_to, given, does, statements, var as variable}
use Rattle.v1_sem_examples.specs.Samples.{Sample, small, doing, program, to_port_3, h_x, h_y, h_z, packet}
use Rattle.v1_sem_examples.specs.Packets.{plainly, with_session, outcome, sends, sends_nothing, cells, sends_of}

-- mark_to_drop(sm): the packet goes to port 511, which drops; `emit` doesn't run
drops : outcome (plainly (program (record small { ingress = does (calls (codes "mark_to_drop") (variable (codes "sm") ∷ [])) ∷ [] }))) packet ≡ sends_nothing 3
unfolding num bits run signature16 control16 parse16 ingress16 reparse16 egress16 Run16
drops = refl

-- hashes

-- the octets of 123456789
abbrev digits : Exp16
digits = n 72 0x313233343536373839

crc16_of_digits : sends_of (hashes h_z (codes "crc16") (n 16 0) (digits ∷ []) (n 32 65536) ∷ []) ≡ sends 3 (0x12 ∷ 0x34 ∷ 0xbb ∷ 0x3d ∷ []) 7
unfolding num bits run signature16 control16 parse16 ingress16 reparse16 egress16 Run16
crc16_of_digits = refl

-- cbf43926 modulo 2 ^ 16
crc32_of_digits : sends_of (hashes h_z (codes "crc32") (n 16 0) (digits ∷ []) (n 32 65536) ∷ []) ≡ sends 3 (0x12 ∷ 0x34 ∷ 0x39 ∷ 0x26 ∷ []) 7
unfolding num bits run signature16 control16 parse16 ingress16 reparse16 egress16 Run16
crc32_of_digits = refl

-- the complement of 1234 + 0001: the bits of two fields and of a literal, one after another
csum16_of_items : sends_of (hashes h_z (codes "csum16") (n 16 0) (h_x ∷ h_y ∷ n 16 1 ∷ []) (n 32 65536) ∷ []) ≡ sends 3 (0x12 ∷ 0x34 ∷ 0xed ∷ 0xca ∷ []) 7
unfolding num bits run signature16 control16 parse16 ingress16 reparse16 egress16 Run16
csum16_of_items = refl

-- 5 plus 0x1234 modulo 16
identity_in_range : sends_of (hashes h_z (codes "identity") (n 16 5) (h_x ∷ h_y ∷ []) (n 8 16) ∷ []) ≡ sends 3 (0x12 ∷ 0x34 ∷ 0 ∷ 9 ∷ []) 7
unfolding num bits run signature16 control16 parse16 ingress16 reparse16 egress16 Run16
identity_in_range = refl

-- with the bound 0 the base, cut to its target: 0x105 becomes 5
base_alone : sends_of (hashes h_x (codes "identity") (n 16 0x105) (h_y ∷ []) (n 8 0) ∷ []) ≡ sends 3 (5 ∷ 0x34 ∷ 0 ∷ 0 ∷ []) 7
unfolding num bits run signature16 control16 parse16 ingress16 reparse16 egress16 Run16
base_alone = refl

-- checksums

abbrev sums : List ℕ → Exp16 → List Exp16 → Exp16 → Stmt16
sums text condition items to =
    does (calls text (condition ∷ listed (given items) ∷ to ∷ algorithm (codes "csum16") ∷ []))

-- update_checksum(true, { x, y }, z, csum16): the complement of 1234
updates : outcome (plainly (program (record small { ingress = to_port_3 ∷ []; compute = sums (codes "update_checksum") (truth true) (h_x ∷ h_y ∷ []) h_z ∷ [] }))) packet ≡ sends 3 (0x12 ∷ 0x34 ∷ 0xed ∷ 0xcb ∷ []) 7
unfolding num bits run signature16 control16 parse16 ingress16 reparse16 egress16 Run16
updates = refl

updates_nothing : outcome (plainly (program (record small { compute = sums (codes "update_checksum") (truth false) (h_x ∷ h_y ∷ []) h_z ∷ [] }))) packet ≡ sends 3 packet 7
unfolding num bits run signature16 control16 parse16 ingress16 reparse16 egress16 Run16
updates_nothing = refl

-- the octets that weren't parsed follow the list: the complement of 1234 + 0001
updates_with_payload : outcome (plainly (program (record small { compute = sums (codes "update_checksum_with_payload") (truth true) (h_x ∷ h_y ∷ []) h_z ∷ [] }))) (0x12 ∷ 0x34 ∷ 0 ∷ 0 ∷ 0 ∷ 1 ∷ []) ≡ sends 3 (0x12 ∷ 0x34 ∷ 0xed ∷ 0xca ∷ 0 ∷ 1 ∷ []) 7
unfolding num bits run signature16 control16 parse16 ingress16 reparse16 egress16 Run16
updates_with_payload = refl

-- ingress writes 1 to x where `checksum_error` is 1
abbrev verifying : Stmt16 → Sample
verifying x =
    record small {
      verify = x ∷ [];
      ingress = if_then (binary Equal (sm (codes "checksum_error")) (n 1 1)) (assign h_x (n 8 1)) ∷ to_port_3 ∷ [];
    }

verifies_wrong : outcome (plainly (program (verifying (sums (codes "verify_checksum") (truth true) (h_x ∷ h_y ∷ []) h_z)))) packet ≡ sends 3 (1 ∷ 0x34 ∷ 0 ∷ 0 ∷ []) 9
unfolding num bits run signature16 control16 parse16 ingress16 reparse16 egress16 Run16
verifies_wrong = refl

verifies_right : outcome (plainly (program (verifying (sums (codes "verify_checksum") (truth true) (h_x ∷ h_y ∷ []) h_z)))) (0x12 ∷ 0x34 ∷ 0xed ∷ 0xcb ∷ []) ≡ sends 3 (0x12 ∷ 0x34 ∷ 0xed ∷ 0xcb ∷ []) 8
unfolding num bits run signature16 control16 parse16 ingress16 reparse16 egress16 Run16
verifies_right = refl

verifies_nothing : outcome (plainly (program (verifying (sums (codes "verify_checksum") (truth false) (h_x ∷ h_y ∷ []) h_z)))) packet ≡ sends 3 packet 8
unfolding num bits run signature16 control16 parse16 ingress16 reparse16 egress16 Run16
verifies_nothing = refl

verifies_with_payload : outcome (plainly (program (verifying (sums (codes "verify_checksum_with_payload") (truth true) (h_x ∷ h_y ∷ []) h_z)))) (0x12 ∷ 0x34 ∷ 0xed ∷ 0xca ∷ 0 ∷ 1 ∷ []) ≡ sends 3 (0x12 ∷ 0x34 ∷ 0xed ∷ 0xca ∷ 0 ∷ 1 ∷ []) 8
unfolding num bits run signature16 control16 parse16 ingress16 reparse16 egress16 Run16
verifies_with_payload = refl

-- the result is cut to the field's width before it is compared: edcb at 8 bits is cb
verifies_at_the_width : outcome (plainly (program (verifying (sums (codes "verify_checksum") (truth true) (n 16 0x1234 ∷ []) h_x)))) (0xcb ∷ 0x34 ∷ 0 ∷ 0 ∷ []) ≡ sends 3 (0xcb ∷ 0x34 ∷ 0 ∷ 0 ∷ []) 8
unfolding num bits run signature16 control16 parse16 ingress16 reparse16 egress16 Run16
verifies_at_the_width = refl

-- verify is left out after an error, so the work is that of `extract`, the `if`, the port and three `emit`
skips_verify : outcome (plainly (program (verifying (sums (codes "verify_checksum") (truth true) (h_x ∷ h_y ∷ []) h_z)))) (0x12 ∷ []) ≡ sends 3 (0x12 ∷ []) 6
unfolding num bits run signature16 control16 parse16 ingress16 reparse16 egress16 Run16
skips_verify = refl

-- objects

-- counter(32w2, CounterType.packets_and_bytes) c; register<bit<8>>(32w2) r; meter(32w2, MeterType.packets) m;
abbrev locals : List Local
locals =
    local.Instance [] (instance.Counter (n 32 2) (member_of.CounterType PacketsAndBytes) (codes "c"))
    ∷ local.Instance [] (instance.Register (number 8) (n 32 2) (codes "r"))
    ∷ local.Instance [] (instance.Meter (n 32 2) (member_of.MeterType meter_type.Packets) (codes "m"))
    ∷ []

abbrev with_objects : List Stmt16 → Syntax16
with_objects xs = program (record (doing xs) { ingress_locals = locals })

-- in the order of their names: c, m, r; the meter's colours are 2 and 1
abbrev setting : List Stmt16 → Setting
setting xs = record {
  syntax = with_objects xs;
  entries = record { tables = []; sessions = []; colours = [] ∷ (2 ∷ 1 ∷ []) ∷ [] ∷ [] };
}

abbrev on : List ℕ → List ℕ → List Exp16 → Stmt16
on object word es = does (method (variable object) word es)

-- c.count(32w1); an index out of range counts nothing
counts : cells (setting (on (codes "c") (codes "count") (n 32 1 ∷ []) ∷ on (codes "c") (codes "count") (n 32 2 ∷ []) ∷ [])) packet ≡ Counts ((0, 0) ∷ (1, 4) ∷ []) ∷ Colours (2 ∷ 1 ∷ []) ∷ Numbers (0 ∷ 0 ∷ []) ∷ []
unfolding num bits run signature16 control16 parse16 ingress16 reparse16 egress16 Run16
counts = refl

-- sm.packet_length = 32w9; c.count(32w0): the length as it stands
counts_the_length_as_it_stands : cells (setting (assign (sm (codes "packet_length")) (n 32 9) ∷ on (codes "c") (codes "count") (n 32 0 ∷ []) ∷ [])) packet ≡ Counts ((1, 9) ∷ (0, 0) ∷ []) ∷ Colours (2 ∷ 1 ∷ []) ∷ Numbers (0 ∷ 0 ∷ []) ∷ []
unfolding num bits run signature16 control16 parse16 ingress16 reparse16 egress16 Run16
counts_the_length_as_it_stands = refl

-- r.write(32w1, 16w0x1ab): cut to 8 bits; an index out of range writes nothing
writes : cells (setting (on (codes "r") (codes "write") (n 32 1 ∷ n 16 0x1ab ∷ []) ∷ on (codes "r") (codes "write") (n 32 2 ∷ n 8 1 ∷ []) ∷ [])) packet ≡ Counts ((0, 0) ∷ (0, 0) ∷ []) ∷ Colours (2 ∷ 1 ∷ []) ∷ Numbers (0 ∷ 0xab ∷ []) ∷ []
unfolding num bits run signature16 control16 parse16 ingress16 reparse16 egress16 Run16
writes = refl

-- r.read(hdr.h.z, 32w1): extended to 16 bits; r.read(hdr.h.x, 32w7): 0
reads : outcome (setting (on (codes "r") (codes "write") (n 32 1 ∷ n 8 0xab ∷ []) ∷ on (codes "r") (codes "read") (h_z ∷ n 32 1 ∷ []) ∷ on (codes "r") (codes "read") (h_x ∷ n 32 7 ∷ []) ∷ [])) packet ≡ sends 3 (0 ∷ 0x34 ∷ 0 ∷ 0xab ∷ []) 9
unfolding num bits run signature16 control16 parse16 ingress16 reparse16 egress16 Run16
reads = refl

-- m.execute_meter(32w0, hdr.h.x); an index out of range gives 0, which is written to z, and takes no colour
takes_colours : outcome (setting (assign h_z (n 16 7) ∷ on (codes "m") (codes "execute_meter") (n 32 0 ∷ h_x ∷ []) ∷ on (codes "m") (codes "execute_meter") (n 32 2 ∷ h_z ∷ []) ∷ on (codes "m") (codes "execute_meter") (n 32 1 ∷ h_y ∷ []) ∷ [])) packet ≡ sends 3 (2 ∷ 1 ∷ 0 ∷ 0 ∷ []) 10
unfolding num bits run signature16 control16 parse16 ingress16 reparse16 egress16 Run16
takes_colours = refl

-- further passes

abbrev clones : List ℕ → Stmt16
clones text = clones_to text 7 1

-- egress writes its kind to x, k to y and l to z
abbrev tells : List Stmt16
tells =
    assign h_x (slice (sm (codes "instance_type")) (number 7) (number 0)) ∷ assign h_y (meta (codes "k"))
    ∷ assign h_z (cast (Bit (number 16)) (meta (codes "l"))) ∷ []

-- meta.k = 8w5; meta.l = 8w6; and the request
abbrev asks : Stmt16 → List Stmt16
asks x = assign (meta (codes "k")) (n 8 5) ∷ assign (meta (codes "l")) (n 8 6) ∷ x ∷ []

-- An i2e clone has the octets as they came in and kind 1, k is preserved by list 1 and l isn't; it comes after the packet
-- itself. The packet has k and l as ingress left them.
clones_at_ingress : outcome (with_session (program (record (doing (asks (clones (codes "I2E")))) { egress = tells }))) packet ≡ record { sent = (3, 0 ∷ 5 ∷ 0 ∷ 6 ∷ []) ∷ (9, 1 ∷ 5 ∷ 0 ∷ 0 ∷ []) ∷ []; work = 20 }
unfolding num bits run signature16 control16 parse16 ingress16 reparse16 egress16 Run16
clones_at_ingress = refl

-- a clone for an unknown session isn't made
clones_nothing : outcome (plainly (program (doing (asks (clones (codes "I2E")))))) packet ≡ sends 3 packet 9
unfolding num bits run signature16 control16 parse16 ingress16 reparse16 egress16 Run16
clones_nothing = refl

-- An e2e clone has the packet as egress left it and kind 2, and asks for no clone itself: it goes through egress alone.
abbrev if_first : Stmt16 → Stmt16
if_first x = if_then (is_kind 0) x

clones_at_egress : outcome (with_session (program (record (doing (assign h_z (n 16 7) ∷ [])) { egress = if_first (clones (codes "E2E")) ∷ assign h_x (slice (sm (codes "instance_type")) (number 7) (number 0)) ∷ [] }))) packet ≡ record { sent = (3, 0 ∷ 0x34 ∷ 0 ∷ 7 ∷ []) ∷ (9, 2 ∷ 0x34 ∷ 0 ∷ 7 ∷ []) ∷ []; work = 15 }
unfolding num bits run signature16 control16 parse16 ingress16 reparse16 egress16 Run16
clones_at_egress = refl

-- if (sm.instance_type == 32w0) { meta.k = 8w5; meta.l = 8w6; resubmit_preserving_field_list(8w1); }: the second pass has
-- the octets as they came in, kind 6 and what is preserved
abbrev again : List ℕ → Stmt16
again text = does (calls text (n 8 1 ∷ []))

resubmits : outcome (plainly (program (record (doing (if_first (block (statements (asks (again (codes "resubmit_preserving_field_list"))))) ∷ [])) { egress = tells }))) packet ≡ sends 3 (6 ∷ 5 ∷ 0 ∷ 0 ∷ []) 17
unfolding num bits run signature16 control16 parse16 ingress16 reparse16 egress16 Run16
resubmits = refl

-- The same in egress: the second pass has the packet as it was put together, with kind 4.
recirculates : outcome (plainly (program (record small { egress = if_first (block (statements (assign h_z (n 16 7) ∷ asks (again (codes "recirculate_preserving_field_list"))))) ∷ if_then (is_kind 4) (assign h_y (meta (codes "k"))) ∷ [] }))) packet ≡ sends 3 (0x12 ∷ 5 ∷ 0 ∷ 7 ∷ []) 21
unfolding num bits run signature16 control16 parse16 ingress16 reparse16 egress16 Run16
recirculates = refl

-- behind its last colour a meter gives 0
runs_out_of_colours : outcome (setting (assign h_z (n 16 7) ∷ on (codes "m") (codes "execute_meter") (n 32 0 ∷ h_x ∷ []) ∷ on (codes "m") (codes "execute_meter") (n 32 0 ∷ h_y ∷ []) ∷ on (codes "m") (codes "execute_meter") (n 32 0 ∷ h_z ∷ []) ∷ [])) packet ≡ sends 3 (2 ∷ 1 ∷ 0 ∷ 0 ∷ []) 10
unfolding num bits run signature16 control16 parse16 ingress16 reparse16 egress16 Run16
runs_out_of_colours = refl

-- the last request of a kind counts: list 0, which preserves nothing, and then list 1
asks_twice : outcome (plainly (program (record (doing (if_first (block (statements (does (calls (codes "resubmit_preserving_field_list") (n 8 0 ∷ [])) ∷ asks (again (codes "resubmit_preserving_field_list"))))) ∷ [])) { egress = tells }))) packet ≡ sends 3 (6 ∷ 5 ∷ 0 ∷ 0 ∷ []) 18
unfolding num bits run signature16 control16 parse16 ingress16 reparse16 egress16 Run16
asks_twice = refl

-- a clone is made beside a resubmission, and the packet's first pass sends nothing
clones_and_resubmits : outcome (with_session (program (record (doing (if_first (block (statements (asks (again (codes "resubmit_preserving_field_list")) ++ clones (codes "I2E") ∷ []))) ∷ [])) { egress = tells }))) packet ≡ record { sent = (9, 1 ∷ 5 ∷ 0 ∷ 0 ∷ []) ∷ (3, 6 ∷ 5 ∷ 0 ∷ 0 ∷ []) ∷ []; work = 26 }
unfolding num bits run signature16 control16 parse16 ingress16 reparse16 egress16 Run16
clones_and_resubmits = refl
