-- Hashes and sums of short and long lists, sums to slices and to invalid headers, counters of each kind, and a register over
-- two packets. The packet is 12 34 00 00, but where others stand.
use Rattle.std.proofs.Common.{◌≡◌, ℕ, List, [], ◌∷◌, refl}
use Rattle.std.specs.Prelude.{codes, true, false}
use Rattle.p4x_bits.specs.BitLists.{num, bits}
use Rattle.state_store.specs.declared.cells.Cells.TheVariants.{Counts, Numbers}
use Rattle.fabric.specs.Queue.{run}
use Rattle.p416_syntax.specs.declared.parts.Member.TheVariants as member_of
use Rattle.p416_syntax.specs.declared.parts.CounterType.TheVariants.{Packets, Bytes}
use Rattle.p416_syntax.specs.declared.controls.Instance.TheVariants as instance
use Rattle.p416_syntax.specs.declared.controls.Local.{Local}
use Rattle.p416_syntax.specs.declared.controls.Local.TheVariants as local
use Rattle.p416_syntax.specs.declared.controls.Property.TheVariants as property
use Rattle.p416_syntax.specs.declared.program.Syntax16.{Syntax16}
use Rattle.p416_syntax.specs.Tree.{Exp16, truth, member, slice, choice, listed, Stmt16, assign}
use Rattle.v1_core.specs.Signatures.{signature16}
use Rattle.v1_core.specs.Blocks.{control16}
use Rattle.v1_core.specs.Parsing.{parse16}
use Rattle.v1_core.specs.Passes.{ingress16, reparse16, egress16}
use Rattle.v1_core.specs.Runs.{Run16}
use Rattle.v1_sem_examples.specs.Parts.{n, number, field, action, table, an_action, algorithm, hashes, method, calls, given, does, statements, var as variable}
use Rattle.v1_sem_examples.specs.Samples.{doing, program, h_x, h_y, h_z, packet}
use Rattle.v1_sem_examples.specs.Packets.{Outcome, plainly, outcome, sends, sends_of, sends_both, told, ran_all, cells}

-- the whole result in z
abbrev hashed : List ℕ → List Exp16 → Outcome
hashed text items = sends_of (hashes h_z text (n 16 0) items (n 32 65536) ∷ [])

-- hdr.h.z[7:0]
abbrev low_z : Exp16
low_z = slice h_z (number 7) (number 0)

-- of no item: the complement of 0
csum16_of_nothing : hashed (codes "csum16") [] ≡ sends 3 (0x12 ∷ 0x34 ∷ 0xff ∷ 0xff ∷ []) 7
unfolding num bits run signature16 control16 parse16 ingress16 reparse16 egress16 Run16
csum16_of_nothing = refl

-- Of four bits, 9: csum16 fills them up behind, to the word 9000.
csum16_of_four_bits : hashed (codes "csum16") (n 4 9 ∷ []) ≡ sends 3 (0x12 ∷ 0x34 ∷ 0x6f ∷ 0xff ∷ []) 7
unfolding num bits run signature16 control16 parse16 ingress16 reparse16 egress16 Run16
csum16_of_four_bits = refl

-- crc16 fills them up to the octet 90.
crc16_of_four_bits : hashed (codes "crc16") (n 4 9 ∷ []) ≡ sends 3 (0x12 ∷ 0x34 ∷ 0x6c ∷ 0 ∷ []) 7
unfolding num bits run signature16 control16 parse16 ingress16 reparse16 egress16 Run16
crc16_of_four_bits = refl

-- of 128 bits and 8 behind them, modulo 256: the last 8 bits
identity_beyond_128_bits : sends_of (hashes h_z (codes "identity") (n 16 0) (n 128 1 ∷ n 8 5 ∷ []) (n 128 256) ∷ []) ≡ sends 3 (0x12 ∷ 0x34 ∷ 0 ∷ 5 ∷ []) 7
unfolding num bits run signature16 control16 parse16 ingress16 reparse16 egress16 Run16
identity_beyond_128_bits = refl

-- the sum of base and result is cut to the target alone: 255 + 3 at 8 bits
sum_is_cut : sends_of (hashes h_x (codes "identity") (n 16 255) (n 8 3 ∷ []) (n 8 16) ∷ []) ≡ sends 3 (2 ∷ 0x34 ∷ 0 ∷ 0 ∷ []) 7
unfolding num bits run signature16 control16 parse16 ingress16 reparse16 egress16 Run16
sum_is_cut = refl

-- hash(hdr.h.z[7:0], HashAlgorithm.identity, 16w0x105, { 8w3 }, 8w0);
hashes_to_a_slice : sends_of (hashes low_z (codes "identity") (n 16 0x105) (n 8 3 ∷ []) (n 8 0) ∷ []) ≡ sends 3 (0x12 ∷ 0x34 ∷ 0 ∷ 5 ∷ []) 7
unfolding num bits run signature16 control16 parse16 ingress16 reparse16 egress16 Run16
hashes_to_a_slice = refl

-- update_checksum(true, { 8w0xab }, TO, HashAlgorithm.identity);
abbrev updating : Exp16 → Outcome
updating to =
    outcome (plainly (program (record (doing []) {
      compute =
          does (calls (codes "update_checksum") (truth true ∷ listed (given (n 8 0xab ∷ [])) ∷ to ∷ algorithm (codes "identity") ∷ [])) ∷ [];
    }))) packet

updates_a_slice : updating low_z ≡ sends 3 (0x12 ∷ 0x34 ∷ 0 ∷ 0xab ∷ []) 7
unfolding num bits run signature16 control16 parse16 ingress16 reparse16 egress16 Run16
updates_a_slice = refl

-- hdr.i is invalid
updates_no_invalid_header : updating (field (codes "i") (codes "z")) ≡ sends 3 packet 7
unfolding num bits run signature16 control16 parse16 ingress16 reparse16 egress16 Run16
updates_no_invalid_header = refl

-- All arguments are evaluated, though the condition is false: update_checksum(false, { t.apply().hit ? 8w1 : 8w2 }, hdr.h.z, ..);
-- with action s() { hdr.h.y = 8w1; } and table t { actions = { s; } default_action = s(); }
abbrev applying : List Local
applying =
    action (codes "s") [] (statements (assign h_y (n 8 1) ∷ []))
    ∷ table (codes "t") (property.Actions (an_action (codes "s") ∷ []) ∷ property.DefaultAction (an_action (codes "s")) (given []) ∷ [])
    ∷ []

abbrev by_hit : Exp16
by_hit = choice (member (method (variable (codes "t")) (codes "apply") []) (codes "hit")) (n 8 1) (n 8 2)

evaluates_all : outcome (plainly (program (record (doing []) { compute_locals = applying; compute = does (calls (codes "update_checksum") (truth false ∷ listed (given (by_hit ∷ [])) ∷ h_z ∷ algorithm (codes "identity") ∷ [])) ∷ [] }))) packet ≡ sends 3 (0x12 ∷ 1 ∷ 0 ∷ 0 ∷ []) 8
unfolding num bits run signature16 control16 parse16 ingress16 reparse16 egress16 Run16
evaluates_all = refl

-- counter(32w1, CounterType.packets) c; counter(32w1, CounterType.bytes) b; both count, and b comes first by its name
abbrev on : List ℕ → List ℕ → List Exp16 → Stmt16
on object word es = does (method (variable object) word es)

abbrev counters : List Local
counters =
    local.Instance [] (instance.Counter (n 32 1) (member_of.CounterType Packets) (codes "c"))
    ∷ local.Instance [] (instance.Counter (n 32 1) (member_of.CounterType Bytes) (codes "b"))
    ∷ []

counts_packets_or_octets : cells (plainly (program (record (doing (on (codes "c") (codes "count") (n 32 0 ∷ []) ∷ on (codes "b") (codes "count") (n 32 0 ∷ []) ∷ [])) { ingress_locals = counters }))) packet ≡ Counts ((0, 4) ∷ []) ∷ Counts ((1, 0) ∷ []) ∷ []
unfolding num bits run signature16 control16 parse16 ingress16 reparse16 egress16 Run16
counts_packets_or_octets = refl

-- register<bit<8>>(32w1) r; and r.read(hdr.h.y, 32w0); r.write(32w0, hdr.h.x); the second packet, 56 78 00 00, reads what the
-- first one wrote, and the work of both is counted
abbrev hands_on : Syntax16
hands_on =
    program (record (doing (on (codes "r") (codes "read") (h_y ∷ n 32 0 ∷ []) ∷ on (codes "r") (codes "write") (n 32 0 ∷ h_x ∷ []) ∷ [])) {
      ingress_locals = local.Instance [] (instance.Register (number 8) (n 32 1) (codes "r")) ∷ [];
    })

abbrev two_packets : List (List ℕ)
two_packets = packet ∷ (0x56 ∷ 0x78 ∷ 0 ∷ 0 ∷ []) ∷ []

reads_what_another_packet_wrote : told (ran_all (plainly hands_on) two_packets) ≡ sends_both 3 (0x12 ∷ 0 ∷ 0 ∷ 0 ∷ []) 3 (0x56 ∷ 0x12 ∷ 0 ∷ 0 ∷ []) 16
unfolding num bits run signature16 control16 parse16 ingress16 reparse16 egress16 Run16
reads_what_another_packet_wrote = refl

keeps_what_the_last_one_wrote : (ran_all (plainly hands_on) two_packets).state.store.cells ≡ Numbers (0x56 ∷ []) ∷ []
unfolding num bits run signature16 control16 parse16 ingress16 reparse16 egress16 Run16
keeps_what_the_last_one_wrote = refl
