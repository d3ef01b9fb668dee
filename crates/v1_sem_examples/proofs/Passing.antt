-- Passes: the port, what each further item begins with, what is preserved, and the order of what follows a block. The packet
-- is 12 34 00 00, and session 7 is on port 9.
use Rattle.std.proofs.Common.{◌≡◌, ℕ, List, [], ◌∷◌, refl}
use Rattle.std.specs.Prelude.{codes, true}
use Rattle.p4x_bits.specs.BitLists.{num, bits}
use Rattle.fabric.specs.Queue.{run}
use Rattle.p416_syntax.specs.declared.parts.Note.TheVariants as note
use Rattle.p416_syntax.specs.declared.parts.StructField.{StructField}
use Rattle.p416_syntax.specs.declared.node.BinaryOperator.TheVariants.{Add, Concatenate}
use Rattle.p416_syntax.specs.declared.node.CastType.TheVariants.{Bit}
use Rattle.p416_syntax.specs.declared.program.Decl16.{Decl16}
use Rattle.p416_syntax.specs.declared.program.Decl16.TheVariants as decl
use Rattle.p416_syntax.specs.Tree.{Exp16, truth, member, cast, binary, listed, Stmt16, assign, block, if_then, if_else}
use Rattle.v1_core.specs.Signatures.{signature16}
use Rattle.v1_core.specs.Blocks.{control16}
use Rattle.v1_core.specs.Parsing.{parse16}
use Rattle.v1_core.specs.Passes.{ingress16, reparse16, egress16}
use Rattle.v1_core.specs.Runs.{Run16}
use Rattle.v1_sem_examples.specs.Parts.{n, number, named, bits_type, struct_field, listed_field, hdr, sm, sm_octet, is_kind, is_error, meta, algorithm, given, calls, method, does, statements, extract, state, accept, drops_it, clones_to, resubmits_with, recirculates_with}
use Rattle.v1_sem_examples.specs.Samples.{Sample, types_with, small, doing, program, to_port_3, h_x, h_y, h_z, packet}
use Rattle.v1_sem_examples.specs.Packets.{Outcome, plainly, with_session, ran, ran_from, told, outcome, sends, sends_nothing, sends_both}

abbrev leaves : Sample → Outcome
leaves s = outcome (plainly (program s)) packet

abbrev leaves_with_session : Sample → Outcome
leaves_with_session s = outcome (with_session (program s)) packet

abbrev all_of : List Stmt16 → Stmt16
all_of xs = block (statements xs)

abbrev k : Exp16
k = meta (codes "k")

abbrev adds_1_to_y : Stmt16
adds_1_to_y = assign h_y (binary Add h_y (n 8 1))

-- the standard metadata

-- A packet is sent on the port with which its egress began, and egress sees what it wrote itself: sm.egress_port = 9w7;
-- hdr.h.x = sm.egress_port[7:0];
keeps_port : leaves (record small { egress = assign (sm (codes "egress_port")) (n 9 7) ∷ assign h_x (sm_octet (codes "egress_port")) ∷ [] }) ≡ sends 3 (7 ∷ 0x34 ∷ 0 ∷ 0 ∷ []) 8
unfolding num bits run signature16 control16 parse16 ingress16 reparse16 egress16 Run16
keeps_port = refl

-- egress begins with the item's kind, also where ingress wrote another one: sm.instance_type = 32w9;
keeps_kind : leaves (record (doing (assign (sm (codes "instance_type")) (n 32 9) ∷ [])) { egress = assign h_x (sm_octet (codes "instance_type")) ∷ [] }) ≡ sends 3 (0 ∷ 0x34 ∷ 0 ∷ 0 ∷ []) 8
unfolding num bits run signature16 control16 parse16 ingress16 reparse16 egress16 Run16
keeps_kind = refl

-- ingress sees what the parser wrote: sm.packet_length = 32w9;
sees_length_of_parser : leaves (record (doing (assign h_x (sm_octet (codes "packet_length")) ∷ [])) { states = state (codes "start") (assign (sm (codes "packet_length")) (n 32 9) ∷ extract (hdr (codes "h")) ∷ []) accept ∷ [] }) ≡ sends 3 (9 ∷ 0x34 ∷ 0 ∷ 0 ∷ []) 8
unfolding num bits run signature16 control16 parse16 ingress16 reparse16 egress16 Run16
sees_length_of_parser = refl

-- the order behind ingress and behind egress

-- where resubmit was asked for the packet isn't dropped; its second pass, of kind 6, sends it
resubmits_before_it_drops : leaves (record small { ingress = if_else (is_kind 0) (all_of (resubmits_with 1 ∷ drops_it ∷ [])) (all_of (assign h_x (n 8 6) ∷ to_port_3 ∷ [])) ∷ [] }) ≡ sends 3 (6 ∷ 0x34 ∷ 0 ∷ 0 ∷ []) 13
unfolding num bits run signature16 control16 parse16 ingress16 reparse16 egress16 Run16
resubmits_before_it_drops = refl

-- a packet that egress drops isn't recirculated, and nothing is cut
abbrev recirculates_and_drops : Sample
recirculates_and_drops = record small { egress = recirculates_with 1 ∷ drops_it ∷ [] }

drops_before_it_recirculates : leaves recirculates_and_drops ≡ sends_nothing 5
unfolding num bits run signature16 control16 parse16 ingress16 reparse16 egress16 Run16
drops_before_it_recirculates = refl

cuts_nothing : (ran (plainly (program recirculates_and_drops)) packet).cut ≡ 0
unfolding num bits run signature16 control16 parse16 ingress16 reparse16 egress16 Run16
cuts_nothing = refl

-- clones of ingress

-- The last request counts, also for a session that isn't there: no clone is made.
last_session_counts : leaves_with_session (doing (clones_to (codes "I2E") 7 1 ∷ clones_to (codes "I2E") 8 1 ∷ [])) ≡ sends 3 packet 8
unfolding num bits run signature16 control16 parse16 ingress16 reparse16 egress16 Run16
last_session_counts = refl

-- What is preserved is taken at the end of ingress, and the octets are those that came in: the request, then k = 7 and x = 1;
-- egress writes k to y.
clones_at_the_end_of_ingress : leaves_with_session (record (doing (clones_to (codes "I2E") 7 1 ∷ assign k (n 8 7) ∷ assign h_x (n 8 1) ∷ [])) { egress = assign h_y k ∷ [] }) ≡ sends_both 3 (1 ∷ 7 ∷ 0 ∷ 0 ∷ []) 9 (0x12 ∷ 7 ∷ 0 ∷ 0 ∷ []) 16
unfolding num bits run signature16 control16 parse16 ingress16 reparse16 egress16 Run16
clones_at_the_end_of_ingress = refl

-- verify, which makes k 5, doesn't run for a clone; egress writes k to x
does_not_verify_a_clone : leaves_with_session (record (doing (clones_to (codes "I2E") 7 0 ∷ [])) { verify = assign k (n 8 5) ∷ []; egress = assign h_x k ∷ [] }) ≡ sends_both 3 (5 ∷ 0x34 ∷ 0 ∷ 0 ∷ []) 9 (0 ∷ 0x34 ∷ 0 ∷ 0 ∷ []) 15
unfolding num bits run signature16 control16 parse16 ingress16 reparse16 egress16 Run16
does_not_verify_a_clone = refl

-- a clone's parser sees its kind: it writes `instance_type` to x
parser_sees_kind : leaves_with_session (record (doing (clones_to (codes "I2E") 7 1 ∷ [])) { states = state (codes "start") (extract (hdr (codes "h")) ∷ assign h_x (sm_octet (codes "instance_type")) ∷ []) accept ∷ [] }) ≡ sends_both 3 (0 ∷ 0x34 ∷ 0 ∷ 0 ∷ []) 9 (1 ∷ 0x34 ∷ 0 ∷ 0 ∷ []) 14
unfolding num bits run signature16 control16 parse16 ingress16 reparse16 egress16 Run16
parser_sees_kind = refl

-- clones of egress

abbrev clones_of_egress : Stmt16
clones_of_egress = clones_to (codes "E2E") 7 1

-- A clone is made though egress drops the packet, and of k = 5 and l = 6 it has k alone.
clones_before_it_drops : leaves_with_session (record small { egress = if_else (is_kind 0) (all_of (assign k (n 8 5) ∷ assign (meta (codes "l")) (n 8 6) ∷ clones_of_egress ∷ drops_it ∷ [])) (all_of (assign h_x k ∷ assign h_y (meta (codes "l")) ∷ [])) ∷ [] }) ≡ sends 9 (5 ∷ 0 ∷ 0 ∷ 0 ∷ []) 14
unfolding num bits run signature16 control16 parse16 ingress16 reparse16 egress16 Run16
clones_before_it_drops = refl

-- what is preserved is taken at the end of egress: the request, and k = 5 behind it
clones_at_the_end_of_egress : leaves_with_session (record small { egress = if_else (is_kind 0) (all_of (clones_of_egress ∷ assign k (n 8 5) ∷ [])) (assign h_x k) ∷ [] }) ≡ sends_both 3 packet 9 (5 ∷ 0x34 ∷ 0 ∷ 0 ∷ []) 14
unfolding num bits run signature16 control16 parse16 ingress16 reparse16 egress16 Run16
clones_at_the_end_of_egress = refl

-- a clone's pass comes before that of the recirculated packet, whichever was asked for first; x tells the kind
clones_before_it_recirculates : leaves_with_session (record small { egress = if_then (is_kind 0) (all_of (recirculates_with 1 ∷ clones_of_egress ∷ [])) ∷ assign h_x (sm_octet (codes "instance_type")) ∷ [] }) ≡ sends_both 9 (2 ∷ 0x34 ∷ 0 ∷ 0 ∷ []) 3 (4 ∷ 0x34 ∷ 0 ∷ 0 ∷ []) 23
unfolding num bits run signature16 control16 parse16 ingress16 reparse16 egress16 Run16
clones_before_it_recirculates = refl

-- The clone has the port of arrival, 6, though egress wrote 2 to `ingress_port`, the length as egress left it, 77, and its
-- session's port: x, y and z become these.
abbrev tells_ports_and_length : Sample
tells_ports_and_length =
    record small {
      egress =
          if_else (is_kind 0)
          (all_of (assign (sm (codes "ingress_port")) (n 9 2) ∷ assign (sm (codes "packet_length")) (n 32 77) ∷ clones_of_egress ∷ []))
          (all_of (assign h_x (sm_octet (codes "ingress_port")) ∷ assign h_y (sm_octet (codes "packet_length"))
          ∷ assign h_z (cast (Bit (number 16)) (sm (codes "egress_port"))) ∷ []))
          ∷ [];
    }

clone_has_ports_and_length : told (ran_from 6 (with_session (program tells_ports_and_length)) packet) ≡ sends_both 3 packet 9 (6 ∷ 77 ∷ 0 ∷ 9 ∷ []) 17
unfolding num bits run signature16 control16 parse16 ingress16 reparse16 egress16 Run16
clone_has_ports_and_length = refl

-- The parser stopped with PacketTooShort, and the clone's `parser_error` is NoError: where it is, x becomes 1.
clone_has_no_error : leaves_with_session (record small { states = state (codes "start") (extract (hdr (codes "h")) ∷ extract (hdr (codes "i")) ∷ []) accept ∷ []; egress = if_then (is_kind 0) clones_of_egress ∷ if_then (is_error (codes "NoError")) (assign h_x (n 8 1)) ∷ [] }) ≡ sends_both 3 packet 9 (1 ∷ 0x34 ∷ 0 ∷ 0 ∷ []) 15
unfolding num bits run signature16 control16 parse16 ingress16 reparse16 egress16 Run16
clone_has_no_error = refl

-- compute

-- a clone has the headers in front of compute, which runs in its own pass: both packets leave with y + 1
clones_before_it_computes : leaves_with_session (record small { egress = if_then (is_kind 0) clones_of_egress ∷ []; compute = adds_1_to_y ∷ [] }) ≡ sends_both 3 (0x12 ∷ 0x35 ∷ 0 ∷ 0 ∷ []) 9 (0x12 ∷ 0x35 ∷ 0 ∷ 0 ∷ []) 14
unfolding num bits run signature16 control16 parse16 ingress16 reparse16 egress16 Run16
clones_before_it_computes = refl

-- the sum of a clone is over the octets that it carries too: update_checksum_with_payload(true, { x, y }, z, csum16) over 00 01
clone_is_summed_with_payload : outcome (with_session (program (record small { egress = if_then (is_kind 0) clones_of_egress ∷ []; compute = does (calls (codes "update_checksum_with_payload") (truth true ∷ listed (given (h_x ∷ h_y ∷ [])) ∷ h_z ∷ algorithm (codes "csum16") ∷ [])) ∷ [] }))) (0x12 ∷ 0x34 ∷ 0 ∷ 0 ∷ 0 ∷ 1 ∷ []) ≡ sends_both 3 (0x12 ∷ 0x34 ∷ 0xed ∷ 0xca ∷ 0 ∷ 1 ∷ []) 9 (0x12 ∷ 0x34 ∷ 0xed ∷ 0xca ∷ 0 ∷ 1 ∷ []) 14
unfolding num bits run signature16 control16 parse16 ingress16 reparse16 egress16 Run16
clone_is_summed_with_payload = refl

-- a recirculated packet has those behind it, and is computed again
recirculates_what_was_computed : leaves (record small { egress = if_then (is_kind 0) (recirculates_with 1) ∷ []; compute = adds_1_to_y ∷ [] }) ≡ sends 3 (0x12 ∷ 0x36 ∷ 0 ∷ 0 ∷ []) 17
unfolding num bits run signature16 control16 parse16 ingress16 reparse16 egress16 Run16
recirculates_what_was_computed = refl

-- what compute writes to metadata isn't preserved: k is 5 in egress and 9 in compute
preserves_in_front_of_compute : leaves (record small { egress = if_else (is_kind 0) (all_of (assign k (n 8 5) ∷ recirculates_with 1 ∷ [])) (assign h_x k) ∷ []; compute = assign k (n 8 9) ∷ [] }) ≡ sends 3 (5 ∷ 0x34 ∷ 0 ∷ 0 ∷ []) 19
unfolding num bits run signature16 control16 parse16 ingress16 reparse16 egress16 Run16
preserves_in_front_of_compute = refl

-- its length is that of what was put together: hdr.i becomes valid in the first pass, and x is the length in the second
counts_what_was_put_together : outcome (plainly (program (record small { egress = if_else (is_kind 0) (all_of (does (method (hdr (codes "i")) (codes "setValid") []) ∷ recirculates_with 0 ∷ [])) (assign h_x (sm_octet (codes "packet_length"))) ∷ [] }))) (0x12 ∷ 0x34 ∷ 0 ∷ 0 ∷ 0xff ∷ []) ≡ sends 3 (9 ∷ 0x34 ∷ 0 ∷ 0 ∷ 0 ∷ 0 ∷ 0 ∷ 0 ∷ 0xff ∷ []) 17
unfolding num bits run signature16 control16 parse16 ingress16 reparse16 egress16 Run16
counts_what_was_put_together = refl

-- what a list preserves

-- no field bears list 2: the packet is resubmitted, and k is 0 again
no_field_bears_it : leaves (doing (if_then (is_kind 0) (all_of (assign k (n 8 5) ∷ resubmits_with 2 ∷ [])) ∷ assign h_x k ∷ [])) ≡ sends 3 (0 ∷ 0x34 ∷ 0 ∷ 0 ∷ []) 15
unfolding num bits run signature16 control16 parse16 ingress16 reparse16 egress16 Run16
no_field_bears_it = refl

-- struct in_t { @field_list(1) bit<8> a; bit<8> b; }
-- struct ms { bit<8> k; in_t n; @field_list(1) in_t o; }
-- A list preserves the bits whose own declaration bears it, also within structs, and a note on a struct preserves nothing more.
abbrev nested : List StructField
nested =
    struct_field (bits_type 8) (codes "k") ∷ struct_field (named (codes "in_t")) (codes "n")
    ∷ record { notes = note.FieldList (number 1 ∷ []) ∷ []; of = named (codes "in_t"); name = codes "o" } ∷ []

abbrev nested_types : List Decl16
nested_types =
    decl.Struct (record { name = codes "in_t"; fields = listed_field 1 (bits_type 8) (codes "a") ∷ struct_field (bits_type 8) (codes "b") ∷ [] })
    ∷ types_with nested

abbrev in_n : List ℕ → Exp16
in_n text = member (meta (codes "n")) text

abbrev in_o : List ℕ → Exp16
in_o text = member (meta (codes "o")) text

-- n = (2, 3), o = (4, 5) and resubmit; then x = n.a; y = n.b; z = o.a ++ o.b;
preserves_within_structs : leaves (record (doing (if_else (is_kind 0) (all_of (assign k (n 8 1) ∷ assign (in_n (codes "a")) (n 8 2) ∷ assign (in_n (codes "b")) (n 8 3) ∷ assign (in_o (codes "a")) (n 8 4) ∷ assign (in_o (codes "b")) (n 8 5) ∷ resubmits_with 1 ∷ [])) (all_of (assign h_x (in_n (codes "a")) ∷ assign h_y (in_n (codes "b")) ∷ assign h_z (binary Concatenate (in_o (codes "a")) (in_o (codes "b"))) ∷ [])) ∷ [])) { types = nested_types }) ≡ sends 3 (2 ∷ 0 ∷ 4 ∷ 0 ∷ []) 20
unfolding num bits run signature16 control16 parse16 ingress16 reparse16 egress16 Run16
preserves_within_structs = refl
