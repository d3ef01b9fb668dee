-- Headers, stacks, variables, and actions with their arguments. The packet is 12 34 00 00: x is 0x12, y is 0x34, z is 0. A
-- program without statements of its own counts 6: `extract`, the transition, the assignment of the port and three `emit`.
use Rattle.std.proofs.Common.{◌≡◌, ℕ, List, [], ◌∷◌, refl}
use Rattle.std.specs.Prelude.{codes, Some}
use Rattle.p4x_bits.specs.BitLists.{num, bits}
use Rattle.fabric.specs.Queue.{run}
use Rattle.p416_syntax.specs.declared.parts.Type16.TheVariants.{Named}
use Rattle.p416_syntax.specs.declared.parts.Direction.TheVariants.{In, Out, InOut}
use Rattle.p416_syntax.specs.declared.controls.Local.{Local}
use Rattle.p416_syntax.specs.declared.node.BinaryOperator.TheVariants.{Add, SaturatingAdd, ShiftRight}
use Rattle.p416_syntax.specs.declared.node.CastType.TheVariants.{Bit}
use Rattle.p416_syntax.specs.Tree.{Exp16, member, index, slice, cast, binary, choice, Stmt16, assign, block, empty, if_then, if_else, var, var_is}
use Rattle.v1_core.specs.Signatures.{signature16}
use Rattle.v1_core.specs.Blocks.{control16}
use Rattle.v1_core.specs.Parsing.{parse16}
use Rattle.v1_core.specs.Passes.{ingress16, reparse16, egress16}
use Rattle.v1_core.specs.Runs.{Run16}
use Rattle.v1_sem_examples.specs.Parts.{n, number, plain, bits_type, param, hdr, field, meta, action, method, calls, does, extract, state, accept, statements, var as variable}
use Rattle.v1_sem_examples.specs.Samples.{Sample, small, doing, program, h_x, h_y, h_z, packet}
use Rattle.v1_sem_examples.specs.Packets.{Outcome, plainly, outcome, sends, sends_of}

abbrev i_x : Exp16
i_x = field (codes "i") (codes "x")

-- headers

does_nothing : sends_of [] ≡ sends 3 (0x12 ∷ 0x34 ∷ 0 ∷ 0 ∷ []) 6
unfolding num bits run signature16 control16 parse16 ingress16 reparse16 egress16 Run16
does_nothing = refl

-- a write to a field of an invalid header does nothing, and it reads 0
writes_invalid : sends_of (assign i_x (n 8 5) ∷ assign h_y i_x ∷ []) ≡ sends 3 (0x12 ∷ 0 ∷ 0 ∷ 0 ∷ []) 8
unfolding num bits run signature16 control16 parse16 ingress16 reparse16 egress16 Run16
writes_invalid = refl

-- what was written while the header was invalid isn't there when it becomes valid
written_before_valid : sends_of (assign i_x (n 8 5) ∷ does (method (hdr (codes "i")) (codes "setValid") []) ∷ []) ≡ sends 3 (0x12 ∷ 0x34 ∷ 0 ∷ 0 ∷ 0 ∷ 0 ∷ 0 ∷ 0 ∷ []) 8
unfolding num bits run signature16 control16 parse16 ingress16 reparse16 egress16 Run16
written_before_valid = refl

-- `setValid` of a valid header keeps its fields
set_valid_twice : sends_of (does (method (hdr (codes "i")) (codes "setValid") []) ∷ assign i_x (n 8 7) ∷ does (method (hdr (codes "i")) (codes "setValid") []) ∷ []) ≡ sends 3 (0x12 ∷ 0x34 ∷ 0 ∷ 0 ∷ 7 ∷ 0 ∷ 0 ∷ 0 ∷ []) 9
unfolding num bits run signature16 control16 parse16 ingress16 reparse16 egress16 Run16
set_valid_twice = refl

-- `setInvalid` and `setValid`: the fields are 0
invalid_and_valid : sends_of (does (method (hdr (codes "h")) (codes "setInvalid") []) ∷ does (method (hdr (codes "h")) (codes "setValid") []) ∷ []) ≡ sends 3 (0 ∷ 0 ∷ 0 ∷ 0 ∷ []) 8
unfolding num bits run signature16 control16 parse16 ingress16 reparse16 egress16 Run16
invalid_and_valid = refl

-- a header is assigned with its validity, both ways
assigns_header : sends_of (assign (hdr (codes "i")) (hdr (codes "h")) ∷ []) ≡ sends 3 (0x12 ∷ 0x34 ∷ 0 ∷ 0 ∷ 0x12 ∷ 0x34 ∷ 0 ∷ 0 ∷ []) 7
unfolding num bits run signature16 control16 parse16 ingress16 reparse16 egress16 Run16
assigns_header = refl

assigns_invalid_header : sends_of (assign (hdr (codes "h")) (hdr (codes "i")) ∷ []) ≡ sends 3 [] 7
unfolding num bits run signature16 control16 parse16 ingress16 reparse16 egress16 Run16
assigns_invalid_header = refl

-- hdr.h.z = hdr.i.isValid() ? 16w1 : 16w2;
asks_validity : sends_of (assign h_z (choice (method (hdr (codes "i")) (codes "isValid") []) (n 16 1) (n 16 2)) ∷ []) ≡ sends 3 (0x12 ∷ 0x34 ∷ 0 ∷ 2 ∷ []) 7
unfolding num bits run signature16 control16 parse16 ingress16 reparse16 egress16 Run16
asks_validity = refl

-- numbers, slices and casts

-- a number without a width has that of its place: 255 + 1 is 0 and 255 |+| 1 is 255 at 8 bits
takes_width_of_target : sends_of (assign h_x (binary Add (plain 255) (plain 1)) ∷ assign h_y (binary SaturatingAdd (plain 255) (plain 1)) ∷ []) ≡ sends 3 (0 ∷ 255 ∷ 0 ∷ 0 ∷ []) 8
unfolding num bits run signature16 control16 parse16 ingress16 reparse16 egress16 Run16
takes_width_of_target = refl

-- what is shifted has the width of its place too: (255 + 1) >> 8w1 is 0 at 8 bits
shifts_at_width_of_target : sends_of (assign h_x (binary ShiftRight (binary Add (plain 255) (plain 1)) (n 8 1)) ∷ []) ≡ sends 3 (0 ∷ 0x34 ∷ 0 ∷ 0 ∷ []) 7
unfolding num bits run signature16 control16 parse16 ingress16 reparse16 egress16 Run16
shifts_at_width_of_target = refl

-- hdr.h.z[11:4] = hdr.h.y; hdr.h.x = hdr.h.z[11:4];
slices_both_ways : sends_of (assign (slice h_z (number 11) (number 4)) h_y ∷ assign h_x (slice h_z (number 11) (number 4)) ∷ []) ≡ sends 3 (0x34 ∷ 0x34 ∷ 0x03 ∷ 0x40 ∷ []) 8
unfolding num bits run signature16 control16 parse16 ingress16 reparse16 egress16 Run16
slices_both_ways = refl

-- hdr.h.z[11:4][7:4] = 4w9: a slice of a slice
slices_a_slice : sends_of (assign (slice (slice h_z (number 11) (number 4)) (number 7) (number 4)) (n 4 9) ∷ []) ≡ sends 3 (0x12 ∷ 0x34 ∷ 0x09 ∷ 0 ∷ []) 7
unfolding num bits run signature16 control16 parse16 ingress16 reparse16 egress16 Run16
slices_a_slice = refl

-- hdr.i.x[3:0] = 4w9 where hdr.i is invalid
slices_invalid : sends_of (assign (slice i_x (number 3) (number 0)) (n 4 9) ∷ assign h_y i_x ∷ []) ≡ sends 3 (0x12 ∷ 0 ∷ 0 ∷ 0 ∷ []) 8
unfolding num bits run signature16 control16 parse16 ingress16 reparse16 egress16 Run16
slices_invalid = refl

-- hdr.h.x = (bit<8>) 16w0x1234;
casts : sends_of (assign h_x (cast (Bit (number 8)) (n 16 0x1234)) ∷ []) ≡ sends 3 (0x34 ∷ 0x34 ∷ 0 ∷ 0 ∷ []) 7
unfolding num bits run signature16 control16 parse16 ingress16 reparse16 egress16 Run16
casts = refl

-- variables

-- bit<8> v; hdr.h.x = v; a variable starts at 0, and its declaration counts nothing
starts_at_0 : sends_of (var (bits_type 8) (codes "v") ∷ assign h_x (variable (codes "v")) ∷ []) ≡ sends 3 (0 ∷ 0x34 ∷ 0 ∷ 0 ∷ []) 7
unfolding num bits run signature16 control16 parse16 ingress16 reparse16 egress16 Run16
starts_at_0 = refl

-- bit<8> v = 1; { bit<8> v = 2; hdr.h.x = v; v = 3; } hdr.h.y = v; an inner variable hides the outer one
hides : sends_of (var_is (bits_type 8) (codes "v") (n 8 1) ∷ block (statements (var_is (bits_type 8) (codes "v") (n 8 2) ∷ assign h_x (variable (codes "v")) ∷ assign (variable (codes "v")) (n 8 3) ∷ [])) ∷ assign h_y (variable (codes "v")) ∷ []) ≡ sends 3 (2 ∷ 1 ∷ 0 ∷ 0 ∷ []) 11
unfolding num bits run signature16 control16 parse16 ingress16 reparse16 egress16 Run16
hides = refl

-- a branch without braces is a scope by itself, and empty statements count nothing
branch_is_a_scope : sends_of (empty ∷ var_is (bits_type 8) (codes "v") (n 8 1) ∷ if_then (method (hdr (codes "h")) (codes "isValid") []) (var_is (bits_type 8) (codes "v") (n 8 2)) ∷ assign h_y (variable (codes "v")) ∷ []) ≡ sends 3 (0x12 ∷ 1 ∷ 0 ∷ 0 ∷ []) 10
unfolding num bits run signature16 control16 parse16 ingress16 reparse16 egress16 Run16
branch_is_a_scope = refl

takes_the_other_branch : sends_of (if_else (method (hdr (codes "i")) (codes "isValid") []) (assign h_x (n 8 1)) (assign h_x (n 8 2)) ∷ []) ≡ sends 3 (2 ∷ 0x34 ∷ 0 ∷ 0 ∷ []) 8
unfolding num bits run signature16 control16 parse16 ingress16 reparse16 egress16 Run16
takes_the_other_branch = refl

-- metadata
keeps_metadata : sends_of (assign (meta (codes "l")) h_x ∷ assign h_y (meta (codes "l")) ∷ []) ≡ sends 3 (0x12 ∷ 0x12 ∷ 0 ∷ 0 ∷ []) 8
unfolding num bits run signature16 control16 parse16 ingress16 reparse16 egress16 Run16
keeps_metadata = refl

-- stacks: both elements are extracted, of one octet each

abbrev next : Exp16
next = member (hdr (codes "s")) (codes "next")

abbrev element : ℕ → Exp16
element i = member (index (hdr (codes "s")) (number i)) (codes "v")

abbrev stacked : List Stmt16 → Sample
stacked xs =
    record small { states = state (codes "start") (extract next ∷ extract next ∷ []) accept ∷ []; ingress = xs }

abbrev sends_stack : List Stmt16 → Outcome
sends_stack xs = outcome (plainly (program (stacked xs))) (7 ∷ 8 ∷ 9 ∷ [])

-- on port 0, where no statement asks for another one
keeps_elements : sends_stack [] ≡ sends 0 (7 ∷ 8 ∷ 9 ∷ []) 6
unfolding num bits run signature16 control16 parse16 ingress16 reparse16 egress16 Run16
keeps_elements = refl

-- the first element is invalid, the others moved up, and the last one is lost
pushes : sends_stack (does (method (hdr (codes "s")) (codes "push_front") (plain 1 ∷ [])) ∷ []) ≡ sends 0 (7 ∷ 9 ∷ []) 7
unfolding num bits run signature16 control16 parse16 ingress16 reparse16 egress16 Run16
pushes = refl

pushes_all : sends_stack (does (method (hdr (codes "s")) (codes "push_front") (plain 5 ∷ [])) ∷ []) ≡ sends 0 (9 ∷ []) 7
unfolding num bits run signature16 control16 parse16 ingress16 reparse16 egress16 Run16
pushes_all = refl

-- what was pushed is invalid: a write does nothing
pushes_invalid : sends_stack (does (method (hdr (codes "s")) (codes "push_front") (plain 1 ∷ [])) ∷ assign (element 0) (n 8 1) ∷ []) ≡ sends 0 (7 ∷ 9 ∷ []) 8
unfolding num bits run signature16 control16 parse16 ingress16 reparse16 egress16 Run16
pushes_invalid = refl

pops : sends_stack (does (method (hdr (codes "s")) (codes "pop_front") (plain 1 ∷ [])) ∷ []) ≡ sends 0 (8 ∷ 9 ∷ []) 7
unfolding num bits run signature16 control16 parse16 ingress16 reparse16 egress16 Run16
pops = refl

pops_none : sends_stack (does (method (hdr (codes "s")) (codes "pop_front") (plain 0 ∷ [])) ∷ []) ≡ sends 0 (7 ∷ 8 ∷ 9 ∷ []) 7
unfolding num bits run signature16 control16 parse16 ingress16 reparse16 egress16 Run16
pops_none = refl

writes_element : sends_stack (assign (element 1) (element 0) ∷ []) ≡ sends 0 (7 ∷ 7 ∷ 9 ∷ []) 7
unfolding num bits run signature16 control16 parse16 ingress16 reparse16 egress16 Run16
writes_element = refl

-- e_t[2] t; p.extract(hdr.s.next); t = hdr.s; p.extract(t.next); hdr.s = t; hdr.s.last.v = 8w0xf; each assignment takes the
-- place of the stack with it, and so does the second one
abbrev with_place : Sample
with_place =
    record small {
      states =
          state (codes "start")
          (var (Named (codes "e_t") (Some (number 2))) (codes "t") ∷ extract next
          ∷ assign (variable (codes "t")) (hdr (codes "s")) ∷ extract (member (variable (codes "t")) (codes "next"))
          ∷ assign (hdr (codes "s")) (variable (codes "t"))
          ∷ assign (member (member (hdr (codes "s")) (codes "last")) (codes "v")) (n 8 15) ∷ [])
          accept
          ∷ [];
    }

assigns_place : outcome (plainly (program with_place)) (7 ∷ 8 ∷ 9 ∷ []) ≡ sends 3 (7 ∷ 15 ∷ 9 ∷ []) 10
unfolding num bits run signature16 control16 parse16 ingress16 reparse16 egress16 Run16
assigns_place = refl

-- actions

-- action a(inout bit<8> p, inout bit<8> q) { p = 1; q = 2; }
-- action b(inout bit<8> p, inout bit<8> q) { a(q, p); }
-- action c(in bit<8> v, inout bit<8> w) { w = 9; hdr.h.y = v; }
-- action d(out bit<8> v) { hdr.h.y = v; }
-- action e(inout bit<8> v) { bit<8> v = 5; hdr.h.y = v; }
abbrev by_name : List ℕ → Exp16
by_name text = variable text

abbrev actions : List Local
actions =
    action (codes "a") (param (Some InOut) (bits_type 8) (codes "p") ∷ param (Some InOut) (bits_type 8) (codes "q") ∷ [])
    (statements (assign (by_name (codes "p")) (n 8 1) ∷ assign (by_name (codes "q")) (n 8 2) ∷ []))
    ∷ action (codes "b") (param (Some InOut) (bits_type 8) (codes "p") ∷ param (Some InOut) (bits_type 8) (codes "q") ∷ [])
    (statements (does (calls (codes "a") (by_name (codes "q") ∷ by_name (codes "p") ∷ [])) ∷ []))
    ∷ action (codes "c") (param (Some In) (bits_type 8) (codes "v") ∷ param (Some InOut) (bits_type 8) (codes "w") ∷ [])
    (statements (assign (by_name (codes "w")) (n 8 9) ∷ assign h_y (by_name (codes "v")) ∷ []))
    ∷ action (codes "d") (param (Some Out) (bits_type 8) (codes "v") ∷ [])
    (statements (assign h_y (by_name (codes "v")) ∷ []))
    ∷ action (codes "e") (param (Some InOut) (bits_type 8) (codes "v") ∷ [])
    (statements (block (statements (var_is (bits_type 8) (codes "v") (n 8 5) ∷ assign h_y (by_name (codes "v")) ∷ [])) ∷ []))
    ∷ []

abbrev calling : List Stmt16 → Outcome
calling xs = outcome (plainly (program (record (doing xs) { ingress_locals = actions }))) packet

-- a(hdr.h.x, hdr.h.x): what is copied out last stays
copies_out_in_order : calling (does (calls (codes "a") (h_x ∷ h_x ∷ [])) ∷ []) ≡ sends 3 (2 ∷ 0x34 ∷ 0 ∷ 0 ∷ []) 9
unfolding num bits run signature16 control16 parse16 ingress16 reparse16 egress16 Run16
copies_out_in_order = refl

-- b(hdr.h.x, hdr.h.x): inside, q becomes 1 and p becomes 2; then p and q are copied out in this order
copies_out_of_nested_calls : calling (does (calls (codes "b") (h_x ∷ h_x ∷ [])) ∷ []) ≡ sends 3 (1 ∷ 0x34 ∷ 0 ∷ 0 ∷ []) 10
unfolding num bits run signature16 control16 parse16 ingress16 reparse16 egress16 Run16
copies_out_of_nested_calls = refl

-- c(hdr.h.x, hdr.h.x): the first parameter has what was copied in
copies_in : calling (does (calls (codes "c") (h_x ∷ h_x ∷ [])) ∷ []) ≡ sends 3 (9 ∷ 0x12 ∷ 0 ∷ 0 ∷ []) 9
unfolding num bits run signature16 control16 parse16 ingress16 reparse16 egress16 Run16
copies_in = refl

-- d(hdr.h.x): an `out` parameter starts at 0, and is copied out though nothing was written to it
out_starts_at_0 : calling (does (calls (codes "d") (h_x ∷ [])) ∷ []) ≡ sends 3 (0 ∷ 0 ∷ 0 ∷ 0 ∷ []) 8
unfolding num bits run signature16 control16 parse16 ingress16 reparse16 egress16 Run16
out_starts_at_0 = refl

-- e(hdr.h.x): what hides the parameter isn't copied out
hidden_parameter : calling (does (calls (codes "e") (h_x ∷ [])) ∷ []) ≡ sends 3 (0x12 ∷ 5 ∷ 0 ∷ 0 ∷ []) 9
unfolding num bits run signature16 control16 parse16 ingress16 reparse16 egress16 Run16
hidden_parameter = refl

-- bit<8> v = 6; a(v, hdr.h.y); hdr.h.x = v: variables of the statement that calls are there again behind the call
variables_again : calling (var_is (bits_type 8) (codes "v") (n 8 6) ∷ does (calls (codes "a") (variable (codes "v") ∷ h_y ∷ [])) ∷ assign h_x (variable (codes "v")) ∷ []) ≡ sends 3 (1 ∷ 2 ∷ 0 ∷ 0 ∷ []) 11
unfolding num bits run signature16 control16 parse16 ingress16 reparse16 egress16 Run16
variables_again = refl

-- a(hdr.h.z[15:8], hdr.h.z[7:0]): slices are copied in and out
copies_slices : calling (does (calls (codes "a") (slice h_z (number 15) (number 8) ∷ slice h_z (number 7) (number 0) ∷ [])) ∷ []) ≡ sends 3 (0x12 ∷ 0x34 ∷ 1 ∷ 2 ∷ []) 9
unfolding num bits run signature16 control16 parse16 ingress16 reparse16 egress16 Run16
copies_slices = refl
