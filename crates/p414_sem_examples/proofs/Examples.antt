-- The definitions, computed on packets: what each program sends. The octets that stand behind `Some` are worked out by
-- hand. The packet of the programs with the header f is 12 34 00 00, so x is 0x1234, and y and z are 0.
use Rattle.std.proofs.Common.{◌≡◌, ℕ, List, [], ◌∷◌, Option, Some, None, refl}
use Rattle.std.specs.Prelude.{codes}
use Rattle.p4x_bits.specs.BitLists.{num, bits}
use Rattle.p414_syntax.specs.declared.actions.Call.{Call}
use Rattle.p414_syntax.specs.declared.syntax.Decl.{Decl}
use Rattle.p414_syntax.specs.declared.syntax.Rule14.{Rule14}
use Rattle.p414_syntax.specs.declared.syntax.Rule14.TheVariants.{Sequential, Parallel}
use Rattle.p414_sem.specs.Parsing.{parsed}
use Rattle.p414_sem.specs.Signatures.{signature14}
use Rattle.p414_sem.specs.Passes.{ingress14, egress14}
use Rattle.p414_sem_examples.specs.Parts.{call, n, minus, at, by_name, field}
use Rattle.p414_sem_examples.specs.Programs.{simply, four, p3, p3_saturating, applies_t, register_r, meter_m, list_l, calculation_c, swap, labels}
use Rattle.p414_sem_examples.specs.Packets.{setting, sent, sent_second}

abbrev packet : List ℕ
packet = 0x12 ∷ 0x34 ∷ 0 ∷ 0 ∷ []

-- what a program with the header f does with the packet
abbrev sends : List Decl → Rule14 → Option (ℕ × List ℕ)
sends ds rule = sent (setting ds (simply ds applies_t) rule []) packet

-- on port 3, with this y
abbrev on_3 : ℕ → Option (ℕ × List ℕ)
on_3 y = Some (3, 0x12 ∷ 0x34 ∷ y ∷ 0 ∷ [])

-- shift_right(f.y, f.x, 4)
shifts_right : sends (p3 (call (codes "shift_right") (at (codes "f") (codes "y") ∷ at (codes "f") (codes "x") ∷ n 4 ∷ []) ∷ [])) Sequential ≡ on_3 0x23
unfolding num bits parsed signature14 ingress14 egress14
shifts_right = refl

-- add_to_field(f.y, -1)
adds_minus_1 : sends (p3 (call (codes "add_to_field") (at (codes "f") (codes "y") ∷ minus 1 ∷ []) ∷ [])) Sequential ≡ on_3 0xff
unfolding num bits parsed signature14 ingress14 egress14
adds_minus_1 = refl

-- add(f.y, f.x, 1), where y is saturating and where it isn't
abbrev add_x_and_1 : Call
add_x_and_1 = call (codes "add") (at (codes "f") (codes "y") ∷ at (codes "f") (codes "x") ∷ n 1 ∷ [])

saturates : sends (p3_saturating (add_x_and_1 ∷ [])) Sequential ≡ on_3 0xff
unfolding num bits parsed signature14 ingress14 egress14
saturates = refl

saturates_in_parallel : sends (p3_saturating (add_x_and_1 ∷ [])) Parallel ≡ on_3 0xff
unfolding num bits parsed signature14 ingress14 egress14
saturates_in_parallel = refl

wraps : sends (p3 (add_x_and_1 ∷ [])) Sequential ≡ on_3 0x35
unfolding num bits parsed signature14 ingress14 egress14
wraps = refl

-- add_to_field(f.y, -1) and subtract(f.y, 3, -4), where y is saturating
saturates_at_0 : sends (p3_saturating (call (codes "add_to_field") (at (codes "f") (codes "y") ∷ minus 1 ∷ []) ∷ [])) Sequential ≡ on_3 0
unfolding num bits parsed signature14 ingress14 egress14
saturates_at_0 = refl

subtracts_a_negative : sends (p3_saturating (call (codes "subtract") (at (codes "f") (codes "y") ∷ n 3 ∷ minus 4 ∷ []) ∷ [])) Sequential ≡ on_3 7
unfolding num bits parsed signature14 ingress14 egress14
subtracts_a_negative = refl

-- modify_field(f.y, f.x) is no sum
modifies_saturating : sends (p3_saturating (call (codes "modify_field") (at (codes "f") (codes "y") ∷ at (codes "f") (codes "x") ∷ []) ∷ [])) Sequential ≡ on_3 0x34
unfolding num bits parsed signature14 ingress14 egress14
modifies_saturating = refl

-- modify_field(f.y, -1, 0x3c)
modifies_on_mask : sends (p3 (call (codes "modify_field") (at (codes "f") (codes "y") ∷ minus 1 ∷ n 0x3c ∷ []) ∷ [])) Sequential ≡ on_3 0x3c
unfolding num bits parsed signature14 ingress14 egress14
modifies_on_mask = refl

-- bit_xor(f.y, f.x, -1)
turns_bits_round : sends (p3 (call (codes "bit_xor") (at (codes "f") (codes "y") ∷ at (codes "f") (codes "x") ∷ minus 1 ∷ []) ∷ [])) Sequential ≡ on_3 0xcb
unfolding num bits parsed signature14 ingress14 egress14
turns_bits_round = refl

-- remove_header(f); add_header(f): sequentially the fields become 0; in parallel the header was valid at the entry, so
-- that add_header does nothing, and the header leaves the packet
abbrev removes_and_adds : List Decl
removes_and_adds =
    p3 (call (codes "remove_header") (by_name (codes "f") ∷ []) ∷ call (codes "add_header") (by_name (codes "f") ∷ []) ∷ [])

adds_again : sends removes_and_adds Sequential ≡ Some (3, 0 ∷ 0 ∷ 0 ∷ 0 ∷ [])
unfolding num bits parsed signature14 ingress14 egress14
adds_again = refl

adds_nothing : sends removes_and_adds Parallel ≡ Some (3, [])
unfolding num bits parsed signature14 ingress14 egress14
adds_nothing = refl

-- register_write(r, 0, 5); register_read(f.y, r, 0): in parallel the read sees the cell of the action's entry
abbrev with_register : List Decl
with_register =
    four (field (codes "y") 8)
    (call (codes "register_write") (by_name (codes "r") ∷ n 0 ∷ n 5 ∷ [])
    ∷ call (codes "register_read") (at (codes "f") (codes "y") ∷ by_name (codes "r") ∷ n 0 ∷ [])
    ∷ [])
    (register_r ∷ [])

reads_what_is_written : sends with_register Sequential ≡ on_3 5
unfolding num bits parsed signature14 ingress14 egress14
reads_what_is_written = refl

reads_the_entry : sends with_register Parallel ≡ on_3 0
unfolding num bits parsed signature14 ingress14 egress14
reads_the_entry = refl

reads_what_stays : sent_second (setting with_register (simply with_register applies_t) Parallel []) packet ≡ on_3 5
unfolding num bits parsed signature14 ingress14 egress14
reads_what_stays = refl

-- execute_meter(m, 0, f.y) with the colours 2 and 1
abbrev with_meter : List Decl
with_meter =
    four (field (codes "y") 8)
    (call (codes "execute_meter") (by_name (codes "m") ∷ n 0 ∷ at (codes "f") (codes "y") ∷ []) ∷ [])
    (meter_m ∷ [])

takes_a_colour : sent (setting with_meter (simply with_meter applies_t) Sequential (2 ∷ 1 ∷ [])) packet ≡ on_3 2
unfolding num bits parsed signature14 ingress14 egress14
takes_a_colour = refl

takes_the_next : sent_second (setting with_meter (simply with_meter applies_t) Parallel (2 ∷ 1 ∷ [])) packet ≡ on_3 1
unfolding num bits parsed signature14 ingress14 egress14
takes_the_next = refl

-- modify_field_with_hash_based_offset(f.y, 10, c, 7): 0x1234 modulo 7 is 5
abbrev with_hash : List Decl
with_hash =
    four (field (codes "y") 8)
    (call (codes "modify_field_with_hash_based_offset") (at (codes "f") (codes "y") ∷ n 10 ∷ by_name (codes "c") ∷ n 7 ∷ [])
    ∷ [])
    (list_l ∷ calculation_c ∷ [])

hashes : sends with_hash Sequential ≡ on_3 15
unfolding num bits parsed signature14 ingress14 egress14
hashes = refl

-- modify_field(eth.a, eth.b); modify_field(eth.b, eth.a)
abbrev frame : List ℕ
frame = 0 ∷ 0 ∷ 0 ∷ 0 ∷ 0 ∷ 1 ∷ 0 ∷ 0 ∷ 0 ∷ 0 ∷ 0 ∷ 2 ∷ 0x0d ∷ 0x0e ∷ []

copies : sent (setting swap (simply swap applies_t) Sequential []) frame ≡ Some (3, 0 ∷ 0 ∷ 0 ∷ 0 ∷ 0 ∷ 2 ∷ 0 ∷ 0 ∷ 0 ∷ 0 ∷ 0 ∷ 2 ∷ 0x0d ∷ 0x0e ∷ [])
unfolding num bits parsed signature14 ingress14 egress14
copies = refl

exchanges : sent (setting swap (simply swap applies_t) Parallel []) frame ≡ Some (3, 0 ∷ 0 ∷ 0 ∷ 0 ∷ 0 ∷ 2 ∷ 0 ∷ 0 ∷ 0 ∷ 0 ∷ 0 ∷ 1 ∷ 0x0d ∷ 0x0e ∷ [])
unfolding num bits parsed signature14 ingress14 egress14
exchanges = refl

-- a frame one octet short is dropped
drops_short : sent (setting swap (simply swap applies_t) Sequential []) (0 ∷ 0 ∷ 0 ∷ 0 ∷ 0 ∷ 1 ∷ 0 ∷ 0 ∷ 0 ∷ 0 ∷ 0 ∷ 2 ∷ 0x0d ∷ []) ≡ None
unfolding num bits parsed signature14 ingress14 egress14
drops_short = refl

-- the stack of two labels: 02 07 fills it, and 02 04 07 asks for a third element
labels_leave : sent (setting labels (simply labels applies_t) Sequential []) (2 ∷ 7 ∷ []) ≡ Some (3, 2 ∷ 7 ∷ [])
unfolding num bits parsed signature14 ingress14 egress14
labels_leave = refl

labels_overflow : sent (setting labels (simply labels applies_t) Sequential []) (2 ∷ 4 ∷ 7 ∷ []) ≡ None
unfolding num bits parsed signature14 ingress14 egress14
labels_overflow = refl
