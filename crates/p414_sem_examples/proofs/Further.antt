-- Ends of widths, indices and stacks, and what is lost.
use Rattle.std.proofs.Common.{◌≡◌, ℕ, List, [], ◌∷◌, Option, Some, None, refl}
use Rattle.std.specs.Prelude.{codes}
use Rattle.p4x_bits.specs.BitLists.{num, bits}
use Rattle.state_store.specs.State.{Contents}
use Rattle.state_store.specs.State.{pair, read as cell_of}
use Rattle.p414_syntax.specs.declared.actions.Call.{Call}
use Rattle.p414_syntax.specs.declared.objects.CounterType.TheVariants.{PacketsAndBytes}
use Rattle.p414_syntax.specs.declared.objects.StateAttr.TheVariants as state_attr
use Rattle.p414_syntax.specs.declared.parsers.PValue.TheVariants as pvalue
use Rattle.p414_syntax.specs.declared.parsers.Masked.{Masked}
use Rattle.p414_syntax.specs.declared.parsers.CaseValues.TheVariants as case_values
use Rattle.p414_syntax.specs.declared.parsers.CaseTarget.TheVariants as case_target
use Rattle.p414_syntax.specs.declared.parsers.Case.{Case}
use Rattle.p414_syntax.specs.declared.parsers.Return.TheVariants as end_of
use Rattle.p414_syntax.specs.declared.syntax.Decl.{Decl}
use Rattle.p414_syntax.specs.declared.syntax.Decl.TheVariants as decl
use Rattle.p414_syntax.specs.declared.syntax.Rule14.{Rule14}
use Rattle.p414_syntax.specs.declared.syntax.Rule14.TheVariants.{Sequential, Parallel}
use Rattle.p414_sem.specs.Parsing.{parsed}
use Rattle.p414_sem.specs.Signatures.{signature14}
use Rattle.p414_sem.specs.Passes.{ingress14, egress14}
use Rattle.p414_sem.specs.Controls.{Setting}
use Rattle.p414_sem_examples.specs.Parts.{plain, named, of, call, n, minus, at, by_name, field, to_port_3, type, header, state, action, table}
use Rattle.p414_sem_examples.specs.Programs.{simply, four, p3, p3_saturating, applies_t, register_r, meter_m, list_l, calculation_c, next_label, bos_is_1, else_start}
use Rattle.p414_sem_examples.specs.Packets.{setting, first, pass, sent}

abbrev packet : List ℕ
packet = 0x12 ∷ 0x34 ∷ 0 ∷ 0 ∷ []

abbrev sends : List Decl → Rule14 → Option (ℕ × List ℕ)
sends ds rule = sent (setting ds (simply ds applies_t) rule []) packet

abbrev on_3 : ℕ → Option (ℕ × List ℕ)
on_3 y = Some (3, 0x12 ∷ 0x34 ∷ y ∷ 0 ∷ [])

-- a call of a primitive on f.y and two numbers
abbrev on_y : List ℕ → ℕ → ℕ → List Call
on_y name a b = call name (at (codes "f") (codes "y") ∷ n a ∷ n b ∷ []) ∷ []

-- the sum of the greatest two numbers isn't cut before it saturates
saturates_past_128_bits : sends (p3_saturating (on_y (codes "add") 340282366920938463463374607431768211455 340282366920938463463374607431768211455)) Sequential ≡ on_3 0xff
unfolding num bits parsed signature14 ingress14 egress14
saturates_past_128_bits = refl

wraps_past_128_bits : sends (p3 (on_y (codes "add") 340282366920938463463374607431768211455 340282366920938463463374607431768211455)) Sequential ≡ on_3 0xfe
unfolding num bits parsed signature14 ingress14 egress14
wraps_past_128_bits = refl

-- shifts by the width and more
shifts_out_left : sends (p3 (on_y (codes "shift_left") 0xff 200)) Sequential ≡ on_3 0
unfolding num bits parsed signature14 ingress14 egress14
shifts_out_left = refl

shifts_out_right : sends (p3 (on_y (codes "shift_right") 0xffff 200)) Sequential ≡ on_3 0
unfolding num bits parsed signature14 ingress14 egress14
shifts_out_right = refl

-- execute_meter with an index out of range writes 0, and takes no colour: the next execution has the first one
abbrev out_of_range : List Decl
out_of_range =
    four (field (codes "y") 8)
    (call (codes "modify_field") (at (codes "f") (codes "y") ∷ n 9 ∷ [])
    ∷ call (codes "execute_meter") (by_name (codes "m") ∷ n 5 ∷ at (codes "f") (codes "y") ∷ [])
    ∷ call (codes "execute_meter") (by_name (codes "m") ∷ n 0 ∷ at (codes "f") (codes "z") ∷ [])
    ∷ [])
    (meter_m ∷ [])

takes_no_colour : sent (setting out_of_range (simply out_of_range applies_t) Sequential (2 ∷ [])) packet ≡ Some (3, 0x12 ∷ 0x34 ∷ 0 ∷ 2 ∷ [])
unfolding num bits parsed signature14 ingress14 egress14
takes_no_colour = refl

-- an index is kept modulo 2 ^ 32
abbrev far_index : List Decl
far_index =
    four (field (codes "y") 8)
    (call (codes "register_write") (by_name (codes "r") ∷ n 4294967296 ∷ n 5 ∷ [])
    ∷ call (codes "register_read") (at (codes "f") (codes "y") ∷ by_name (codes "r") ∷ n 0 ∷ [])
    ∷ [])
    (register_r ∷ [])

writes_cell_0 : sends far_index Sequential ≡ on_3 5
unfolding num bits parsed signature14 ingress14 egress14
writes_cell_0 = refl

-- a register of 128 bits: register_write(r, 0, -1); register_read(m.v, r, 0); add_to_field(m.v, 1);
-- register_write(r, 1, m.v)
abbrev wide : List Decl
wide =
    four (field (codes "y") 8)
    (call (codes "register_write") (by_name (codes "r") ∷ n 0 ∷ minus 1 ∷ [])
    ∷ call (codes "register_read") (at (codes "m") (codes "v") ∷ by_name (codes "r") ∷ n 0 ∷ [])
    ∷ call (codes "add_to_field") (at (codes "m") (codes "v") ∷ n 1 ∷ [])
    ∷ call (codes "register_write") (by_name (codes "r") ∷ n 1 ∷ at (codes "m") (codes "v") ∷ [])
    ∷ [])
    (type (codes "m_t") (field (codes "v") 128 ∷ [])
    ∷ decl.Metadata (record { header_type = codes "m_t"; name = codes "m"; initials = None })
    ∷ decl.Register (record {
      name = codes "r";
      attributes = state_attr.Width (plain 128) ∷ state_attr.InstanceCount (plain 2) ∷ [];
    })
    ∷ [])

abbrev wide_setting : Setting
wide_setting = setting wide (simply wide applies_t) Sequential []

abbrev wide_store : Contents
wide_store = (pass wide_setting (first wide_setting) packet).store

all_ones : cell_of wide_store 0 0 ≡ 340282366920938463463374607431768211455
unfolding num bits parsed signature14 ingress14 egress14
all_ones = refl

comes_round_to_0 : cell_of wide_store 0 1 ≡ 0
unfolding num bits parsed signature14 ingress14 egress14
comes_round_to_0 = refl

-- what is written to a header that was removed is lost
loses_a_write : sends (p3 (call (codes "remove_header") (by_name (codes "f") ∷ []) ∷ call (codes "modify_field") (at (codes "f") (codes "y") ∷ n 9 ∷ []) ∷ call (codes "add_header") (by_name (codes "f") ∷ []) ∷ [])) Sequential ≡ Some (3, 0 ∷ 0 ∷ 0 ∷ 0 ∷ [])
unfolding num bits parsed signature14 ingress14 egress14
loses_a_write = refl

-- two labels that are pushed and popped: in parallel the pop sees the stack of the entry
abbrev moving : List Call → List Decl
moving calls =
    type (codes "lab_t") (field (codes "v") 7 ∷ field (codes "bos") 1 ∷ [])
    ∷ decl.Header (record { header_type = codes "lab_t"; name = codes "labels"; size = Some (plain 2) })
    ∷ state (codes "start") next_label
    (end_of.Select (pvalue.Latest (codes "bos") ∷ []) (bos_is_1 ∷ else_start ∷ []))
    ∷ action (codes "act") [] (to_port_3 ∷ calls)
    ∷ table (codes "t") (codes "act")
    ∷ []

abbrev push_1 : Call
push_1 = call (codes "push") (by_name (codes "labels") ∷ [])

abbrev pop_1 : Call
pop_1 = call (codes "pop") (by_name (codes "labels") ∷ n 1 ∷ [])

abbrev push_9 : Call
push_9 = call (codes "push") (by_name (codes "labels") ∷ n 9 ∷ [])

abbrev moves : List Call → Rule14 → Option (ℕ × List ℕ)
moves calls rule = sent (setting (moving calls) (simply (moving calls) applies_t) rule []) (2 ∷ 7 ∷ [])

pushes : moves (push_1 ∷ []) Sequential ≡ Some (3, 0 ∷ 2 ∷ [])
unfolding num bits parsed signature14 ingress14 egress14
pushes = refl

pushes_past_the_end : moves (push_9 ∷ []) Sequential ≡ Some (3, 0 ∷ 0 ∷ [])
unfolding num bits parsed signature14 ingress14 egress14
pushes_past_the_end = refl

pops : moves (pop_1 ∷ []) Sequential ≡ Some (3, 7 ∷ [])
unfolding num bits parsed signature14 ingress14 egress14
pops = refl

pushes_and_pops : moves (push_1 ∷ pop_1 ∷ []) Sequential ≡ Some (3, 2 ∷ [])
unfolding num bits parsed signature14 ingress14 egress14
pushes_and_pops = refl

pops_the_entry : moves (push_1 ∷ pop_1 ∷ []) Parallel ≡ Some (3, 7 ∷ [])
unfolding num bits parsed signature14 ingress14 egress14
pops_the_entry = refl

-- A case whose value doesn't fit the 8 bits of the key never matches, though its mask leaves all bits out; one with the
-- value 0 and this mask always does. It leads to a state whose select matches nothing, so that the packet is dropped.
abbrev one_case : Masked → Case
one_case m = record { values = case_values.Values (m ∷ []); target = case_target.State (codes "stop") }

abbrev otherwise : Case
otherwise = record { values = case_values.Default; target = case_target.State (codes "ingress") }

abbrev selecting : ℕ → List Decl
selecting value =
    type (codes "four_t") (field (codes "x") 16 ∷ field (codes "y") 8 ∷ field (codes "z") 8 ∷ [])
    ∷ header (codes "four_t") (codes "f")
    ∷ state (codes "start") (named (codes "f"))
    (end_of.Select (pvalue.Latest (codes "y") ∷ [])
    (one_case (record { value = plain value; mask = Some (plain 0) }) ∷ otherwise ∷ []))
    ∷ decl.Parser (record {
      name = codes "stop";
      statements = [];
      end =
          end_of.Select (pvalue.Field (of (codes "f") (codes "y")) ∷ [])
          (one_case (record { value = plain 1; mask = None }) ∷ []);
    })
    ∷ action (codes "act") [] (to_port_3 ∷ [])
    ∷ table (codes "t") (codes "act")
    ∷ []

never_matches : sends (selecting 256) Sequential ≡ on_3 0
unfolding num bits parsed signature14 ingress14 egress14
never_matches = refl

matches_and_stops : sends (selecting 0) Sequential ≡ None
unfolding num bits parsed signature14 ingress14 egress14
matches_and_stops = refl

-- modify_field_with_hash_based_offset(f.y, base, c, size): the base alone where the size is 0, and a sum past the field
abbrev hashing : ℕ → ℕ → List Decl
hashing base size =
    four (field (codes "y") 8)
    (call (codes "modify_field_with_hash_based_offset") (at (codes "f") (codes "y") ∷ n base ∷ by_name (codes "c") ∷ n size ∷ [])
    ∷ [])
    (list_l ∷ calculation_c ∷ [])

hashes_by_nothing : sends (hashing 10 0) Sequential ≡ on_3 10
unfolding num bits parsed signature14 ingress14 egress14
hashes_by_nothing = refl

hashes_past_the_field : sends (hashing 255 16) Sequential ≡ on_3 3
unfolding num bits parsed signature14 ingress14 egress14
hashes_past_the_field = refl

-- modify_field(f.y, 255); modify_field(f.y, 0, 0x0f): the bits that stay are those of the moment that is read
abbrev keeping_bits : List Decl
keeping_bits =
    p3
    (call (codes "modify_field") (at (codes "f") (codes "y") ∷ n 255 ∷ [])
    ∷ call (codes "modify_field") (at (codes "f") (codes "y") ∷ n 0 ∷ n 0x0f ∷ [])
    ∷ [])

keeps_bits_of_the_write : sends keeping_bits Sequential ≡ on_3 0xf0
unfolding num bits parsed signature14 ingress14 egress14
keeps_bits_of_the_write = refl

keeps_bits_of_the_entry : sends keeping_bits Parallel ≡ on_3 0
unfolding num bits parsed signature14 ingress14 egress14
keeps_bits_of_the_entry = refl

-- add_to_field(f.y, 200); add_to_field(f.y, 100), where y is saturating
abbrev adding : List Decl
adding =
    p3_saturating
    (call (codes "add_to_field") (at (codes "f") (codes "y") ∷ n 200 ∷ [])
    ∷ call (codes "add_to_field") (at (codes "f") (codes "y") ∷ n 100 ∷ [])
    ∷ [])

adds_up_to_the_end : sends adding Sequential ≡ on_3 0xff
unfolding num bits parsed signature14 ingress14 egress14
adds_up_to_the_end = refl

adds_to_the_entry : sends adding Parallel ≡ on_3 100
unfolding num bits parsed signature14 ingress14 egress14
adds_to_the_entry = refl

-- count(k, 1); count(k, 0), where k has one cell: the packet and its four octets, once
abbrev counting : List Decl
counting =
    four (field (codes "y") 8)
    (call (codes "count") (by_name (codes "k") ∷ n 1 ∷ []) ∷ call (codes "count") (by_name (codes "k") ∷ n 0 ∷ []) ∷ [])
    (decl.Counter (record {
      name = codes "k";
      attributes = state_attr.Counts PacketsAndBytes ∷ state_attr.InstanceCount (plain 1) ∷ [];
    })
    ∷ [])

abbrev counting_setting : Setting
counting_setting = setting counting (simply counting applies_t) Sequential []

counts_once : pair (pass counting_setting (first counting_setting) packet).store 0 0 ≡ (1, 4)
unfolding num bits parsed signature14 ingress14 egress14
counts_once = refl
