-- The parts of a frame by number, and whether a program asks for further passes. The small program has 17 slots without those
-- of variables: x, y and z of h and of i, v of both elements of s, k and l, and the 7 fields of the standard metadata.
use Rattle.std.proofs.Common.{◌≡◌, List, [], ◌∷◌, refl}
use Rattle.std.specs.Prelude.{codes, true, false, length, map, Some, None}
use Rattle.p416_syntax.specs.declared.parts.Type16.TheVariants.{Bool as BoolType}
use Rattle.p416_syntax.specs.declared.controls.Local.{Local}
use Rattle.p416_syntax.specs.declared.program.Syntax16.{Syntax16}
use Rattle.p416_syntax.specs.Tree.{Stmt16, block, var}
use Rattle.v1_core.specs.Values.{to_member, to_element}
use Rattle.v1_core.specs.Slots.{the_headers, the_metadata, the_standard, the_variable, part_with, slots_of, headers_of, stacks_of, slot_number, header_number, stack_number}
use Rattle.v1_core.specs.Numbered.{Numbered, new_numbered, slot_value, with_slot, slot_limit, header_valid, with_validity, stack_place, with_stack_place, stack_size}
use Rattle.v1_core.specs.Reentry.{reenters16}
use Rattle.v1_sem_examples.specs.Parts.{n, named, bits_type, param, action, calls, does, statements}
use Rattle.v1_sem_examples.specs.Samples.{small, doing, program}

-- bit<8> v; { h_t w; bool b; } in ingress, which has an action a(bit<16> u)
abbrev locals : List Local
locals = action (codes "a") (param None (bits_type 16) (codes "u") ∷ []) (statements []) ∷ []

abbrev syntax : Syntax16
syntax =
    program (record (doing (var (bits_type 8) (codes "v") ∷ block (statements (var (named (codes "h_t")) (codes "w") ∷ var BoolType (codes "b") ∷ [])) ∷ [])) {
      ingress_locals = locals;
    })

-- u, v, the fields of w, and b
counts_slots : length (slots_of syntax) ≡ 23
counts_slots = refl

-- h, i, both elements of s, and w
counts_headers : length (headers_of syntax) ≡ 5
counts_headers = refl

counts_stacks : length (stacks_of syntax) ≡ 1
counts_stacks = refl

finds_element : slot_number syntax (part_with the_headers (to_member (codes "s") ∷ to_element 1 ∷ to_member (codes "v") ∷ [])) ≡ Some 7
finds_element = refl

finds_metadata : slot_number syntax (part_with the_metadata (to_member (codes "l") ∷ [])) ≡ Some 9
finds_metadata = refl

finds_error : slot_number syntax (part_with the_standard (to_member (codes "parser_error") ∷ [])) ≡ Some 15
finds_error = refl

-- the parameter is counted first, then v
finds_variable : slot_number syntax (part_with (the_variable 1) []) ≡ Some 18
finds_variable = refl

finds_header : header_number syntax (part_with the_headers (to_member (codes "s") ∷ to_element 1 ∷ [])) ≡ Some 3
finds_header = refl

finds_variable_header : header_number syntax (part_with (the_variable 2) []) ≡ Some 4
finds_variable_header = refl

finds_stack : stack_number syntax (part_with the_headers (to_member (codes "s") ∷ [])) ≡ Some 0
finds_stack = refl

-- a header is no slot
finds_none : slot_number syntax (part_with the_headers (to_member (codes "h") ∷ [])) ≡ None
finds_none = refl

-- values

abbrev new : Numbered
new = new_numbered syntax

-- h is valid
abbrev on : Numbered
on = with_validity syntax new 0 true

writes_nothing : slot_value syntax (with_slot syntax new 1 5) 1 ≡ 0
writes_nothing = refl

writes_y : map (slot_value syntax (with_slot syntax on 1 5)) (0 ∷ 1 ∷ 2 ∷ []) ≡ 0 ∷ 5 ∷ 0 ∷ []
writes_y = refl

-- a header that is made valid again keeps its fields, and one that was invalid in between doesn't
keeps_fields : slot_value syntax (with_validity syntax (with_slot syntax on 1 5) 0 true) 1 ≡ 5
keeps_fields = refl

loses_fields : slot_value syntax (with_validity syntax (with_validity syntax (with_slot syntax on 1 5) 0 false) 0 true) 1 ≡ 0
loses_fields = refl

is_on : header_valid syntax on 0 ≡ true
is_on = refl

others_are_off : map (header_valid syntax on) (1 ∷ 2 ∷ 3 ∷ 4 ∷ []) ≡ false ∷ false ∷ false ∷ false ∷ []
others_are_off = refl

-- an error, a truth value, and the parameter
writes_error : slot_value syntax (with_slot syntax new 15 3) 15 ≡ 3
writes_error = refl

writes_truth : slot_value syntax (with_slot syntax new 22 1) 22 ≡ 1
writes_truth = refl

writes_parameter : map (slot_value syntax (with_slot syntax new 17 300)) (17 ∷ 18 ∷ []) ≡ 300 ∷ 0 ∷ []
writes_parameter = refl

tells_limits : map (slot_limit syntax) (1 ∷ 10 ∷ 15 ∷ 17 ∷ 22 ∷ []) ≡ 256 ∷ 512 ∷ 4 ∷ 65536 ∷ 2 ∷ []
tells_limits = refl

puts_place : stack_place syntax (with_stack_place syntax new 0 2) 0 ≡ 2
puts_place = refl

has_size : stack_size syntax 0 ≡ 2
has_size = refl

-- further passes

abbrev resubmits : List Stmt16
resubmits = does (calls (codes "resubmit_preserving_field_list") (n 8 1 ∷ [])) ∷ []

asks_within_a_block : reenters16 (program (doing (block (statements resubmits) ∷ []))) ≡ true
asks_within_a_block = refl

asks_in_an_action : reenters16 (program (record small { egress_locals = action (codes "a") [] (statements (does (calls (codes "recirculate_preserving_field_list") (n 8 1 ∷ [])) ∷ [])) ∷ [] })) ≡ true
asks_in_an_action = refl

asks_nothing : reenters16 (program small) ≡ false
asks_nothing = refl

-- an action of the same name is none of these functions
asks_an_action : reenters16 (program (record (doing resubmits) { ingress_locals = action (codes "resubmit_preserving_field_list") (param None (bits_type 8) (codes "u") ∷ []) (statements []) ∷ [] })) ≡ false
asks_an_action = refl
