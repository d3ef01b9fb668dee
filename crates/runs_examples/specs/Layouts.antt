-- A layout: a header of 8, 8 and 16 bits, a stack of two elements of one octet each, a truth value, and an error.
use Rattle.std.specs.Prelude.{[], ◌∷◌}
use Rattle.v1_core.specs.Layouts.{Layout, no_parts, with_lone_slot, with_header_part, with_stack_part}

abbrev pub with_headers : Layout
with_headers = with_header_part (with_header_part (with_header_part no_parts (8 ∷ 8 ∷ 16 ∷ [])) (8 ∷ [])) (8 ∷ [])

abbrev pub small : Layout
small = with_lone_slot (with_lone_slot (with_stack_part with_headers 2) 1) 2
