-- Checksums (`v1model.p4`, `verify_checksum`, `update_checksum`, `verify_checksum_with_payload` and
-- `update_checksum_with_payload`). A wrong checksum is told to the packet's `checksum_error`.
use Rattle.std.specs.Prelude.{◌%◌, ◌^◌, ◌==◌, Bool, not, ◌&&◌, if◌then◌else◌, List, ◌++◌, codes}
use Rattle.p4x_bits.specs.BitLists.{octet_bits}
use Rattle.p416_syntax.specs.Names.{Name}
use Rattle.v1_core.specs.Values.{Value, a_number, number_in, width_in}
use Rattle.v1_core.specs.Frames.{Moment, with_frame, Reference, number_put_at, with_standard}
use Rattle.v1_core.specs.Externs.Hashes.{result_of}

-- a list with the octets that weren't parsed behind it
abbrev pub with_payload : Moment → List Bool → List Bool
with_payload m list = list ++ octet_bits m.unparsed

-- the result, cut to the field's width, isn't the field
abbrev pub is_wrong : List Bool → Value → Name → Bool
is_wrong list field algorithm = not (result_of algorithm list % 2 ^ width_in field == number_in field)

-- `verify_checksum(condition, { .. }, field, algorithm)`: `checksum_error` becomes 1
abbrev pub verify_checksum : Bool → List Bool → Value → Name → Moment → Moment
verify_checksum condition list field algorithm m =
    if condition && is_wrong list field algorithm then
    with_frame m (with_standard (codes "checksum_error") (a_number 1 1) m.frame)
    else m

-- `update_checksum(condition, { .. }, field, algorithm)`: the field gets the result
abbrev pub update_checksum : Bool → List Bool → Reference → Name → Moment → Moment
update_checksum condition list to algorithm m =
    if condition then number_put_at to (result_of algorithm list) m else m
