-- Packets that are read and written (`core.p4`, `packet_in.extract` and `packet_out.emit`; P4_16 1.2, "Data extraction",
-- "Deparsing").
use Rattle.std.specs.Prelude.{ℕ, ◌+◌, ◌/◌, Bool, true, if◌then◌else◌, List, [], ◌∷◌, ◌++◌, take, drop, flat_map, map, sum, Option, Some, None}
use Rattle.p4x_bits.specs.BitLists.{num, bits, octet_bits}
use Rattle.v1_core.specs.declared.parser_error.ParserError.TheVariants.{PacketTooShort}
use Rattle.v1_core.specs.Values.{Value, a_header, a_stack, Field, Header, header_in, place_in, elements_in, with_number}
use Rattle.v1_core.specs.Frames.{Moment, raised, Reference, read, put_at}
use Rattle.v1_core.specs.Expressions.{has_bits}

abbrev pub field_width : Field → ℕ
field_width f = f.width

-- the bits of a header
abbrev pub header_width : Header → ℕ
header_width h = sum (map field_width h.fields)

-- fields with the numbers of bits that stand one after another
abbrev pub fields_filled : List Field → List Bool → List Field
fields_filled [] rest = []
fields_filled (f ∷ fields) rest = with_number f (num (take f.width rest)) ∷ fields_filled fields (drop f.width rest)

-- the next bits become the header's fields, and it is valid, also where it was
abbrev pub extracted : Reference → Moment → Moment
extracted r m =
    let h = header_in (read m.frame r) in
    let filled_header : Header = record { valid = true; fields = fields_filled h.fields (octet_bits m.unparsed) } in
    let left = drop (header_width h / 8) m.unparsed in
    record (put_at r (a_header filled_header) m) { unparsed = left }

-- an extraction of `next` moves the place of its stack by one
abbrev pub moved : Option Reference → Moment → Moment
moved None m = m
moved (Some r) m = let v = read m.frame r in put_at r (a_stack (place_in v + 1) (elements_in v)) m

-- `p.extract(h)`, with the stack whose `next` is extracted, if one is. Where too few bits are left nothing moves.
abbrev pub extract : Reference → Option Reference → Moment → Moment
extract r next m =
    if has_bits m (header_width (header_in (read m.frame r))) then moved next (extracted r m) else raised PacketTooShort m

-- the bits of fields
abbrev pub bits_of_field : Field → List Bool
bits_of_field f = bits f.width f.number

-- the octets whose bits these are; a header is whole octets
abbrev pub octets_in : List Bool → List ℕ
octets_in (a ∷ b ∷ c ∷ d ∷ e ∷ f ∷ g ∷ h ∷ rest) = num (a ∷ b ∷ c ∷ d ∷ e ∷ f ∷ g ∷ h ∷ []) ∷ octets_in rest
octets_in _ = []

-- the octets of a header if it is valid
abbrev pub octets_of_header : Header → List ℕ
octets_of_header h = if h.valid then octets_in (flat_map bits_of_field h.fields) else []

-- a header, or the elements of a stack in order
abbrev pub octets_of : Value → List ℕ
octets_of (a_header h) = octets_of_header h
octets_of (a_stack place elements) = flat_map octets_of_header elements
octets_of _ = []

-- `p.emit(x)`
abbrev pub emit : Value → Moment → Moment
emit v m = record m { emitted = m.emitted ++ octets_of v }
