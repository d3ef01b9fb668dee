-- How a packet is parsed (P4_14 1.0.5, "Parser Specification", "Standard Parser Exceptions", "Header and Metadata
-- Instances"; what an exception does is this project's own). Parsing begins in the state `start` and ends in one of the four ways of `Parsed`.
use Rattle.std.specs.Prelude.{ℕ, zero, suc, ◌+◌, ◌*◌, ◌/◌, ◌^◌, Bool, true, false, not, ◌&&◌, nat_lt, ◌==◌, if◌then◌else◌, ℤ, pos, bit_and, List, [], ◌∷◌, length, map, take, drop, slice_get, sum, Option, Some, None, codes, option_and_then, option_map}
use Rattle.std.specs.List.{list_any, fold}
use Rattle.std.specs.Option.{option_map_or}
use Rattle.p4x_bits.specs.BitLists.{num, octet_bits}
use Rattle.p414_syntax.specs.declared.lexeme.Literal.{Literal}
use Rattle.p414_syntax.specs.declared.parts.Index.{Index}
use Rattle.p414_syntax.specs.declared.parts.Index.TheVariants.{Next}
use Rattle.p414_syntax.specs.declared.parts.Inst.{Inst}
use Rattle.p414_syntax.specs.declared.parts.Ref.{Ref}
use Rattle.p414_syntax.specs.declared.headers.Initial.{Initial}
use Rattle.p414_syntax.specs.declared.parsers.PValue.{PValue}
use Rattle.p414_syntax.specs.declared.parsers.PValue.TheVariants as pvalue
use Rattle.p414_syntax.specs.declared.parsers.PStmt.{PStmt}
use Rattle.p414_syntax.specs.declared.parsers.PStmt.TheVariants as pstmt
use Rattle.p414_syntax.specs.declared.parsers.Masked.{Masked}
use Rattle.p414_syntax.specs.declared.parsers.CaseValues.{CaseValues}
use Rattle.p414_syntax.specs.declared.parsers.CaseValues.TheVariants as case_values
use Rattle.p414_syntax.specs.declared.parsers.CaseTarget.{CaseTarget}
use Rattle.p414_syntax.specs.declared.parsers.CaseTarget.TheVariants as case_target
use Rattle.p414_syntax.specs.declared.parsers.Case.{Case}
use Rattle.p414_syntax.specs.declared.parsers.Return.{Return}
use Rattle.p414_syntax.specs.declared.parsers.Return.TheVariants as end_of
use Rattle.p414_syntax.specs.declared.parsers.Parser.{Parser}
use Rattle.p414_syntax.specs.declared.syntax.Decl.{Decl}
use Rattle.p414_syntax.specs.declared.syntax.Decl.TheVariants as decl
use Rattle.p414_syntax.specs.declared.syntax.Sort.TheVariants as sort
use Rattle.p414_syntax.specs.Attributes.{initials_of}
use Rattle.p414_syntax.specs.Names.{Name, declared_in}
use Rattle.p414_syntax.specs.Selects.{value_bits}
use Rattle.p414_syntax.specs.ParserGraph.{states, state_number, instance_number}
use Rattle.p414_sem.specs.declared.parsed.Parsed.{Parsed}
use Rattle.p414_sem.specs.declared.parsed.Parsed.TheVariants.{Accepted, OutOfPacket, OutOfBounds, UnhandledSelect}
use Rattle.p414_sem.specs.Wholes.{whole, wrapped}
use Rattle.p414_sem.specs.Slots.{Slot, declared, slot_of, field_target, element_number, field_number}
use Rattle.p414_sem.specs.State.{State, Header, Instance, read, size_of, place_of, with_header, with_place, written, cleared}
use Rattle.p414_sem.specs.Packing.{widths_of, numbers_in}

-- as parsing begins

-- All headers become invalid and all stacks begin at place 0; metadata stays.
abbrev pub begun_instance : Decl → Instance → Instance
begun_instance (decl.Header x) i = record { elements = map (cleared false) i.elements; place = 0 }
begun_instance _ i = i

abbrev pub begun_instances : List Decl → List Instance → List Instance
begun_instances [] instances = []
begun_instances (d ∷ ds) [] = []
begun_instances (d ∷ ds) (i ∷ instances) = begun_instance d i ∷ begun_instances ds instances

-- an initial value of a field of this instance
abbrev pub field_named : Name → Name → Ref
field_named instance field = record { instance = record { name = instance; index = None }; field = field }

abbrev pub with_initial : List Decl → Name → State → Initial → State
with_initial ds instance s i =
    let target = field_target ds (field_named instance i.field) in
    written s target.slot (wrapped target.width (whole i.value))

abbrev pub initialized : List Decl → State → Decl → State
initialized ds s (decl.Metadata x) = fold (with_initial ds x.name) s (initials_of x.initials)
initialized ds s _ = s

-- then the initial values of metadata are written
abbrev pub begun : List Decl → State → State
begun ds s =
    let instances = declared_in sort.Instance ds in
    fold (initialized ds) (record s { instances = begun_instances instances s.instances }) instances

-- values

-- what was extracted last in a state of the parser: how it is written, and which element it was
pub record Latest : Type 0 where
  pub instance : Inst
  pub element : ℕ

abbrev pub latest_slot : List Decl → Name → Latest → Slot
latest_slot ds field l =
    declared (instance_number ds l.instance.name) l.element (field_number ds l.instance.name field)

abbrev pub latest_value : List Decl → State → Name → Latest → ℤ
latest_value ds s field l = pos (read s (latest_slot ds field l))

-- so many bits are left
abbrev pub has_bits : State → ℕ → Bool
has_bits s count = nat_lt count (8 * length s.unparsed + 1)

-- `current`: bits behind those that are extracted; none where they go past the end of the packet
abbrev pub current_bits : State → ℕ → ℕ → Option ℤ
current_bits s offset width =
    if has_bits s (offset + width) then Some (pos (num (take width (drop offset (octet_bits s.unparsed))))) else None

abbrev pub parser_value : List Decl → Option Latest → State → PValue → Option ℤ
parser_value ds latest s (pvalue.Current offset width) = current_bits s offset.value width.value
parser_value ds latest s (pvalue.Latest field) = Some (option_map_or (latest_value ds s field) latest (pos 0))
parser_value ds latest s (pvalue.Field r) = Some (pos (read s (slot_of ds r)))
parser_value ds latest s (pvalue.Number n) = Some (whole n)

-- statements

-- behind some statements of a state of the parser: the packet and what was extracted last, or how parsing ended
pub data Progress : Type 0 where
  goes_on : (latest : Option Latest) (state : State) → Progress
  stops : (end : Parsed) (state : State) → Progress

-- The element that is extracted: `next` is the one at the stack's place.
abbrev pub extracted_element : List Decl → State → Inst → ℕ
extracted_element ds s i = at_index i.index where
  at_index : Option Index → ℕ
  at_index (Some Next) = place_of s (instance_number ds i.name)
  at_index other = element_number other

-- an extraction of `next` from a stack whose place is behind its last element
abbrev pub is_full : List Decl → State → Inst → Bool
is_full ds s i = asks i.index where
  asks : Option Index → Bool
  asks (Some Next) = not (nat_lt (place_of s (instance_number ds i.name)) (size_of s (instance_number ds i.name)))
  asks _ = false

-- `next` moves the place of its stack by one
abbrev pub moved : List Decl → Inst → State → State
moved ds i s = moves i.index where
  moves : Option Index → State
  moves (Some Next) = with_place s (instance_number ds i.name) (place_of s (instance_number ds i.name) + 1)
  moves _ = s

-- the next bits become the fields of this element, and it is valid
abbrev pub filled : List Decl → Inst → State → State
filled ds i s =
    let header : Header = record { valid = true; numbers = numbers_in (widths_of ds i.name) (octet_bits s.unparsed) } in
    with_header s (instance_number ds i.name) (extracted_element ds s i) header

abbrev pub taken : List Decl → Inst → State → State
taken ds i s = record s { unparsed = drop (sum (widths_of ds i.name) / 8) s.unparsed }

-- Whether a stack is full is asked before whether the octets are there. Where too few are left nothing moves.
abbrev pub extracted : List Decl → Inst → State → Progress
extracted ds i s =
    if is_full ds s i then stops OutOfBounds s
    else if has_bits s (sum (widths_of ds i.name)) then
    goes_on (Some (record { instance = i; element = extracted_element ds s i })) (moved ds i (taken ds i (filled ds i s)))
    else stops OutOfPacket s

abbrev pub set : List Decl → Ref → Option Latest → State → Option ℤ → Progress
set ds r latest s None = stops OutOfPacket s
set ds r latest s (Some z) =
    let target = field_target ds r in goes_on latest (written s target.slot (wrapped target.width z))

-- what one statement of a state does
abbrev pub does : List Decl → PStmt → Option Latest → State → Progress
does ds (pstmt.Extract i) latest s = extracted ds i s
does ds (pstmt.SetMetadata r v) latest s = set ds r latest s (parser_value ds latest s v)

abbrev pub does_next : List Decl → Progress → PStmt → Progress
does_next ds (goes_on latest s) statement = does ds statement latest s
does_next ds (stops end s) statement = stops end s

-- selects

-- the instance that was extracted last, as it is written
abbrev pub latest_instance : Latest → Inst
latest_instance l = l.instance

-- The number of the values of a select joined, first value first: those so far, then the bits of the next one. None
-- where one of them goes past the end of the packet.
abbrev pub joined : ℕ → Option ℤ → Option ℕ → Option ℕ
joined width (Some z) (Some front) = Some (front * 2 ^ width + wrapped width z)
joined width _ _ = None

abbrev pub joined_from : List Decl → Option Latest → State → Option ℕ → List PValue → Option ℕ
joined_from ds latest s front [] = front
joined_from ds latest s front (v ∷ values) =
    joined_from ds latest s (joined (value_bits ds (option_map latest_instance latest) v) (parser_value ds latest s v) front) values

abbrev pub key_of : List Decl → Option Latest → State → List PValue → Option ℕ
key_of ds latest s values = joined_from ds latest s (Some 0) values

abbrev pub key_width : List Decl → Option Latest → List PValue → ℕ
key_width ds latest values = sum (map (value_bits ds (option_map latest_instance latest)) values)

-- A value matches where it is the key, on the bits of its mask where one stands. One that doesn't fit the joined width
-- never matches, whatever its mask.
abbrev pub matches_value : ℕ → ℕ → Masked → Bool
matches_value width key m = nat_lt m.value.value (2 ^ width) && agrees m.mask where
  agrees : Option Literal → Bool
  agrees None = key == m.value.value
  agrees (Some mask) = bit_and key mask.value == bit_and m.value.value mask.value

-- a case matches where one of its values does
abbrev pub matches_case : ℕ → ℕ → Case → Bool
matches_case width key c = matches_values c.values where
  matches_values : CaseValues → Bool
  matches_values case_values.Default = true
  matches_values (case_values.Values values) = list_any (matches_value width key) values

-- where the first case that matches leads
abbrev pub target_of_key : ℕ → ℕ → List Case → Option CaseTarget
target_of_key width key [] = None
target_of_key width key (c ∷ cases) =
    if matches_case width key c then Some c.target else target_of_key width key cases

-- states

-- behind a state of the parser: the next one by its name, or how parsing ended
pub data Step : Type 0 where
  to : (name : Name) (state : State) → Step
  ended : (end : Parsed) (state : State) → Step

-- `parse_error` is left out: its cases stand only so that each function has all of them
-- a select leads to the state of its case; a parser exception of the program, or no case, ends parsing
abbrev pub leads : State → Option CaseTarget → Step
leads s None = ended UnhandledSelect s
leads s (Some (case_target.ParseError name)) = ended UnhandledSelect s
leads s (Some (case_target.State name)) = to name s

abbrev pub selects : ℕ → List Case → State → Option ℕ → Step
selects width cases s None = ended OutOfPacket s
selects width cases s (Some key) = leads s (target_of_key width key cases)

-- how a state ends, once its statements are done
abbrev pub returns : List Decl → Return → Progress → Step
returns ds end (stops parsed s) = ended parsed s
returns ds (end_of.Select values cases) (goes_on latest s) =
    selects (key_width ds latest values) cases s (key_of ds latest s values)
returns ds (end_of.State name) (goes_on latest s) = to name s
returns ds (end_of.ParseError name) (goes_on latest s) = ended UnhandledSelect s

-- a state as a whole: its statements in order, then its return
abbrev pub steps : List Decl → Parser → State → Step
steps ds p s = returns ds p.end (fold (does_next ds) (goes_on None s) p.statements)

abbrev pub state_named : List Decl → Name → Option Parser
state_named ds name = option_and_then (slice_get (states ds)) (state_number ds name)

-- the end of parsing
pub record Parse : Type 0 where
  pub end : Parsed
  pub state : State

-- one state of the parser; a name that none has is that of the control `ingress`, which accepts
abbrev pub step_from : List Decl → Name → State → Step
step_from ds name s = entered (state_named ds name) where
  entered : Option Parser → Step
  entered None = ended Accepted s
  entered (Some p) = steps ds p s

-- where a step leads, given what is parsed from there
abbrev pub followed : (Name → State → Parse) → Step → Parse
followed parse (to name s) = parse name s
followed parse (ended end s) = record { end = end; state = s }

-- where no more states may run: a state doesn't, and the control `ingress` accepts, since it is none
abbrev pub run_out : Option Parser → Parsed
run_out None = Accepted
run_out (Some p) = OutOfPacket

-- Parsing from a state on, in so many states at most. No walk of an accepted program is longer than `most_states`: a
-- cycle of states extracts, and an extraction takes at least one octet, so between two extractions each state stands
-- once at most.
abbrev pub parse_from : List Decl → ℕ → Name → State → Parse
parse_from ds zero name s = record { end = run_out (state_named ds name); state = s }
parse_from ds (suc left) name s = followed (parse_from ds left) (step_from ds name s)

abbrev pub most_states : List Decl → State → ℕ
most_states ds s = (length s.unparsed + 1) * (length (states ds) + 1)

unfoldable pub parsed : List Decl → State → Parse
parsed ds s = parse_from ds (most_states ds s) (codes "start") (begun ds s)
