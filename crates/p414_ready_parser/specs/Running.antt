-- How the rows of a parser are run on a state (P4_14 1.0.5, "Parser Specification", "Standard Parser Exceptions").
-- `widths` gives the widths of the fields of each instance by its number.
use Rattle.std.specs.Prelude.{ℕ, zero, suc, ◌+◌, ◌*◌, ◌/◌, ◌%◌, ◌^◌, Bool, true, false, not, nat_lt, ◌==◌, if◌then◌else◌, bit_and, List, [], ◌∷◌, length, take, drop, slice_get, Option, Some, None}
use Rattle.std.specs.List.{fold}
use Rattle.p4x_bits.specs.BitLists.{num, octet_bits}
use Rattle.p414_sem.specs.declared.parsed.Parsed.{Parsed}
use Rattle.p414_sem.specs.declared.parsed.Parsed.TheVariants.{Accepted, OutOfPacket, OutOfBounds, UnhandledSelect}
use Rattle.p414_sem.specs.Slots.{declared}
use Rattle.p414_sem.specs.State.{State, Header, read, size_of, place_of, with_header, with_place, written}
use Rattle.p414_sem.specs.Packing.{numbers_in}
use Rattle.p414_sem.specs.Parsing.{Parse, has_bits}
use Rattle.p414_slots.specs.Shown.{slot_in}
use Rattle.p414_ready_parser.specs.declared.rows.ReadyValue.{ReadyValue}
use Rattle.p414_ready_parser.specs.declared.rows.ReadyValue.TheVariants as ready_value
use Rattle.p414_ready_parser.specs.declared.rows.ReadyStatement.{ReadyStatement}
use Rattle.p414_ready_parser.specs.declared.rows.ReadyStatement.TheVariants as ready_statement
use Rattle.p414_ready_parser.specs.declared.rows.SelectPart.{SelectPart}
use Rattle.p414_ready_parser.specs.declared.rows.CaseTest.{CaseTest}
use Rattle.p414_ready_parser.specs.declared.rows.CaseTest.TheVariants as case_test
use Rattle.p414_ready_parser.specs.declared.rows.Next.{Next}
use Rattle.p414_ready_parser.specs.declared.rows.Next.TheVariants as next
use Rattle.p414_ready_parser.specs.declared.rows.CaseRow.{CaseRow}
use Rattle.p414_ready_parser.specs.declared.rows.ReadyEnd.{ReadyEnd}
use Rattle.p414_ready_parser.specs.declared.rows.ReadyEnd.TheVariants as ready_end
use Rattle.p414_ready_parser.specs.declared.rows.ReadyState.{ReadyState}
use Rattle.p414_ready_parser.specs.declared.rows.InitialRow.{InitialRow}
use Rattle.p414_ready_parser.specs.declared.parser.ReadyParser.{ReadyParser}

-- values; `element` is the one that was extracted last

abbrev pub current_number : State → ℕ → ℕ → Option ℕ
current_number s offset width =
    if has_bits s (offset + width) then Some (num (take width (drop offset (octet_bits s.unparsed)))) else None

abbrev pub ready_number : ℕ → State → ReadyValue → Option ℕ
ready_number element s (ready_value.Current offset width) = current_number s offset width
ready_number element s (ready_value.Latest instance field) = Some (read s (declared instance element field))
ready_number element s (ready_value.Field slot) = Some (read s (slot_in slot))
ready_number element s (ready_value.Number n) = Some n

-- statements

-- behind some statements: the element that was extracted last, and the packet; or how parsing ended
pub data Going : Type 0 where
  goes_on : (element : ℕ) (state : State) → Going
  stops : (end : Parsed) (state : State) → Going

-- the element that is extracted: where none is fixed, the one at the stack's place
abbrev pub element_at : State → ℕ → Option ℕ → ℕ
element_at s instance (Some element) = element
element_at s instance None = place_of s instance

abbrev pub is_past : State → ℕ → Option ℕ → Bool
is_past s instance (Some element) = false
is_past s instance None = not (nat_lt (place_of s instance) (size_of s instance))

abbrev pub moved_on : ℕ → Option ℕ → State → State
moved_on instance (Some element) s = s
moved_on instance None s = with_place s instance (place_of s instance + 1)

abbrev pub filled_by : (ℕ → List ℕ) → ℕ → ℕ → State → State
filled_by widths instance element s =
    let header : Header = record { valid = true; numbers = numbers_in (widths instance) (octet_bits s.unparsed) } in
    with_header s instance element header

abbrev pub taken_off : ℕ → State → State
taken_off bits s = record s { unparsed = drop (bits / 8) s.unparsed }

-- whether a stack is full is asked before whether the octets are there
abbrev pub extract_row : (ℕ → List ℕ) → ℕ → Option ℕ → ℕ → State → Going
extract_row widths instance fixed bits s =
    if is_past s instance fixed then stops OutOfBounds s
    else if has_bits s bits then
    goes_on (element_at s instance fixed)
    (moved_on instance fixed (taken_off bits (filled_by widths instance (element_at s instance fixed) s)))
    else stops OutOfPacket s

abbrev pub set_row : ℕ → State → (State → ℕ → State) → Option ℕ → Going
set_row element s put None = stops OutOfPacket s
set_row element s put (Some n) = goes_on element (put s n)

abbrev pub do_row : (ℕ → List ℕ) → ReadyStatement → ℕ → State → Going
do_row widths (ready_statement.Extract instance fixed bits) element s = extract_row widths instance fixed bits s
do_row widths (ready_statement.Set slot width value) element s =
    set_row element s (λ t n. written t (slot_in slot) (n % 2 ^ width)) (ready_number element s value)

abbrev pub do_next : (ℕ → List ℕ) → Going → ReadyStatement → Going
do_next widths (goes_on element s) row = do_row widths row element s
do_next widths (stops end s) row = stops end s

-- selects

-- so many bits of a number behind those so far; none where one of them goes past the end of the packet
abbrev pub join_by : ℕ → Option ℕ → Option ℕ → Option ℕ
join_by width (Some front) (Some n) = Some (front * 2 ^ width + n % 2 ^ width)
join_by width _ _ = None

abbrev pub join_part : ℕ → State → Option ℕ → SelectPart → Option ℕ
join_part element s front p = join_by p.width front (ready_number element s p.value)

abbrev pub ready_key : ℕ → State → List SelectPart → Option ℕ
ready_key element s parts = fold (join_part element s) (Some 0) parts

abbrev pub takes : CaseTest → ℕ → Bool
takes case_test.Any key = true
takes (case_test.Equal value) key = key == value
takes (case_test.Masked mask value) key = bit_and key mask == value

-- where the first row leads that takes the key
abbrev pub row_for : List CaseRow → ℕ → Next
row_for [] key = next.Unhandled
row_for (r ∷ rows) key = if takes r.test key then r.next else row_for rows key

-- states

-- behind a state: where parsing goes on, or how it ended
pub data GoingTo : Type 0 where
  to : (where_to : Next) (state : State) → GoingTo
  ended : (end : Parsed) (state : State) → GoingTo

abbrev pub lead : Next → State → GoingTo
lead next.Unhandled s = ended UnhandledSelect s
lead other s = to other s

abbrev pub select_by : List CaseRow → State → Option ℕ → GoingTo
select_by rows s None = ended OutOfPacket s
select_by rows s (Some key) = lead (row_for rows key) s

abbrev pub end_by : ReadyEnd → Going → GoingTo
end_by end (stops parsed s) = ended parsed s
end_by (ready_end.Select parts rows) (goes_on element s) = select_by rows s (ready_key element s parts)
end_by (ready_end.To n) (goes_on element s) = lead n s

abbrev pub run_state : (ℕ → List ℕ) → ReadyState → State → GoingTo
run_state widths r s = end_by r.end (fold (do_next widths) (goes_on 0 s) r.statements)

abbrev pub run_found : (ℕ → List ℕ) → Option ReadyState → State → GoingTo
run_found widths None s = ended Accepted s
run_found widths (Some r) s = run_state widths r s

abbrev pub run_next : (ℕ → List ℕ) → List ReadyState → Next → State → GoingTo
run_next widths states (next.State n) s = run_found widths (slice_get states n) s
run_next widths states next.Accept s = ended Accepted s
run_next widths states next.Unhandled s = ended UnhandledSelect s

abbrev pub run_on : (Next → State → Parse) → GoingTo → Parse
run_on parse (to n s) = parse n s
run_on parse (ended end s) = record { end = end; state = s }

-- how parsing ends there, where no more states may run
abbrev pub out_at : Option ReadyState → Parsed
out_at None = Accepted
out_at (Some r) = OutOfPacket

abbrev pub run_out : List ReadyState → Next → Parsed
run_out states (next.State n) = out_at (slice_get states n)
run_out states next.Accept = Accepted
run_out states next.Unhandled = UnhandledSelect

-- parsing in so many states at most
abbrev pub run_from : (ℕ → List ℕ) → List ReadyState → ℕ → Next → State → Parse
run_from widths states zero n s = record { end = run_out states n; state = s }
run_from widths states (suc left) n s = run_on (run_from widths states left) (run_next widths states n s)

abbrev pub most_runs : List ReadyState → State → ℕ
most_runs states s = (length s.unparsed + 1) * (length states + 1)

-- the initial values are written
abbrev pub with_row : State → InitialRow → State
with_row s i = written s (slot_in i.slot) i.value

abbrev pub with_initials : List InitialRow → State → State
with_initials rows s = fold with_row s rows

-- Parsing from a state whose headers are all invalid. How many states are run is bounded as before that.
abbrev pub ready_parse : (ℕ → List ℕ) → ReadyParser → State → Parse
ready_parse widths r s = run_from widths r.states (most_runs r.states s) r.start (with_initials r.initials s)
