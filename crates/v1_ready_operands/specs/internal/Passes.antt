-- The parameters of an action with what they are given, the last one first; and the parts of definitions that code has by themselves.
use Rattle.std.specs.Prelude.{◌≡◌, ℕ, Bool, true, false, if◌then◌else◌, List, [], ◌∷◌, slice_get, Option, Some, None, option_map, option_and_then, codes}
use Rattle.std.specs.Str.{bytes_eq}
use Rattle.fabric.specs.declared.items.RequestKind.TheVariants.{Resubmit, Recirculate}
use Rattle.p416_syntax.specs.Tree.{Exp16, member, call}
use Rattle.p416_syntax.specs.Names.{Name}
use Rattle.p416_syntax.specs.Kinds.{Kind, is_header}
use Rattle.p416_syntax.specs.Scopes.{Scope}
use Rattle.p416_syntax.specs.Calls.{value, any_bits, owner, index_place}
use Rattle.p416_syntax.specs.Expressions.{kind_of}
use Rattle.v1_core.specs.Seats.{Form, slot_form, header_form, stack_form, struct_form, Seat}
use Rattle.v1_core.specs.Expressions.{name_in}
use Rattle.v1_ready_forms.specs.Named.{NamedSeat}
use Rattle.v1_ready_forms.specs.Ways.{its_value, its_validity}
use Rattle.v1_ready_blocks.specs.declared.externs.Extern.TheVariants as extern
use Rattle.v1_ready_blocks.specs.Arguments.{Incoming, value_in, parts_in, zero_in, Outgoing}
use Rattle.v1_ready_blocks.specs.Statements.{Deed, extract_header, emit_headers, apply, let_go, Statement, does}
use Rattle.v1_place_laws.specs.Places.{range_of}
use Rattle.v1_ready_statements.specs.Targets.{target_given, range_given}
use Rattle.v1_ready_statements.specs.Tested.{asked_test, ready_test, ready_source}
use Rattle.v1_ready_statements.specs.Around.{Around, ActionPlace, Found, table_found, standard_slot}
use Rattle.v1_ready_statements.specs.Given.{cons_option, join_option, value_given, given_at, incoming_of, outgoing_of}
use Rattle.v1_ready_statements.specs.Called.{executes, number_given, only_called, verified, updated, clones}
use Rattle.v1_ready_operands.specs.Functions.{drop_by}
use Rattle.v1_ready_operands.specs.declared.passed.Passed.{Passed}

-- actions by their numbers

abbrev pub found_with : ℕ → ActionPlace → Found
found_with number a = record { number = number; place = a }

abbrev pub found_by : List ActionPlace → Option ℕ → Option Found
found_by actions number = option_and_then (λ i. option_map (found_with i) (slice_get actions i)) number

-- what a parameter starts with, where tables have these numbers
abbrev pub incoming_by : Scope → List NamedSeat → (Name → Option ℕ) → Kind → Bool → Seat → Exp16 → Option Incoming
incoming_by s seats tables k true t e = Some (zero_in (range_of s.layouts t))
incoming_by s seats tables k false t e = of t.form
  where
    of : Form → Option Incoming
    of (slot_form c) = option_map (value_in t.start.slot) (ready_test s seats tables (value k) e)
    of (header_form type) = option_map (parts_in (range_of s.layouts t)) (ready_source s seats tables e)
    of (stack_form type size) = option_map (parts_in (range_of s.layouts t)) (ready_source s seats tables e)
    of (struct_form type) = option_map (parts_in (range_of s.layouts t)) (ready_source s seats tables e)
    of _ = None

-- these parameters, the last one first, in front of what stands behind them

abbrev pub behind_in : Around → Scope → List NamedSeat → List Passed → Option (List Incoming) → Option (List Incoming)
behind_in b s seats [] rest = rest
behind_in b s seats (x ∷ xs) rest =
    behind_in b s seats xs (cons_option (incoming_of b s seats x.number x.parameter.now x.argument) rest)

abbrev pub behind_out : Around → Scope → List NamedSeat → List Passed → Option (List Outgoing) → Option (List Outgoing)
behind_out b s seats [] rest = rest
behind_out b s seats (x ∷ xs) rest =
    behind_out b s seats xs (join_option (outgoing_of b s seats x.number x.parameter.now x.argument) rest)

-- functions but for those that are named first

abbrev pub request_deed : Name → List Exp16 → Option Deed
request_deed text es =
    if bytes_eq text (codes "resubmit_preserving_field_list") then
    executes (Some (extern.Request Resubmit (number_given (given_at es 0)))) (Some [])
    else if bytes_eq text (codes "recirculate_preserving_field_list") then
    executes (Some (extern.Request Recirculate (number_given (given_at es 0)))) (Some []) else None

abbrev pub later_deed : Around → Scope → List NamedSeat → Name → List Exp16 → Option Deed
later_deed b s seats text es =
    if bytes_eq text (codes "update_checksum") then updated b s seats false es
    else if bytes_eq text (codes "update_checksum_with_payload") then updated b s seats true es
    else if bytes_eq text (codes "clone_preserving_field_list") then clones b s seats es
    else request_deed text es

abbrev pub checked_deed : Around → Scope → List NamedSeat → Name → List Exp16 → Option Deed
checked_deed b s seats text es =
    if bytes_eq text (codes "verify_checksum") then verified b s seats false es
    else if bytes_eq text (codes "verify_checksum_with_payload") then verified b s seats true es
    else later_deed b s seats text es

abbrev pub drop_deed : Scope → List NamedSeat → List Exp16 → Option Deed
drop_deed s seats es = drop_by s seats (given_at es 0)

-- methods by themselves

-- it is a header
abbrev pub IsHeaderOf : Scope → Exp16 → Type 0
IsHeaderOf s e = is_header (kind_of s e) ≡ true

-- it is the call of a method of this

abbrev pub IsMemberOf : Exp16 → Exp16 → Type 0
IsMemberOf (member f word) e = f ≡ e
IsMemberOf _ e = ⊥

abbrev pub IsCallOf : Exp16 → Exp16 → Type 0
IsCallOf (call f given) e = IsMemberOf f e
IsCallOf _ e = ⊥

abbrev pub count_deed : Around → Scope → List NamedSeat → ℕ → List Exp16 → Option Deed
count_deed b s seats number es =
    executes (option_map (λ length. extern.Count number length) (standard_slot b (codes "packet_length")))
    (value_given b s seats index_place (given_at es 0))

abbrev pub read_deed : Around → Scope → List NamedSeat → ℕ → List Exp16 → Option Deed
read_deed b s seats number es =
    executes (option_map (λ to. extern.Read number to) (target_given s seats (given_at es 0)))
    (value_given b s seats index_place (given_at es 1))

abbrev pub write_deed : Around → Scope → List NamedSeat → ℕ → List Exp16 → Option Deed
write_deed b s seats number es =
    executes (Some (extern.Write number))
    (join_option (value_given b s seats index_place (given_at es 0)) (value_given b s seats any_bits (given_at es 1)))

abbrev pub meter_deed : Around → Scope → List NamedSeat → ℕ → List Exp16 → Option Deed
meter_deed b s seats number es =
    executes (option_map (λ to. extern.ExecuteMeter number to) (target_given s seats (given_at es 1)))
    (value_given b s seats index_place (given_at es 0))

abbrev pub direct_deed : Around → Name → ℕ → Option Deed
direct_deed b word number =
    only_called (codes "count") word
    (executes (option_map (λ length. extern.CountEntry number length) (standard_slot b (codes "packet_length"))) (Some []))

abbrev pub valid_deed : Around → Scope → List NamedSeat → Exp16 → Option Deed
valid_deed b s seats e = option_map let_go (asked_test s seats (table_found b) owner its_validity e)

abbrev pub extract_deed : Scope → List NamedSeat → List Exp16 → Option Deed
extract_deed s seats es = option_map extract_header (range_given s seats (given_at es 0))

abbrev pub emit_deed : Around → Scope → List NamedSeat → List Exp16 → Option Deed
emit_deed b s seats es = option_map emit_headers (ready_source s seats (table_found b) (given_at es 0))

abbrev pub apply_deed : Around → Exp16 → Option Deed
apply_deed b e = option_map apply (table_found b (name_in e))

-- what is no call
abbrev pub let_go_ready : Around → Scope → List NamedSeat → Exp16 → Option Statement
let_go_ready b s seats e = option_map (λ t. does (let_go t)) (asked_test s seats (table_found b) owner its_value e)
