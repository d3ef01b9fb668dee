-- Calls as statements: of actions, of what headers, stacks and packets can do, of objects, of tables and of the functions of
-- `v1model.p4` (P4_16 1.2, "Function calls and method invocations", "Invoking actions"; `core.p4`, `v1model.p4`). None where a
-- call isn't one that a program may have.
use Rattle.std.specs.Prelude.{ℕ, Bool, true, false, if◌then◌else◌, List, [], Option, Some, None, option_map, option_and_then, codes}
use Rattle.std.specs.Str.{bytes_eq}
use Rattle.fabric.specs.declared.items.RequestKind.TheVariants.{CloneI2E, CloneE2E, Resubmit, Recirculate}
use Rattle.p416_syntax.specs.declared.parts.HashAlgorithm.{HashAlgorithm}
use Rattle.p416_syntax.specs.declared.parts.HashAlgorithm.TheVariants.{Csum16, Crc16, Crc32, Identity}
use Rattle.p416_syntax.specs.Tree.{Exp16, literal, name, member, call}
use Rattle.p416_syntax.specs.Names.{Name}
use Rattle.p416_syntax.specs.Kinds.{ObjectKind, counter, direct_counter, register, meter, Kind, boolean, header, stack, packet_in, packet_out, table, object}
use Rattle.p416_syntax.specs.Scopes.{Sort, an_action, a_function, Scope, sort_of}
use Rattle.p416_syntax.specs.Calls.{value, any_bits, owner, index_place}
use Rattle.p416_syntax.specs.Expressions.{kind_of}
use Rattle.p416_syntax.specs.Uses.{arguments_of}
use Rattle.v1_core.specs.Values.{to_member}
use Rattle.v1_core.specs.Expressions.{name_in}
use Rattle.v1_ready_forms.specs.Named.{NamedSeat}
use Rattle.v1_ready_forms.specs.Ways.{its_value, its_validity}
use Rattle.v1_ready_blocks.specs.declared.places.Target.{Target}
use Rattle.v1_ready_blocks.specs.declared.places.Range.{Range}
use Rattle.v1_ready_blocks.specs.declared.externs.Extern.{Extern}
use Rattle.v1_ready_blocks.specs.declared.externs.Extern.TheVariants as extern
use Rattle.v1_ready_blocks.specs.Arguments.{Argument}
use Rattle.v1_ready_blocks.specs.Statements.{Deed, set_valid, push_front, pop_front, extract_header, emit_headers, execute, apply, let_go, Statement, does, call as call_action}
use Rattle.v1_ready_forms.specs.Spots.{spot_behind}
use Rattle.v1_place_laws.specs.Places.{behind_meant, meant_by}
use Rattle.v1_ready_statements.specs.Targets.{target_of, fixed_range, target_given, range_given}
use Rattle.v1_ready_statements.specs.Tested.{asked_test, ready_source}
use Rattle.v1_ready_statements.specs.Around.{Around, Found, action_found, table_found, object_found, standard_slot}
use Rattle.v1_ready_statements.specs.Given.{join_option, value_given, list_given, given_at, any_applies, all_incoming, all_outgoing}

-- actions

abbrev pub with_both : {A B : Type 0} → (A → B → Statement) → Option A → Option B → Option Statement
with_both f (Some a) (Some b) = Some (f a b)
with_both f _ _ = None

abbrev pub action_call : Around → Scope → List NamedSeat → List Exp16 → Found → Option Statement
action_call b s seats es f =
    with_both (call_action f.number (any_applies s es)) (all_incoming b s seats f.place.first f.place.of.parameters es)
    (all_outgoing b s seats f.place.first f.place.of.parameters es)

-- externs

abbrev pub executes : Option Extern → Option (List Argument) → Option Deed
executes (Some what) (Some arguments) = Some (execute what arguments)
executes _ _ = None

-- the algorithm of a member of `HashAlgorithm`
abbrev pub algorithm_called : Name → Option HashAlgorithm
algorithm_called word =
    if bytes_eq word (codes "csum16") then Some Csum16
    else if bytes_eq word (codes "crc16") then Some Crc16
    else if bytes_eq word (codes "crc32") then Some Crc32
    else if bytes_eq word (codes "identity") then Some Identity else None

-- the word of a member of an enumeration
abbrev pub member_word : Exp16 → Name
member_word (member e word) = word
member_word _ = []

abbrev pub algorithm_given : Exp16 → Option HashAlgorithm
algorithm_given e = algorithm_called (member_word e)

abbrev pub with_algorithm : (HashAlgorithm → Target → Extern) → Option HashAlgorithm → Option Target → Option Extern
with_algorithm f (Some algorithm) (Some to) = Some (f algorithm to)
with_algorithm f _ _ = None

abbrev pub with_slot : (HashAlgorithm → ℕ → Extern) → Option HashAlgorithm → Option ℕ → Option Extern
with_slot f (Some algorithm) (Some slot) = Some (f algorithm slot)
with_slot f _ _ = None

-- the number that a literal is
abbrev pub number_given : Exp16 → ℕ
number_given (literal n) = n.value
number_given _ = 0

-- the field `egress_spec` of what an argument means
abbrev pub dropping_slot : Scope → List NamedSeat → Exp16 → Option ℕ
dropping_slot s seats e = option_map slot_in (option_and_then target_of (behind_meant (spot_behind s.layouts (to_member (codes "egress_spec"))) (meant_by s seats e))) where
  slot_in : Target → ℕ
  slot_in t = t.slot

abbrev pub verified : Around → Scope → List NamedSeat → Bool → List Exp16 → Option Deed
verified b s seats payload es =
    executes
    (with_slot (λ algorithm slot. extern.Verify algorithm payload slot) (algorithm_given (given_at es 3)) (standard_slot b (codes "checksum_error")))
    (join_option (value_given b s seats (value boolean) (given_at es 0))
    (join_option (list_given b s seats (given_at es 1)) (value_given b s seats any_bits (given_at es 2))))

abbrev pub updated : Around → Scope → List NamedSeat → Bool → List Exp16 → Option Deed
updated b s seats payload es =
    executes
    (with_algorithm (λ algorithm to. extern.Update algorithm payload to) (algorithm_given (given_at es 3)) (target_given s seats (given_at es 2)))
    (join_option (value_given b s seats (value boolean) (given_at es 0)) (list_given b s seats (given_at es 1)))

abbrev pub hashes : Around → Scope → List NamedSeat → List Exp16 → Option Deed
hashes b s seats es =
    executes (with_algorithm (λ algorithm to. extern.Hash algorithm to) (algorithm_given (given_at es 1)) (target_given s seats (given_at es 0)))
    (join_option (value_given b s seats any_bits (given_at es 2))
    (join_option (list_given b s seats (given_at es 3)) (value_given b s seats any_bits (given_at es 4))))

abbrev pub clones : Around → Scope → List NamedSeat → List Exp16 → Option Deed
clones b s seats es =
    executes
    (Some (extern.Clone (if bytes_eq (member_word (given_at es 0)) (codes "I2E") then CloneI2E else CloneE2E) (number_given (given_at es 2))))
    (value_given b s seats index_place (given_at es 1))

-- the functions of `v1model.p4`
abbrev pub function_deed : Around → Scope → List NamedSeat → Name → List Exp16 → Option Deed
function_deed b s seats text es =
    if bytes_eq text (codes "mark_to_drop") then executes (option_map (λ slot. extern.MarkToDrop slot) (dropping_slot s seats (given_at es 0))) (Some [])
    else if bytes_eq text (codes "hash") then hashes b s seats es
    else if bytes_eq text (codes "verify_checksum") then verified b s seats false es
    else if bytes_eq text (codes "verify_checksum_with_payload") then verified b s seats true es
    else if bytes_eq text (codes "update_checksum") then updated b s seats false es
    else if bytes_eq text (codes "update_checksum_with_payload") then updated b s seats true es
    else if bytes_eq text (codes "clone_preserving_field_list") then clones b s seats es
    else if bytes_eq text (codes "resubmit_preserving_field_list") then executes (Some (extern.Request Resubmit (number_given (given_at es 0)))) (Some [])
    else if bytes_eq text (codes "recirculate_preserving_field_list") then executes (Some (extern.Request Recirculate (number_given (given_at es 0)))) (Some [])
    else None

-- objects, by their numbers

abbrev pub with_target : (Target → Extern) → Option Target → Option Extern
with_target f to = option_map f to

abbrev pub register_deed : Around → Scope → List NamedSeat → Name → ℕ → List Exp16 → Option Deed
register_deed b s seats word number es =
    if bytes_eq word (codes "read") then executes (with_target (λ to. extern.Read number to) (target_given s seats (given_at es 0))) (value_given b s seats index_place (given_at es 1))
    else if bytes_eq word (codes "write") then executes (Some (extern.Write number)) (join_option (value_given b s seats index_place (given_at es 0)) (value_given b s seats any_bits (given_at es 1)))
    else None

-- what has one method, of this name
abbrev pub only_called : Name → Name → Option Deed → Option Deed
only_called known word d = if bytes_eq word known then d else None

abbrev pub object_deed : Around → Scope → List NamedSeat → ObjectKind → Name → ℕ → List Exp16 → Option Deed
object_deed b s seats counter word number es =
    only_called (codes "count") word
    (executes (option_map (λ length. extern.Count number length) (standard_slot b (codes "packet_length"))) (value_given b s seats index_place (given_at es 0)))
object_deed b s seats direct_counter word number es =
    only_called (codes "count") word
    (executes (option_map (λ length. extern.CountEntry number length) (standard_slot b (codes "packet_length"))) (Some []))
object_deed b s seats register word number es = register_deed b s seats word number es
object_deed b s seats meter word number es =
    only_called (codes "execute_meter") word
    (executes (with_target (λ to. extern.ExecuteMeter number to) (target_given s seats (given_at es 1))) (value_given b s seats index_place (given_at es 0)))

-- methods

abbrev pub header_deed : Around → Scope → List NamedSeat → Exp16 → Name → Option Deed
header_deed b s seats e word =
    if bytes_eq word (codes "setValid") then option_map (λ r. set_valid r true) (range_given s seats e)
    else if bytes_eq word (codes "setInvalid") then option_map (λ r. set_valid r false) (range_given s seats e)
    else if bytes_eq word (codes "isValid") then option_map let_go (asked_test s seats (table_found b) owner its_validity e)
    else None

abbrev pub stack_deed : Scope → List NamedSeat → Exp16 → Name → List Exp16 → Option Deed
stack_deed s seats e word es = option_and_then by_word (option_and_then fixed_range (range_given s seats e)) where
  by_word : Range → Option Deed
  by_word r =
      if bytes_eq word (codes "push_front") then Some (push_front r (number_given (given_at es 0)))
      else if bytes_eq word (codes "pop_front") then Some (pop_front r (number_given (given_at es 0)))
      else None

-- the call of a method of something of a kind, which has it
abbrev pub method_deed : Around → Scope → List NamedSeat → Kind → Exp16 → Name → List Exp16 → Option Deed
method_deed b s seats (header type) e word es = header_deed b s seats e word
method_deed b s seats (stack type size) e word es = stack_deed s seats e word es
method_deed b s seats packet_in e word es =
    only_called (codes "extract") word (option_map extract_header (range_given s seats (given_at es 0)))
method_deed b s seats packet_out e word es =
    only_called (codes "emit") word (option_map emit_headers (ready_source s seats (table_found b) (given_at es 0)))
method_deed b s seats (object kind) e word es = object_deed b s seats kind word (object_found b e) es
method_deed b s seats table e word es = only_called (codes "apply") word (option_map apply (table_found b (name_in e)))
method_deed b s seats _ e word es = None

-- a call of this with these arguments

abbrev pub named_statement : Around → Scope → List NamedSeat → Sort → Name → List Exp16 → Option Statement
named_statement b s seats (an_action plane handed) text es = option_and_then (action_call b s seats es) (action_found b text)
named_statement b s seats a_function text es = option_map does (function_deed b s seats text es)
named_statement b s seats _ text es = None

abbrev pub call_ready : Around → Scope → List NamedSeat → Exp16 → Exp16 → Option Statement
call_ready b s seats (name text) given = named_statement b s seats (sort_of s text) text (arguments_of given)
call_ready b s seats (member e word) given =
    option_map does (method_deed b s seats (kind_of s e) e word (arguments_of given))
call_ready b s seats _ given = None

-- a call as a statement; a value that it gives is let go
abbrev pub expression_ready : Around → Scope → List NamedSeat → Exp16 → Option Statement
expression_ready b s seats (call e given) = call_ready b s seats e given
expression_ready b s seats e = option_map (λ t. does (let_go t)) (asked_test s seats (table_found b) owner its_value e)
