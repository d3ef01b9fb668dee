-- Calls as statements: of actions, of what headers and stacks can do, and of externs (P4_16 1.2, "Calling convention: call by
-- copy in/copy out", "Function calls and method invocations", "Invoking actions"). Arguments are evaluated and copied in from
-- left to right, and copied out in the order of their positions.
use Rattle.std.specs.Prelude.{ℕ, Bool, ◌&&◌, if◌then◌else◌, List, [], ◌∷◌, ◌++◌, map, slice_index_or, Option, Some, None, codes}
use Rattle.std.specs.Str.{bytes_eq}
use Rattle.p4x_bits.specs.BitLists.{bits as bit_list}
use Rattle.p416_syntax.specs.declared.parts.Direction.{Direction}
use Rattle.p416_syntax.specs.declared.parts.Direction.TheVariants.{Out, InOut}
use Rattle.p416_syntax.specs.declared.parts.Param.{Param}
use Rattle.p416_syntax.specs.declared.controls.Action16.{Action16}
use Rattle.p416_syntax.specs.Tree.{Exp16, name, member, call, argument, listed}
use Rattle.p416_syntax.specs.Names.{Name}
use Rattle.p416_syntax.specs.Kinds.{ObjectKind, counter, direct_counter, register, meter, Kind, header, stack, packet_in, packet_out, table, object, is_stack}
use Rattle.p416_syntax.specs.Scopes.{Handed, Sort, an_action, a_function, Scope, sort_of, kind_of_type}
use Rattle.p416_syntax.specs.Calls.{Place, any_bits, owner, emitted, place_of, method_signature}
use Rattle.p416_syntax.specs.Expressions.{kind_of, signature_of}
use Rattle.p416_syntax.specs.Uses.{wanted_by, arguments_of}
use Rattle.p416_syntax.specs.Writes.{is_written_place}
use Rattle.v1_core.specs.Values.{Value, a_member, no_members, some_bits, no_value, number_in, width_in, is_true, symbol_in, bits_of_list, member_in, fitted, zero_value}
use Rattle.v1_core.specs.Frames.{Moment, going_on, Reference, nowhere, read, put_at, with_inner}
use Rattle.v1_core.specs.Signatures.{object_number, plane_of_object}
use Rattle.v1_core.specs.Surroundings.{Surroundings, World, action_named}
use Rattle.v1_core.specs.Expressions.{Valued, valued, Referred, name_in, value_of, reference_of}
use Rattle.v1_core.specs.HeaderCalls.{header_call, stack_call}
use Rattle.v1_core.specs.Externs.Packets.{extract, emit}
use Rattle.v1_core.specs.Externs.Ports.{mark_to_drop}
use Rattle.v1_core.specs.Externs.Objects.{count, count_entry, register_read, register_write, execute_meter}
use Rattle.v1_core.specs.Externs.Hashes.{hash}
use Rattle.v1_core.specs.Externs.Checksums.{with_payload, verify_checksum, update_checksum}
use Rattle.v1_core.specs.Externs.Requests.{clone_preserving, resubmit_preserving, recirculate_preserving}

-- arguments

-- an argument: what it means as an l-value, where it is written, and its value
pub record Given : Type 0 where
  pub target : Reference
  pub value : Value

abbrev pub no_argument : Given
no_argument = record { target = nowhere; value = no_value }

-- arguments, and what evaluating them leaves
pub record Arguments : Type 0 where
  pub given : List Given
  pub moment : Moment

-- the items of a list in braces, as bits, item after item
abbrev pub items_of : World → Scope → Exp16 → Moment → Valued
items_of w s (argument before last) m =
    let x = items_of w s before m in
    let y = value_of w s any_bits last x.moment in
    valued (some_bits (bits_of_list x.value ++ bit_list (width_in y.value) (number_in y.value))) y.moment
items_of w s _ m = valued (some_bits []) m

abbrev pub by_value : Valued → Given × Moment
by_value x = (record { target = nowhere; value = x.value }, x.moment)

abbrev pub by_reference : Referred → Given × Moment
by_reference x = (record { target = x.reference; value = read x.moment.frame x.reference }, x.moment)

-- one argument at its place
abbrev pub argument_at : World → Scope → Place → Exp16 → Moment → Given × Moment
argument_at w s p (listed es) m = by_value (items_of w s es m)
argument_at w s p e m =
    if is_written_place p then by_reference (reference_of w.around s e m) else by_value (value_of w s p e m)

-- from left to right
abbrev pub arguments_from : World → Scope → List Place → List Exp16 → Moment → Arguments
arguments_from w s [] es m = record { given = []; moment = m }
arguments_from w s (p ∷ places) [] m = record { given = []; moment = m }
arguments_from w s (p ∷ places) (e ∷ es) m =
    let first = argument_at w s p e m in
    let rest = arguments_from w s places es first.1 in
    record { given = first.0 ∷ rest.given; moment = rest.moment }

abbrev pub arguments : World → Scope → List Place → Exp16 → Moment → Arguments
arguments w s places given m = arguments_from w s places (arguments_of given) m

-- arguments by their positions, from 0

abbrev pub given_at : List Given → ℕ → Given
given_at given n = slice_index_or given n no_argument

abbrev pub target_at : List Given → ℕ → Reference
target_at given n = (given_at given n).target

abbrev pub value_at : List Given → ℕ → Value
value_at given n = (given_at given n).value

abbrev pub number_at : List Given → ℕ → ℕ
number_at given n = number_in (value_at given n)

abbrev pub symbol_at : List Given → ℕ → Name
symbol_at given n = symbol_in (value_at given n)

abbrev pub bits_at : List Given → ℕ → List Bool
bits_at given n = bits_of_list (value_at given n)

abbrev pub holds_at : List Given → ℕ → Bool
holds_at given n = is_true (value_at given n)

-- actions

-- what a parameter starts with: an `out` one at 0, any other with its argument, which is cut to the parameter's width
abbrev pub copied_in : Option Direction → Value → Value → Value
copied_in (Some Out) zero v = zero
copied_in _ zero v = fitted zero v

-- the parameters of an action with its arguments
abbrev pub bound_arguments : Scope → List Param → List Given → Value
bound_arguments s [] given = no_members
bound_arguments s (p ∷ parameters) [] = no_members
bound_arguments s (p ∷ parameters) (g ∷ given) =
    a_member p.name (copied_in p.direction (zero_value s.layouts (kind_of_type s.names p.of)) g.value)
    (bound_arguments s parameters given)

-- an `out` or `inout` parameter goes back to its argument
abbrev pub copied_back : Option Direction → Reference → Value → Moment → Moment
copied_back (Some Out) to v m = put_at to v m
copied_back (Some InOut) to v m = put_at to v m
copied_back _ to v m = m

abbrev pub copied_out : List Param → List Given → Value → Moment → Moment
copied_out [] given inner m = m
copied_out (p ∷ parameters) [] inner m = m
copied_out (p ∷ parameters) (g ∷ given) inner m =
    copied_out parameters given inner (copied_back p.direction g.target (member_in inner p.name) m)

-- The body sees the block's own names and its parameters, and none of the variables of the statement that calls it.
abbrev pub acted : World → Action16 → Arguments → Moment
acted w a x =
    let m = w.act a (with_inner (bound_arguments w.around.scope a.parameters x.given) x.moment) in
    copied_out a.parameters x.given m.frame.inner (with_inner x.moment.frame.inner m)

-- a call of an action of the block
abbrev pub call_action : World → Scope → List Handed → Option Action16 → Exp16 → Moment → Moment
call_action w s handed None given m = m
call_action w s handed (Some a) given m = acted w a (arguments w s (map place_of handed) given m)

-- the functions of `v1model.p4`
abbrev pub function_call : Name → List Given → Moment → Moment
function_call text given m =
    if bytes_eq text (codes "mark_to_drop") then mark_to_drop (target_at given 0) m
    else if bytes_eq text (codes "hash") then
    hash (target_at given 0) (symbol_at given 1) (number_at given 2) (bits_at given 3) (number_at given 4) m
    else if bytes_eq text (codes "verify_checksum") then
    verify_checksum (holds_at given 0) (bits_at given 1) (value_at given 2) (symbol_at given 3) m
    else if bytes_eq text (codes "verify_checksum_with_payload") then
    verify_checksum (holds_at given 0) (with_payload m (bits_at given 1)) (value_at given 2) (symbol_at given 3) m
    else if bytes_eq text (codes "update_checksum") then
    update_checksum (holds_at given 0) (bits_at given 1) (target_at given 2) (symbol_at given 3) m
    else if bytes_eq text (codes "update_checksum_with_payload") then
    update_checksum (holds_at given 0) (with_payload m (bits_at given 1)) (target_at given 2) (symbol_at given 3) m
    else if bytes_eq text (codes "clone_preserving_field_list") then
    clone_preserving (symbol_at given 0) (number_at given 1) (number_at given 2) m
    else if bytes_eq text (codes "resubmit_preserving_field_list") then resubmit_preserving (number_at given 0) m
    else if bytes_eq text (codes "recirculate_preserving_field_list") then recirculate_preserving (number_at given 0) m
    else m

-- a call of what a name of this sort means
abbrev pub named_call : World → Scope → Sort → Name → Exp16 → Moment → Moment
named_call w s (an_action plane handed) text given m = call_action w s handed (action_named w.around text) given m
named_call w s a_function text given m =
    let x = arguments w s (wanted_by (signature_of s (name text))) given m in function_call text x.given x.moment
named_call w s _ text given m = m

-- objects

abbrev pub object_in : World → Exp16 → ℕ
object_in w e =
    let b = w.around in
    object_number b.setting.syntax (plane_of_object b.setting.syntax.decls b.locals (name_in e))

abbrev pub register_call : Name → ℕ → List Given → Moment → Moment
register_call word number given m =
    if bytes_eq word (codes "read") then register_read number (target_at given 0) (number_at given 1) m
    else register_write number (number_at given 0) (number_at given 1) m

-- by the number of the object
abbrev pub object_call : ObjectKind → Name → ℕ → List Given → Moment → Moment
object_call counter word number given m = count number (number_at given 0) m
object_call direct_counter word number given m = count_entry number m
object_call register word number given m = register_call word number given m
object_call meter word number given m = execute_meter number (number_at given 0) (target_at given 1) m

-- the stack whose `next` an argument is
abbrev pub stack_of_next : Surroundings → Scope → Exp16 → Moment → Option Reference
stack_of_next b s (member e word) m =
    if is_stack (kind_of s e) && bytes_eq word (codes "next") then Some (reference_of b s e m).reference else None
stack_of_next b s _ m = None

abbrev pub first_stack_of_next : Surroundings → Scope → List Exp16 → Moment → Option Reference
first_stack_of_next b s [] m = None
first_stack_of_next b s (e ∷ es) m = stack_of_next b s e m

-- the call of a method of something of a kind; a header or a stack is found before the arguments are evaluated
abbrev pub method_call : World → Scope → Kind → Exp16 → Name → Exp16 → Moment → Moment
method_call w s (header type) e word given m =
    if bytes_eq word (codes "isValid") then (value_of w s owner e m).moment
    else let x = reference_of w.around s e m in going_on (header_call word x.reference) x.moment
method_call w s (stack type size) e word given m =
    let x = reference_of w.around s e m in
    let y = arguments w s (wanted_by (method_signature (stack type size) word)) given x.moment in
    going_on (stack_call word x.reference (number_at y.given 0)) y.moment
method_call w s packet_in e word given m =
    let x = arguments w s (wanted_by (method_signature packet_in word)) given m in
    going_on (extract (target_at x.given 0) (first_stack_of_next w.around s (arguments_of given) m)) x.moment
method_call w s packet_out e word given m =
    let x = arguments w s (emitted ∷ []) given m in emit (value_at x.given 0) x.moment
method_call w s (object kind) e word given m =
    let x = arguments w s (wanted_by (method_signature (object kind) word)) given m in
    object_call kind word (object_in w e) x.given x.moment
method_call w s table e word given m = (w.apply (name_in e) m).moment
method_call w s _ e word given m = m

-- what a call of this with these arguments leaves
abbrev pub call_leaves : World → Scope → Exp16 → Exp16 → Moment → Moment
call_leaves w s (name text) given m = named_call w s (sort_of s text) text given m
call_leaves w s (member e word) given m = method_call w s (kind_of s e) e word given m
call_leaves w s _ given m = m

-- A call as a statement. A value that it gives is let go.
abbrev pub call_statement : World → Scope → Exp16 → Moment → Moment
call_statement w s (call e given) m = call_leaves w s e given m
call_statement w s e m = (value_of w s owner e m).moment
