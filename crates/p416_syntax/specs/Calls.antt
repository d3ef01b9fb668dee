-- Which places there are for expressions, and what calls want for their arguments, give, and where they may stand (P4_16
-- 1.2, "Function calls and method invocations", "Operations on headers", "Operations on header stacks", "Match-action unit
-- invocation"; `core.p4`; `v1model.p4`; which calls there are is this project's own).
use Rattle.std.specs.Prelude.{ℕ, Bool, true, false, if◌then◌else◌, List, [], ◌∷◌, map, codes, Option, Some, None}
use Rattle.std.specs.Str.{bytes_eq}
use Rattle.p416_syntax.specs.Names.{Name}
use Rattle.p416_syntax.specs.Kinds.{Enumeration, hash_algorithm, clone_type, ObjectKind, counter, direct_counter, register, meter, Kind, bits, boolean, header, stack, packet_in, packet_out, table, applied, object, nothing}
use Rattle.p416_syntax.specs.Scopes.{Handed}
use Rattle.p416_syntax.specs.BuiltIn.{standard}

-- What the place of an expression asks for. A number without a width is taken where the width is known; a place that is
-- written takes one too, since T5 refuses it.
pub data Place : Type 0 where
  -- what is of this kind; the same, and it is written too. Where the kind is `unknown`, nothing fits.
  value : (kind : Kind) → Place
  written : (kind : Kind) → Place
  -- bits, whatever their width; the same, and they are written
  any_bits : Place
  written_bits : Place
  -- what a cast to `bool`, and one to `bit<1>`, is of
  one_bit : Place
  bits_or_boolean : Place
  -- a header that is written; a header or a stack, whose headers are put into the packet
  written_header : Place
  emitted : Place
  -- a literal of this kind; one of any kind
  literal_of : (kind : Kind) → Place
  any_literal : Place
  -- a list in braces; a member of this enumeration
  item_list : Place
  member_place : (of : Enumeration) → Place
  -- a key of `select`; a key of a table, by its kind of match
  select_key : Place
  table_key : (is_exact : Bool) → Place
  -- the target of an assignment
  target : Place
  -- what stands before a member; the same, and the method that is called writes it; a stack before an element
  owner : Place
  written_owner : Place
  a_stack : Place
  -- what is called; a call as a statement; what nothing is asked of, as an argument for which there is no parameter
  callee : Place
  statement : Place
  unasked : Place

-- Where a call may stand: anywhere; in a block at these places of `main`; in an action of a block that stands in `main` (that
-- its table has the direct counter is left to T9); or in a block at the place that the member of `CloneType` says.
pub data Stand : Type 0 where
  anywhere : Stand
  at_positions : (positions : List ℕ) → Stand
  in_its_actions : Stand
  by_clone_type : Stand

-- What a call wants for its arguments, what it gives, whether it writes what stands before the method, and where it may
-- stand.
pub record Signature : Type 0 where
  pub wanted : List Place
  pub gives : Kind
  pub writes_owner : Bool
  pub stands : Stand

-- the places of `main`
abbrev pub parser_position : ℕ
parser_position = 0

abbrev pub verify_position : ℕ
verify_position = 1

abbrev pub ingress_position : ℕ
ingress_position = 2

abbrev pub egress_position : ℕ
egress_position = 3

abbrev pub compute_position : ℕ
compute_position = 4

abbrev pub deparser_position : ℕ
deparser_position = 5

-- a call that gives nothing and may stand at these places of `main`
abbrev pub extern_at : List ℕ → List Place → Signature
extern_at positions wanted = record { wanted = wanted; gives = nothing; writes_owner = false; stands = at_positions positions }

-- ingress and egress
abbrev pub in_pipelines : List Place → Signature
in_pipelines wanted = extern_at (ingress_position ∷ egress_position ∷ []) wanted

-- condition, list, field and algorithm
abbrev pub checksum_places : Place → List Place
checksum_places field_place = value boolean ∷ item_list ∷ field_place ∷ member_place hash_algorithm ∷ []

-- the number of a field list
abbrev pub list_number : Place
list_number = literal_of (bits 8)

abbrev pub index_place : Place
index_place = value (bits 32)

abbrev pub clone_signature : Signature
clone_signature = record {
  wanted = member_place clone_type ∷ index_place ∷ list_number ∷ [];
  gives = nothing;
  writes_owner = false;
  stands = by_clone_type;
}

-- the functions of `v1model.p4`
abbrev pub function_signature : Name → Option Signature
function_signature text =
    if bytes_eq text (codes "mark_to_drop") then Some (in_pipelines (written standard ∷ [])) else
    if bytes_eq text (codes "hash") then Some (in_pipelines (written_bits ∷ member_place hash_algorithm ∷ any_bits ∷ item_list ∷ any_bits ∷ [])) else
    if bytes_eq text (codes "verify_checksum") then Some (extern_at (verify_position ∷ []) (checksum_places any_bits)) else
    if bytes_eq text (codes "verify_checksum_with_payload") then Some (extern_at (verify_position ∷ []) (checksum_places any_bits)) else
    if bytes_eq text (codes "update_checksum") then Some (extern_at (compute_position ∷ []) (checksum_places written_bits)) else
    if bytes_eq text (codes "update_checksum_with_payload") then Some (extern_at (compute_position ∷ []) (checksum_places written_bits)) else
    if bytes_eq text (codes "clone_preserving_field_list") then Some clone_signature else
    if bytes_eq text (codes "resubmit_preserving_field_list") then Some (extern_at (ingress_position ∷ []) (list_number ∷ [])) else
    if bytes_eq text (codes "recirculate_preserving_field_list") then Some (extern_at (egress_position ∷ []) (list_number ∷ [])) else
    None

-- methods that aren't extern: they may stand anywhere
abbrev pub method : Bool → List Place → Kind → Signature
method writes wanted gives = record { wanted = wanted; gives = gives; writes_owner = writes; stands = anywhere }

abbrev pub header_method : Name → Option Signature
header_method word =
    if bytes_eq word (codes "isValid") then Some (method false [] boolean) else
    if bytes_eq word (codes "setValid") then Some (method true [] nothing) else
    if bytes_eq word (codes "setInvalid") then Some (method true [] nothing) else
    None

abbrev pub stack_method : Name → Option Signature
stack_method word =
    if bytes_eq word (codes "push_front") then Some (method true (literal_of (bits 32) ∷ []) nothing) else
    if bytes_eq word (codes "pop_front") then Some (method true (literal_of (bits 32) ∷ []) nothing) else
    None

-- the one method of these things, where it has this name
abbrev pub only_method : Name → Signature → Name → Option Signature
only_method text signature word = if bytes_eq word text then Some signature else None

abbrev pub counts_by_entry : Signature
counts_by_entry = record { wanted = []; gives = nothing; writes_owner = false; stands = in_its_actions }

abbrev pub register_method : Name → Option Signature
register_method word =
    if bytes_eq word (codes "read") then Some (in_pipelines (written_bits ∷ index_place ∷ [])) else
    if bytes_eq word (codes "write") then Some (in_pipelines (index_place ∷ any_bits ∷ [])) else
    None

abbrev pub object_method : ObjectKind → Name → Option Signature
object_method counter word = only_method (codes "count") (in_pipelines (index_place ∷ [])) word
object_method direct_counter word = only_method (codes "count") counts_by_entry word
object_method register word = register_method word
object_method meter word = only_method (codes "execute_meter") (in_pipelines (index_place ∷ written_bits ∷ [])) word

-- the method with this name of what stands before it, but for `lookahead`
abbrev pub method_signature : Kind → Name → Option Signature
method_signature (header type) word = header_method word
method_signature (stack type size) word = stack_method word
method_signature packet_in word = only_method (codes "extract") (extern_at (parser_position ∷ []) (written_header ∷ [])) word
method_signature packet_out word = only_method (codes "emit") (extern_at (deparser_position ∷ []) (emitted ∷ [])) word
method_signature table word = only_method (codes "apply") (method false [] applied) word
method_signature (object of) word = object_method of word
method_signature _ word = None

-- the call of an action with these parameters

abbrev pub place_of : Handed → Place
place_of h = if h.is_written then written h.kind else value h.kind

abbrev pub action_signature : List Handed → Signature
action_signature parameters = method false (map place_of parameters) nothing
