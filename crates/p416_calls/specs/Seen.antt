-- Which place of the rules a place of code is, and what a function, a method or an action that is called wants.
use Rattle.std.specs.Prelude.{Bool, true, false, List, [], ◌∷◌, map, Option, Some, None, if◌then◌else◌}
use Rattle.std.specs.Str.{bytes_eq}
use Rattle.p416_syntax.specs.Names.{Name}
use Rattle.p416_syntax.specs.Kinds.{bits, boolean, nothing, applied}
use Rattle.p416_syntax.specs.Scopes.{Known, handed}
use Rattle.p416_syntax.specs.BuiltIn.{standard}
use Rattle.p416_syntax.specs.Calls as rule
use Rattle.p416_syntax.specs.Calls.{Signature, extern_at, in_pipelines, checksum_places, clone_signature, list_number, index_place, method, counts_by_entry, action_signature, parser_position, verify_position, ingress_position, egress_position, compute_position, deparser_position}
use Rattle.p416_syntax.specs.Kinds as kind
use Rattle.p416_names.specs.SeenKinds.{seen_enumeration, seen_kind}
use Rattle.p416_calls.specs.declared.place.Place.{Place}
use Rattle.p416_calls.specs.declared.place.Place.TheVariants as place_of
use Rattle.p416_calls.specs.declared.callee.Function.{Function}
use Rattle.p416_calls.specs.declared.callee.Function.TheVariants as function_of
use Rattle.p416_calls.specs.declared.callee.Method.{Method}
use Rattle.p416_calls.specs.declared.callee.Method.TheVariants as method_of
use Rattle.p416_calls.specs.declared.callee.Callee.{Callee}
use Rattle.p416_calls.specs.declared.callee.Callee.TheVariants as callee_of

abbrev pub unasked : Place
unasked = place_of.Unasked

abbrev pub seen_place : Place → rule.Place
seen_place (place_of.Value k) = rule.value (seen_kind k)
seen_place (place_of.Written k) = rule.written (seen_kind k)
seen_place place_of.AnyBits = rule.any_bits
seen_place place_of.WrittenBits = rule.written_bits
seen_place place_of.OneBit = rule.one_bit
seen_place place_of.BitsOrBoolean = rule.bits_or_boolean
seen_place place_of.WrittenHeader = rule.written_header
seen_place place_of.Emitted = rule.emitted
seen_place (place_of.LiteralOf k) = rule.literal_of (seen_kind k)
seen_place place_of.AnyLiteral = rule.any_literal
seen_place place_of.ItemList = rule.item_list
seen_place (place_of.MemberOf e) = rule.member_place (seen_enumeration e)
seen_place place_of.SelectKey = rule.select_key
seen_place (place_of.TableKey is_exact) = rule.table_key is_exact
seen_place place_of.Target = rule.target
seen_place place_of.Owner = rule.owner
seen_place place_of.WrittenOwner = rule.written_owner
seen_place place_of.Stack = rule.a_stack
seen_place place_of.Called = rule.callee
seen_place place_of.Statement = rule.statement
seen_place place_of.Unasked = rule.unasked

-- what functions and methods want, give, and where they may stand
abbrev pub function_seen : Function → Signature
function_seen function_of.MarkToDrop = in_pipelines (rule.written standard ∷ [])
function_seen function_of.Hash = in_pipelines (rule.written_bits ∷ rule.member_place kind.hash_algorithm ∷ rule.any_bits ∷ rule.item_list ∷ rule.any_bits ∷ [])
function_seen function_of.VerifyChecksum = extern_at (verify_position ∷ []) (checksum_places rule.any_bits)
function_seen function_of.UpdateChecksum = extern_at (compute_position ∷ []) (checksum_places rule.written_bits)
function_seen function_of.Clone = clone_signature
function_seen function_of.Resubmit = extern_at (ingress_position ∷ []) (list_number ∷ [])
function_seen function_of.Recirculate = extern_at (egress_position ∷ []) (list_number ∷ [])

abbrev pub method_seen : Method → Signature
method_seen method_of.IsValid = method false [] boolean
method_seen method_of.SetValidity = method true [] nothing
method_seen method_of.Shift = method true (rule.literal_of (bits 32) ∷ []) nothing
method_seen method_of.Count = in_pipelines (index_place ∷ [])
method_seen method_of.CountEntry = counts_by_entry
method_seen method_of.Read = in_pipelines (rule.written_bits ∷ index_place ∷ [])
method_seen method_of.Write = in_pipelines (index_place ∷ rule.any_bits ∷ [])
method_seen method_of.ExecuteMeter = in_pipelines (index_place ∷ rule.written_bits ∷ [])
method_seen method_of.Extract = extern_at (parser_position ∷ []) (rule.written_header ∷ [])
method_seen method_of.Emit = extern_at (deparser_position ∷ []) (rule.emitted ∷ [])
method_seen method_of.Apply = method false [] applied

-- the one method, where it has this name
abbrev pub only_seen : Name → Method → Name → Option Signature
only_seen called m text = if bytes_eq text called then Some (method_seen m) else None

-- the types of an action's parameters are looked up at the top
abbrev pub seen_callee : List Known → Callee → Option Signature
seen_callee top (callee_of.Action a) = Some (action_signature (map (handed top) a.now.parameters))
seen_callee top (callee_of.Function f) = Some (function_seen f)
seen_callee top (callee_of.Method m) = Some (method_seen m)
seen_callee top callee_of.Nothing = None

-- a call writes what stands before the method
abbrev pub writes_owner : Option Signature → Bool
writes_owner (Some signature) = signature.writes_owner
writes_owner None = false
