-- Of an accepted program no error comes in the actions of its controls: no stack tells an element there, and nothing is read or
-- looked ahead at (T1, T10).
use Rattle.std.proofs.Common.{◌≡◌, ℕ, zero, suc, ◌&&◌, not, nat_eq, Bool, true, false, cond, codes, Option, Some, None, is_none, List, [], ◌∷◌, ◌++◌, map, get_or, refl, sym, ◌∙◌, bytes_eq}
use Rattle.std.specs.List.{list_any}
use Rattle.std.specs.Option.{option_map_or}
use Rattle.p416_syntax.specs.declared.node.CastType.{CastType}
use Rattle.p416_syntax.specs.declared.node.CastType.TheVariants as cast_to
use Rattle.p416_syntax.specs.declared.node.UnaryOperator.{UnaryOperator}
use Rattle.p416_syntax.specs.declared.node.UnaryOperator.TheVariants.{Not, Complement, Negate}
use Rattle.p416_syntax.specs.declared.node.BinaryOperator.{BinaryOperator}
use Rattle.p416_syntax.specs.declared.node.BinaryOperator.TheVariants.{Multiply, Add, Subtract, SaturatingAdd, SaturatingSubtract, Concatenate, ShiftLeft, ShiftRight, BitAnd, BitXor, BitOr, Less, LessEqual, Greater, GreaterEqual, Equal, NotEqual, And, Or}
use Rattle.p416_syntax.specs.Tree.{Exp16, literal, truth, error, name, member, index, slice, call, lookahead, cast, unary, binary, choice, parenthesized, no_arguments, argument, listed}
use Rattle.p416_syntax.specs.Names.{Name}
use Rattle.p416_syntax.specs.Kinds.{hash_algorithm, counter, direct_counter, register, meter, Kind, bits, unsized, boolean, error_code, header, stack, struct, packet_in, packet_out, errors, enumeration, one_of, table, applied, object, items, nothing, unknown, is_unsized, is_plain, is_stack}
use Rattle.p416_syntax.specs.Scopes.{Handed, Sort, a_type, a_value, an_enumeration, a_function, an_object, an_action, a_table, a_state, a_block, undeclared, Scope, sort_of}
use Rattle.p416_syntax.specs.BuiltIn.{standard}
use Rattle.p416_syntax.specs.Calls.{Place, extern_at, in_pipelines, checksum_places, list_number, index_place, clone_signature, method, counts_by_entry, verify_position, ingress_position, egress_position, compute_position, deparser_position, value, written, any_bits, written_bits, one_bit, bits_or_boolean, written_header, emitted, literal_of, any_literal, item_list, member_place, select_key, table_key, target, owner, written_owner, a_stack, callee, statement, unasked, Signature, parser_position, place_of, function_signature, method_signature}
use Rattle.p416_syntax.specs.Expressions.{kind_of, member_kind, sort_signature, signature_of, argument_count, is_chosen}
use Rattle.p416_syntax.specs.Uses.{Use, an_expression, joint_place, compared_place, chosen_place, unary_place, left_place, right_place, cast_place, owner_by, owner_place, wanted_by, Places, one, many, uses, uses_at, type_uses, of_lookahead, cast_numbers, a_number, arguments_of}
use Rattle.p416_syntax.specs.Unknown.{is_misnamed, is_unknown_member}
use Rattle.p416_syntax.specs.Externs.{is_outside_block, stands_elsewhere, is_parser_part, is_place_word, are_allowed}
use Rattle.v1_block_laws.proofs.Tests.{first_false, second_false, in_front, at_end}
use Rattle.v1_control_laws.specs.Erring.{MayTell, MayRead, FreeIn, Free, AllFree, FreeCallee, FreeCall, FreeAt}
use Rattle.v1_control_laws.proofs.Values.{either}

-- places that are none of what is called
abbrev pub IsElsewhere : Place → Type 0
IsElsewhere callee = ⊥
IsElsewhere p = Unit {0}

joint_elsewhere : (p : Place) (a b : Kind) → IsElsewhere p → IsElsewhere (joint_place p a b)
joint_elsewhere p (bits width) b h = tt
joint_elsewhere p unsized (bits least) h = tt
joint_elsewhere p unsized unsized h = h
joint_elsewhere p unsized boolean h = tt
joint_elsewhere p unsized error_code h = tt
joint_elsewhere p unsized (header other) h = tt
joint_elsewhere p unsized (stack other extent) h = tt
joint_elsewhere p unsized (struct other) h = tt
joint_elsewhere p unsized packet_in h = tt
joint_elsewhere p unsized packet_out h = tt
joint_elsewhere p unsized errors h = tt
joint_elsewhere p unsized (enumeration which) h = tt
joint_elsewhere p unsized (one_of which) h = tt
joint_elsewhere p unsized table h = tt
joint_elsewhere p unsized applied h = tt
joint_elsewhere p unsized (object thing) h = tt
joint_elsewhere p unsized items h = tt
joint_elsewhere p unsized nothing h = tt
joint_elsewhere p unsized unknown h = tt
joint_elsewhere p boolean (bits least) h = tt
joint_elsewhere p boolean unsized h = tt
joint_elsewhere p boolean boolean h = tt
joint_elsewhere p boolean error_code h = tt
joint_elsewhere p boolean (header other) h = tt
joint_elsewhere p boolean (stack other extent) h = tt
joint_elsewhere p boolean (struct other) h = tt
joint_elsewhere p boolean packet_in h = tt
joint_elsewhere p boolean packet_out h = tt
joint_elsewhere p boolean errors h = tt
joint_elsewhere p boolean (enumeration which) h = tt
joint_elsewhere p boolean (one_of which) h = tt
joint_elsewhere p boolean table h = tt
joint_elsewhere p boolean applied h = tt
joint_elsewhere p boolean (object thing) h = tt
joint_elsewhere p boolean items h = tt
joint_elsewhere p boolean nothing h = tt
joint_elsewhere p boolean unknown h = tt
joint_elsewhere p error_code (bits least) h = tt
joint_elsewhere p error_code unsized h = tt
joint_elsewhere p error_code boolean h = tt
joint_elsewhere p error_code error_code h = tt
joint_elsewhere p error_code (header other) h = tt
joint_elsewhere p error_code (stack other extent) h = tt
joint_elsewhere p error_code (struct other) h = tt
joint_elsewhere p error_code packet_in h = tt
joint_elsewhere p error_code packet_out h = tt
joint_elsewhere p error_code errors h = tt
joint_elsewhere p error_code (enumeration which) h = tt
joint_elsewhere p error_code (one_of which) h = tt
joint_elsewhere p error_code table h = tt
joint_elsewhere p error_code applied h = tt
joint_elsewhere p error_code (object thing) h = tt
joint_elsewhere p error_code items h = tt
joint_elsewhere p error_code nothing h = tt
joint_elsewhere p error_code unknown h = tt
joint_elsewhere p (header type) (bits least) h = tt
joint_elsewhere p (header type) unsized h = tt
joint_elsewhere p (header type) boolean h = tt
joint_elsewhere p (header type) error_code h = tt
joint_elsewhere p (header type) (header other) h = tt
joint_elsewhere p (header type) (stack other extent) h = tt
joint_elsewhere p (header type) (struct other) h = tt
joint_elsewhere p (header type) packet_in h = tt
joint_elsewhere p (header type) packet_out h = tt
joint_elsewhere p (header type) errors h = tt
joint_elsewhere p (header type) (enumeration which) h = tt
joint_elsewhere p (header type) (one_of which) h = tt
joint_elsewhere p (header type) table h = tt
joint_elsewhere p (header type) applied h = tt
joint_elsewhere p (header type) (object thing) h = tt
joint_elsewhere p (header type) items h = tt
joint_elsewhere p (header type) nothing h = tt
joint_elsewhere p (header type) unknown h = tt
joint_elsewhere p (stack type size) (bits least) h = tt
joint_elsewhere p (stack type size) unsized h = tt
joint_elsewhere p (stack type size) boolean h = tt
joint_elsewhere p (stack type size) error_code h = tt
joint_elsewhere p (stack type size) (header other) h = tt
joint_elsewhere p (stack type size) (stack other extent) h = tt
joint_elsewhere p (stack type size) (struct other) h = tt
joint_elsewhere p (stack type size) packet_in h = tt
joint_elsewhere p (stack type size) packet_out h = tt
joint_elsewhere p (stack type size) errors h = tt
joint_elsewhere p (stack type size) (enumeration which) h = tt
joint_elsewhere p (stack type size) (one_of which) h = tt
joint_elsewhere p (stack type size) table h = tt
joint_elsewhere p (stack type size) applied h = tt
joint_elsewhere p (stack type size) (object thing) h = tt
joint_elsewhere p (stack type size) items h = tt
joint_elsewhere p (stack type size) nothing h = tt
joint_elsewhere p (stack type size) unknown h = tt
joint_elsewhere p (struct type) (bits least) h = tt
joint_elsewhere p (struct type) unsized h = tt
joint_elsewhere p (struct type) boolean h = tt
joint_elsewhere p (struct type) error_code h = tt
joint_elsewhere p (struct type) (header other) h = tt
joint_elsewhere p (struct type) (stack other extent) h = tt
joint_elsewhere p (struct type) (struct other) h = tt
joint_elsewhere p (struct type) packet_in h = tt
joint_elsewhere p (struct type) packet_out h = tt
joint_elsewhere p (struct type) errors h = tt
joint_elsewhere p (struct type) (enumeration which) h = tt
joint_elsewhere p (struct type) (one_of which) h = tt
joint_elsewhere p (struct type) table h = tt
joint_elsewhere p (struct type) applied h = tt
joint_elsewhere p (struct type) (object thing) h = tt
joint_elsewhere p (struct type) items h = tt
joint_elsewhere p (struct type) nothing h = tt
joint_elsewhere p (struct type) unknown h = tt
joint_elsewhere p packet_in (bits least) h = tt
joint_elsewhere p packet_in unsized h = tt
joint_elsewhere p packet_in boolean h = tt
joint_elsewhere p packet_in error_code h = tt
joint_elsewhere p packet_in (header other) h = tt
joint_elsewhere p packet_in (stack other extent) h = tt
joint_elsewhere p packet_in (struct other) h = tt
joint_elsewhere p packet_in packet_in h = tt
joint_elsewhere p packet_in packet_out h = tt
joint_elsewhere p packet_in errors h = tt
joint_elsewhere p packet_in (enumeration which) h = tt
joint_elsewhere p packet_in (one_of which) h = tt
joint_elsewhere p packet_in table h = tt
joint_elsewhere p packet_in applied h = tt
joint_elsewhere p packet_in (object thing) h = tt
joint_elsewhere p packet_in items h = tt
joint_elsewhere p packet_in nothing h = tt
joint_elsewhere p packet_in unknown h = tt
joint_elsewhere p packet_out (bits least) h = tt
joint_elsewhere p packet_out unsized h = tt
joint_elsewhere p packet_out boolean h = tt
joint_elsewhere p packet_out error_code h = tt
joint_elsewhere p packet_out (header other) h = tt
joint_elsewhere p packet_out (stack other extent) h = tt
joint_elsewhere p packet_out (struct other) h = tt
joint_elsewhere p packet_out packet_in h = tt
joint_elsewhere p packet_out packet_out h = tt
joint_elsewhere p packet_out errors h = tt
joint_elsewhere p packet_out (enumeration which) h = tt
joint_elsewhere p packet_out (one_of which) h = tt
joint_elsewhere p packet_out table h = tt
joint_elsewhere p packet_out applied h = tt
joint_elsewhere p packet_out (object thing) h = tt
joint_elsewhere p packet_out items h = tt
joint_elsewhere p packet_out nothing h = tt
joint_elsewhere p packet_out unknown h = tt
joint_elsewhere p errors (bits least) h = tt
joint_elsewhere p errors unsized h = tt
joint_elsewhere p errors boolean h = tt
joint_elsewhere p errors error_code h = tt
joint_elsewhere p errors (header other) h = tt
joint_elsewhere p errors (stack other extent) h = tt
joint_elsewhere p errors (struct other) h = tt
joint_elsewhere p errors packet_in h = tt
joint_elsewhere p errors packet_out h = tt
joint_elsewhere p errors errors h = tt
joint_elsewhere p errors (enumeration which) h = tt
joint_elsewhere p errors (one_of which) h = tt
joint_elsewhere p errors table h = tt
joint_elsewhere p errors applied h = tt
joint_elsewhere p errors (object thing) h = tt
joint_elsewhere p errors items h = tt
joint_elsewhere p errors nothing h = tt
joint_elsewhere p errors unknown h = tt
joint_elsewhere p (enumeration enum) (bits least) h = tt
joint_elsewhere p (enumeration enum) unsized h = tt
joint_elsewhere p (enumeration enum) boolean h = tt
joint_elsewhere p (enumeration enum) error_code h = tt
joint_elsewhere p (enumeration enum) (header other) h = tt
joint_elsewhere p (enumeration enum) (stack other extent) h = tt
joint_elsewhere p (enumeration enum) (struct other) h = tt
joint_elsewhere p (enumeration enum) packet_in h = tt
joint_elsewhere p (enumeration enum) packet_out h = tt
joint_elsewhere p (enumeration enum) errors h = tt
joint_elsewhere p (enumeration enum) (enumeration which) h = tt
joint_elsewhere p (enumeration enum) (one_of which) h = tt
joint_elsewhere p (enumeration enum) table h = tt
joint_elsewhere p (enumeration enum) applied h = tt
joint_elsewhere p (enumeration enum) (object thing) h = tt
joint_elsewhere p (enumeration enum) items h = tt
joint_elsewhere p (enumeration enum) nothing h = tt
joint_elsewhere p (enumeration enum) unknown h = tt
joint_elsewhere p (one_of enum) (bits least) h = tt
joint_elsewhere p (one_of enum) unsized h = tt
joint_elsewhere p (one_of enum) boolean h = tt
joint_elsewhere p (one_of enum) error_code h = tt
joint_elsewhere p (one_of enum) (header other) h = tt
joint_elsewhere p (one_of enum) (stack other extent) h = tt
joint_elsewhere p (one_of enum) (struct other) h = tt
joint_elsewhere p (one_of enum) packet_in h = tt
joint_elsewhere p (one_of enum) packet_out h = tt
joint_elsewhere p (one_of enum) errors h = tt
joint_elsewhere p (one_of enum) (enumeration which) h = tt
joint_elsewhere p (one_of enum) (one_of which) h = tt
joint_elsewhere p (one_of enum) table h = tt
joint_elsewhere p (one_of enum) applied h = tt
joint_elsewhere p (one_of enum) (object thing) h = tt
joint_elsewhere p (one_of enum) items h = tt
joint_elsewhere p (one_of enum) nothing h = tt
joint_elsewhere p (one_of enum) unknown h = tt
joint_elsewhere p table (bits least) h = tt
joint_elsewhere p table unsized h = tt
joint_elsewhere p table boolean h = tt
joint_elsewhere p table error_code h = tt
joint_elsewhere p table (header other) h = tt
joint_elsewhere p table (stack other extent) h = tt
joint_elsewhere p table (struct other) h = tt
joint_elsewhere p table packet_in h = tt
joint_elsewhere p table packet_out h = tt
joint_elsewhere p table errors h = tt
joint_elsewhere p table (enumeration which) h = tt
joint_elsewhere p table (one_of which) h = tt
joint_elsewhere p table table h = tt
joint_elsewhere p table applied h = tt
joint_elsewhere p table (object thing) h = tt
joint_elsewhere p table items h = tt
joint_elsewhere p table nothing h = tt
joint_elsewhere p table unknown h = tt
joint_elsewhere p applied (bits least) h = tt
joint_elsewhere p applied unsized h = tt
joint_elsewhere p applied boolean h = tt
joint_elsewhere p applied error_code h = tt
joint_elsewhere p applied (header other) h = tt
joint_elsewhere p applied (stack other extent) h = tt
joint_elsewhere p applied (struct other) h = tt
joint_elsewhere p applied packet_in h = tt
joint_elsewhere p applied packet_out h = tt
joint_elsewhere p applied errors h = tt
joint_elsewhere p applied (enumeration which) h = tt
joint_elsewhere p applied (one_of which) h = tt
joint_elsewhere p applied table h = tt
joint_elsewhere p applied applied h = tt
joint_elsewhere p applied (object thing) h = tt
joint_elsewhere p applied items h = tt
joint_elsewhere p applied nothing h = tt
joint_elsewhere p applied unknown h = tt
joint_elsewhere p (object obj) (bits least) h = tt
joint_elsewhere p (object obj) unsized h = tt
joint_elsewhere p (object obj) boolean h = tt
joint_elsewhere p (object obj) error_code h = tt
joint_elsewhere p (object obj) (header other) h = tt
joint_elsewhere p (object obj) (stack other extent) h = tt
joint_elsewhere p (object obj) (struct other) h = tt
joint_elsewhere p (object obj) packet_in h = tt
joint_elsewhere p (object obj) packet_out h = tt
joint_elsewhere p (object obj) errors h = tt
joint_elsewhere p (object obj) (enumeration which) h = tt
joint_elsewhere p (object obj) (one_of which) h = tt
joint_elsewhere p (object obj) table h = tt
joint_elsewhere p (object obj) applied h = tt
joint_elsewhere p (object obj) (object thing) h = tt
joint_elsewhere p (object obj) items h = tt
joint_elsewhere p (object obj) nothing h = tt
joint_elsewhere p (object obj) unknown h = tt
joint_elsewhere p items (bits least) h = tt
joint_elsewhere p items unsized h = tt
joint_elsewhere p items boolean h = tt
joint_elsewhere p items error_code h = tt
joint_elsewhere p items (header other) h = tt
joint_elsewhere p items (stack other extent) h = tt
joint_elsewhere p items (struct other) h = tt
joint_elsewhere p items packet_in h = tt
joint_elsewhere p items packet_out h = tt
joint_elsewhere p items errors h = tt
joint_elsewhere p items (enumeration which) h = tt
joint_elsewhere p items (one_of which) h = tt
joint_elsewhere p items table h = tt
joint_elsewhere p items applied h = tt
joint_elsewhere p items (object thing) h = tt
joint_elsewhere p items items h = tt
joint_elsewhere p items nothing h = tt
joint_elsewhere p items unknown h = tt
joint_elsewhere p nothing (bits least) h = tt
joint_elsewhere p nothing unsized h = tt
joint_elsewhere p nothing boolean h = tt
joint_elsewhere p nothing error_code h = tt
joint_elsewhere p nothing (header other) h = tt
joint_elsewhere p nothing (stack other extent) h = tt
joint_elsewhere p nothing (struct other) h = tt
joint_elsewhere p nothing packet_in h = tt
joint_elsewhere p nothing packet_out h = tt
joint_elsewhere p nothing errors h = tt
joint_elsewhere p nothing (enumeration which) h = tt
joint_elsewhere p nothing (one_of which) h = tt
joint_elsewhere p nothing table h = tt
joint_elsewhere p nothing applied h = tt
joint_elsewhere p nothing (object thing) h = tt
joint_elsewhere p nothing items h = tt
joint_elsewhere p nothing nothing h = tt
joint_elsewhere p nothing unknown h = tt
joint_elsewhere p unknown (bits least) h = tt
joint_elsewhere p unknown unsized h = tt
joint_elsewhere p unknown boolean h = tt
joint_elsewhere p unknown error_code h = tt
joint_elsewhere p unknown (header other) h = tt
joint_elsewhere p unknown (stack other extent) h = tt
joint_elsewhere p unknown (struct other) h = tt
joint_elsewhere p unknown packet_in h = tt
joint_elsewhere p unknown packet_out h = tt
joint_elsewhere p unknown errors h = tt
joint_elsewhere p unknown (enumeration which) h = tt
joint_elsewhere p unknown (one_of which) h = tt
joint_elsewhere p unknown table h = tt
joint_elsewhere p unknown applied h = tt
joint_elsewhere p unknown (object thing) h = tt
joint_elsewhere p unknown items h = tt
joint_elsewhere p unknown nothing h = tt
joint_elsewhere p unknown unknown h = tt

compared_elsewhere : (a b : Kind) → IsElsewhere (compared_place a b)
compared_elsewhere (bits width) b = tt
compared_elsewhere unsized b = joint_elsewhere any_bits unsized b tt
compared_elsewhere boolean b = tt
compared_elsewhere error_code b = tt
compared_elsewhere (header type) b = joint_elsewhere any_bits (header type) b tt
compared_elsewhere (stack type size) b = joint_elsewhere any_bits (stack type size) b tt
compared_elsewhere (struct type) b = joint_elsewhere any_bits (struct type) b tt
compared_elsewhere packet_in b = joint_elsewhere any_bits packet_in b tt
compared_elsewhere packet_out b = joint_elsewhere any_bits packet_out b tt
compared_elsewhere errors b = joint_elsewhere any_bits errors b tt
compared_elsewhere (enumeration enum) b = joint_elsewhere any_bits (enumeration enum) b tt
compared_elsewhere (one_of enum) b = joint_elsewhere any_bits (one_of enum) b tt
compared_elsewhere table b = joint_elsewhere any_bits table b tt
compared_elsewhere applied b = joint_elsewhere any_bits applied b tt
compared_elsewhere (object obj) b = joint_elsewhere any_bits (object obj) b tt
compared_elsewhere items b = joint_elsewhere any_bits items b tt
compared_elsewhere nothing b = joint_elsewhere any_bits nothing b tt
compared_elsewhere unknown b = joint_elsewhere any_bits unknown b tt

chosen_elsewhere : (p : Place) (a b : Kind) → IsElsewhere p → IsElsewhere (chosen_place p a b)
chosen_elsewhere p a b h =
    either IsElsewhere (is_chosen a) (value a) (cond (is_chosen b) (value b) (cond (is_unsized a && is_unsized b) p any_bits)) tt
    (either IsElsewhere (is_chosen b) (value b) (cond (is_unsized a && is_unsized b) p any_bits) tt
    (either IsElsewhere (is_unsized a && is_unsized b) p any_bits h tt))

unary_elsewhere : (p : Place) (operator : UnaryOperator) (k : Kind) → IsElsewhere p → IsElsewhere (unary_place p operator k)
unary_elsewhere p Not k h = tt
unary_elsewhere p Complement k h = joint_elsewhere p k k h
unary_elsewhere p Negate k h = joint_elsewhere p k k h

left_elsewhere : (p : Place) (operator : BinaryOperator) (a b : Kind) → IsElsewhere p → IsElsewhere (left_place p operator a b)
left_elsewhere p Multiply a b h = joint_elsewhere p a b h
left_elsewhere p Add a b h = joint_elsewhere p a b h
left_elsewhere p Subtract a b h = joint_elsewhere p a b h
left_elsewhere p SaturatingAdd a b h = joint_elsewhere p a b h
left_elsewhere p SaturatingSubtract a b h = joint_elsewhere p a b h
left_elsewhere p Concatenate a b h = tt
left_elsewhere p ShiftLeft a b h = joint_elsewhere p a a h
left_elsewhere p ShiftRight a b h = joint_elsewhere p a a h
left_elsewhere p BitAnd a b h = joint_elsewhere p a b h
left_elsewhere p BitXor a b h = joint_elsewhere p a b h
left_elsewhere p BitOr a b h = joint_elsewhere p a b h
left_elsewhere p Less a b h = joint_elsewhere any_bits a b tt
left_elsewhere p LessEqual a b h = joint_elsewhere any_bits a b tt
left_elsewhere p Greater a b h = joint_elsewhere any_bits a b tt
left_elsewhere p GreaterEqual a b h = joint_elsewhere any_bits a b tt
left_elsewhere p Equal a b h = compared_elsewhere a b
left_elsewhere p NotEqual a b h = compared_elsewhere a b
left_elsewhere p And a b h = tt
left_elsewhere p Or a b h = tt

right_elsewhere : (p : Place) (operator : BinaryOperator) (a b : Kind) → IsElsewhere p → IsElsewhere (right_place p operator a b)
right_elsewhere p Multiply a b h = joint_elsewhere p a b h
right_elsewhere p Add a b h = joint_elsewhere p a b h
right_elsewhere p Subtract a b h = joint_elsewhere p a b h
right_elsewhere p SaturatingAdd a b h = joint_elsewhere p a b h
right_elsewhere p SaturatingSubtract a b h = joint_elsewhere p a b h
right_elsewhere p Concatenate a b h = tt
right_elsewhere p ShiftLeft a b h = tt
right_elsewhere p ShiftRight a b h = tt
right_elsewhere p BitAnd a b h = joint_elsewhere p a b h
right_elsewhere p BitXor a b h = joint_elsewhere p a b h
right_elsewhere p BitOr a b h = joint_elsewhere p a b h
right_elsewhere p Less a b h = joint_elsewhere any_bits a b tt
right_elsewhere p LessEqual a b h = joint_elsewhere any_bits a b tt
right_elsewhere p Greater a b h = joint_elsewhere any_bits a b tt
right_elsewhere p GreaterEqual a b h = joint_elsewhere any_bits a b tt
right_elsewhere p Equal a b h = compared_elsewhere a b
right_elsewhere p NotEqual a b h = compared_elsewhere a b
right_elsewhere p And a b h = tt
right_elsewhere p Or a b h = tt

cast_elsewhere : (to : CastType) → IsElsewhere (cast_place to)
cast_elsewhere (cast_to.Bit w) = either IsElsewhere (nat_eq w.value 1) bits_or_boolean any_bits tt tt
cast_elsewhere cast_to.Bool = tt

by_elsewhere : (o : Option Signature) → IsElsewhere (owner_by o)
by_elsewhere None = tt
by_elsewhere (Some g) = either IsElsewhere g.writes_owner written_owner owner tt tt

owner_elsewhere : (p : Place) (o : Option Signature) → IsElsewhere (owner_place p o)
owner_elsewhere (value k) o = tt
owner_elsewhere (written k) o = tt
owner_elsewhere any_bits o = tt
owner_elsewhere written_bits o = tt
owner_elsewhere one_bit o = tt
owner_elsewhere bits_or_boolean o = tt
owner_elsewhere written_header o = tt
owner_elsewhere emitted o = tt
owner_elsewhere (literal_of k) o = tt
owner_elsewhere any_literal o = tt
owner_elsewhere item_list o = tt
owner_elsewhere (member_place enum) o = tt
owner_elsewhere select_key o = tt
owner_elsewhere (table_key is_exact) o = tt
owner_elsewhere target o = tt
owner_elsewhere owner o = tt
owner_elsewhere written_owner o = tt
owner_elsewhere a_stack o = tt
owner_elsewhere statement o = tt
owner_elsewhere unasked o = tt
owner_elsewhere callee o = by_elsewhere o

-- a member that isn't there
unknown_there : (s : Scope) (p : Place) (e : Exp16) (word : Name) → IsElsewhere p → is_unknown_member s p e word ≡ (is_none (member_kind s.layouts (kind_of s e) word) && not (is_plain (kind_of s e)))
unknown_there s (value k) e word h = refl
unknown_there s (written k) e word h = refl
unknown_there s any_bits e word h = refl
unknown_there s written_bits e word h = refl
unknown_there s one_bit e word h = refl
unknown_there s bits_or_boolean e word h = refl
unknown_there s written_header e word h = refl
unknown_there s emitted e word h = refl
unknown_there s (literal_of k) e word h = refl
unknown_there s any_literal e word h = refl
unknown_there s item_list e word h = refl
unknown_there s (member_place enum) e word h = refl
unknown_there s select_key e word h = refl
unknown_there s (table_key is_exact) e word h = refl
unknown_there s target e word h = refl
unknown_there s owner e word h = refl
unknown_there s written_owner e word h = refl
unknown_there s a_stack e word h = refl
unknown_there s statement e word h = refl
unknown_there s unasked e word h = refl
unknown_there s callee e word h = absurd h

-- the arguments of calls

abbrev pub AllElsewhere : List Place → Type 0
AllElsewhere [] = Unit {0}
AllElsewhere (p ∷ places) = IsElsewhere p × AllElsewhere places

abbrev Wants : Option Signature → Type 0
Wants o = AllElsewhere (wanted_by o)

handed_elsewhere : (hs : List Handed) → AllElsewhere (map place_of hs)
handed_elsewhere [] = tt
handed_elsewhere (h ∷ hs) = (either IsElsewhere h.is_written (written h.kind) (value h.kind) tt tt, handed_elsewhere hs)

function_elsewhere : (text : Name) → Wants (function_signature text)
function_elsewhere text = either Wants (bytes_eq text (codes "mark_to_drop")) (Some (in_pipelines (written standard ∷ []))) (cond (bytes_eq text (codes "hash")) (Some (in_pipelines (written_bits ∷ member_place hash_algorithm ∷ any_bits ∷ item_list ∷ any_bits ∷ []))) (cond (bytes_eq text (codes "verify_checksum")) (Some (extern_at (verify_position ∷ []) (checksum_places any_bits))) (cond (bytes_eq text (codes "verify_checksum_with_payload")) (Some (extern_at (verify_position ∷ []) (checksum_places any_bits))) (cond (bytes_eq text (codes "update_checksum")) (Some (extern_at (compute_position ∷ []) (checksum_places written_bits))) (cond (bytes_eq text (codes "update_checksum_with_payload")) (Some (extern_at (compute_position ∷ []) (checksum_places written_bits))) (cond (bytes_eq text (codes "clone_preserving_field_list")) (Some (clone_signature)) (cond (bytes_eq text (codes "resubmit_preserving_field_list")) (Some (extern_at (ingress_position ∷ []) (list_number ∷ []))) (cond (bytes_eq text (codes "recirculate_preserving_field_list")) (Some (extern_at (egress_position ∷ []) (list_number ∷ []))) None)))))))) (tt, tt) (either Wants (bytes_eq text (codes "hash")) (Some (in_pipelines (written_bits ∷ member_place hash_algorithm ∷ any_bits ∷ item_list ∷ any_bits ∷ []))) (cond (bytes_eq text (codes "verify_checksum")) (Some (extern_at (verify_position ∷ []) (checksum_places any_bits))) (cond (bytes_eq text (codes "verify_checksum_with_payload")) (Some (extern_at (verify_position ∷ []) (checksum_places any_bits))) (cond (bytes_eq text (codes "update_checksum")) (Some (extern_at (compute_position ∷ []) (checksum_places written_bits))) (cond (bytes_eq text (codes "update_checksum_with_payload")) (Some (extern_at (compute_position ∷ []) (checksum_places written_bits))) (cond (bytes_eq text (codes "clone_preserving_field_list")) (Some (clone_signature)) (cond (bytes_eq text (codes "resubmit_preserving_field_list")) (Some (extern_at (ingress_position ∷ []) (list_number ∷ []))) (cond (bytes_eq text (codes "recirculate_preserving_field_list")) (Some (extern_at (egress_position ∷ []) (list_number ∷ []))) None))))))) (tt, (tt, (tt, (tt, (tt, tt))))) (either Wants (bytes_eq text (codes "verify_checksum")) (Some (extern_at (verify_position ∷ []) (checksum_places any_bits))) (cond (bytes_eq text (codes "verify_checksum_with_payload")) (Some (extern_at (verify_position ∷ []) (checksum_places any_bits))) (cond (bytes_eq text (codes "update_checksum")) (Some (extern_at (compute_position ∷ []) (checksum_places written_bits))) (cond (bytes_eq text (codes "update_checksum_with_payload")) (Some (extern_at (compute_position ∷ []) (checksum_places written_bits))) (cond (bytes_eq text (codes "clone_preserving_field_list")) (Some (clone_signature)) (cond (bytes_eq text (codes "resubmit_preserving_field_list")) (Some (extern_at (ingress_position ∷ []) (list_number ∷ []))) (cond (bytes_eq text (codes "recirculate_preserving_field_list")) (Some (extern_at (egress_position ∷ []) (list_number ∷ []))) None)))))) (tt, (tt, (tt, (tt, tt)))) (either Wants (bytes_eq text (codes "verify_checksum_with_payload")) (Some (extern_at (verify_position ∷ []) (checksum_places any_bits))) (cond (bytes_eq text (codes "update_checksum")) (Some (extern_at (compute_position ∷ []) (checksum_places written_bits))) (cond (bytes_eq text (codes "update_checksum_with_payload")) (Some (extern_at (compute_position ∷ []) (checksum_places written_bits))) (cond (bytes_eq text (codes "clone_preserving_field_list")) (Some (clone_signature)) (cond (bytes_eq text (codes "resubmit_preserving_field_list")) (Some (extern_at (ingress_position ∷ []) (list_number ∷ []))) (cond (bytes_eq text (codes "recirculate_preserving_field_list")) (Some (extern_at (egress_position ∷ []) (list_number ∷ []))) None))))) (tt, (tt, (tt, (tt, tt)))) (either Wants (bytes_eq text (codes "update_checksum")) (Some (extern_at (compute_position ∷ []) (checksum_places written_bits))) (cond (bytes_eq text (codes "update_checksum_with_payload")) (Some (extern_at (compute_position ∷ []) (checksum_places written_bits))) (cond (bytes_eq text (codes "clone_preserving_field_list")) (Some (clone_signature)) (cond (bytes_eq text (codes "resubmit_preserving_field_list")) (Some (extern_at (ingress_position ∷ []) (list_number ∷ []))) (cond (bytes_eq text (codes "recirculate_preserving_field_list")) (Some (extern_at (egress_position ∷ []) (list_number ∷ []))) None)))) (tt, (tt, (tt, (tt, tt)))) (either Wants (bytes_eq text (codes "update_checksum_with_payload")) (Some (extern_at (compute_position ∷ []) (checksum_places written_bits))) (cond (bytes_eq text (codes "clone_preserving_field_list")) (Some (clone_signature)) (cond (bytes_eq text (codes "resubmit_preserving_field_list")) (Some (extern_at (ingress_position ∷ []) (list_number ∷ []))) (cond (bytes_eq text (codes "recirculate_preserving_field_list")) (Some (extern_at (egress_position ∷ []) (list_number ∷ []))) None))) (tt, (tt, (tt, (tt, tt)))) (either Wants (bytes_eq text (codes "clone_preserving_field_list")) (Some (clone_signature)) (cond (bytes_eq text (codes "resubmit_preserving_field_list")) (Some (extern_at (ingress_position ∷ []) (list_number ∷ []))) (cond (bytes_eq text (codes "recirculate_preserving_field_list")) (Some (extern_at (egress_position ∷ []) (list_number ∷ []))) None)) (tt, (tt, (tt, tt))) (either Wants (bytes_eq text (codes "resubmit_preserving_field_list")) (Some (extern_at (ingress_position ∷ []) (list_number ∷ []))) (cond (bytes_eq text (codes "recirculate_preserving_field_list")) (Some (extern_at (egress_position ∷ []) (list_number ∷ []))) None) (tt, tt) (either Wants (bytes_eq text (codes "recirculate_preserving_field_list")) (Some (extern_at (egress_position ∷ []) (list_number ∷ []))) (None) (tt, tt) (tt)))))))))

sort_elsewhere : (of : Sort) (text : Name) → Wants (sort_signature of text)
sort_elsewhere (a_type k) text = tt
sort_elsewhere (a_value k can) text = tt
sort_elsewhere (an_enumeration enum) text = tt
sort_elsewhere a_function text = function_elsewhere text
sort_elsewhere (an_object obj) text = tt
sort_elsewhere (an_action plane parameters) text = handed_elsewhere parameters
sort_elsewhere (a_table actions counters) text = tt
sort_elsewhere a_state text = tt
sort_elsewhere a_block text = tt
sort_elsewhere undeclared text = tt

method_elsewhere : (k : Kind) (word : Name) → Wants (method_signature k word)
method_elsewhere (header type) word = either Wants (bytes_eq word (codes "isValid")) (Some (method false [] boolean)) (cond (bytes_eq word (codes "setValid")) (Some (method true [] nothing)) (cond (bytes_eq word (codes "setInvalid")) (Some (method true [] nothing)) None)) tt (either Wants (bytes_eq word (codes "setValid")) (Some (method true [] nothing)) (cond (bytes_eq word (codes "setInvalid")) (Some (method true [] nothing)) None) tt (either Wants (bytes_eq word (codes "setInvalid")) (Some (method true [] nothing)) (None) tt (tt)))
method_elsewhere (stack type size) word = either Wants (bytes_eq word (codes "push_front")) (Some (method true (literal_of (bits 32) ∷ []) nothing)) (cond (bytes_eq word (codes "pop_front")) (Some (method true (literal_of (bits 32) ∷ []) nothing)) None) (tt, tt) (either Wants (bytes_eq word (codes "pop_front")) (Some (method true (literal_of (bits 32) ∷ []) nothing)) (None) (tt, tt) (tt))
method_elsewhere packet_in word = either Wants (bytes_eq word (codes "extract")) (Some (extern_at (parser_position ∷ []) (written_header ∷ []))) (None) (tt, tt) (tt)
method_elsewhere packet_out word = either Wants (bytes_eq word (codes "emit")) (Some (extern_at (deparser_position ∷ []) (emitted ∷ []))) (None) (tt, tt) (tt)
method_elsewhere table word = either Wants (bytes_eq word (codes "apply")) (Some (method false [] applied)) (None) tt (tt)
method_elsewhere (object counter) word = either Wants (bytes_eq word (codes "count")) (Some (in_pipelines (index_place ∷ []))) (None) (tt, tt) (tt)
method_elsewhere (object direct_counter) word = either Wants (bytes_eq word (codes "count")) (Some (counts_by_entry)) (None) tt (tt)
method_elsewhere (object register) word = either Wants (bytes_eq word (codes "read")) (Some (in_pipelines (written_bits ∷ index_place ∷ []))) (cond (bytes_eq word (codes "write")) (Some (in_pipelines (index_place ∷ any_bits ∷ []))) None) (tt, (tt, tt)) (either Wants (bytes_eq word (codes "write")) (Some (in_pipelines (index_place ∷ any_bits ∷ []))) (None) (tt, (tt, tt)) (tt))
method_elsewhere (object meter) word = either Wants (bytes_eq word (codes "execute_meter")) (Some (in_pipelines (index_place ∷ written_bits ∷ []))) (None) (tt, (tt, tt)) (tt)
method_elsewhere (bits width) word = tt
method_elsewhere unsized word = tt
method_elsewhere boolean word = tt
method_elsewhere error_code word = tt
method_elsewhere (struct type) word = tt
method_elsewhere errors word = tt
method_elsewhere (enumeration enum) word = tt
method_elsewhere (one_of enum) word = tt
method_elsewhere applied word = tt
method_elsewhere items word = tt
method_elsewhere nothing word = tt
method_elsewhere unknown word = tt

signature_elsewhere : (s : Scope) (e : Exp16) → Wants (signature_of s e)
signature_elsewhere s (literal n) = tt
signature_elsewhere s (truth holds) = tt
signature_elsewhere s error = tt
signature_elsewhere s (name text) = sort_elsewhere (sort_of s text) text
signature_elsewhere s (member e word) = method_elsewhere (kind_of s e) word
signature_elsewhere s (index e at) = tt
signature_elsewhere s (slice e high low) = tt
signature_elsewhere s (call g more) = tt
signature_elsewhere s (lookahead e to more) = tt
signature_elsewhere s (cast to e) = tt
signature_elsewhere s (unary operator e) = tt
signature_elsewhere s (binary operator a b) = tt
signature_elsewhere s (choice d a b) = tt
signature_elsewhere s (parenthesized e) = tt
signature_elsewhere s no_arguments = tt
signature_elsewhere s (argument before last) = tt
signature_elsewhere s (listed es) = tt

wanted_elsewhere : (places : List Place) (otherwise : Place) (n : ℕ) → AllElsewhere places → IsElsewhere otherwise → IsElsewhere (get_or places n otherwise)
wanted_elsewhere [] otherwise n h k = k
wanted_elsewhere (p ∷ places) otherwise zero h k = h.0
wanted_elsewhere (p ∷ places) otherwise (suc n) h k = wanted_elsewhere places otherwise n h.1 k

abbrev pub ElsewhereAt : Places → Type 0
ElsewhereAt (one p) = IsElsewhere p
ElsewhereAt (many wanted otherwise) = AllElsewhere wanted × IsElsewhere otherwise

abbrev pub lists : Places → Bool
lists (one p) = false
lists (many wanted otherwise) = true

-- what is judged

-- neither T1 nor T10 is broken by what is judged
pub record Sound (us : List Use) : Type 0 where
  pub known : list_any is_misnamed us ≡ false
  pub placed : list_any is_outside_block us ≡ false

sound : (us : List Use) → list_any is_misnamed us ≡ false → list_any is_outside_block us ≡ false → Sound us
sound us x y = record { known = x; placed = y }

rest : (u : Use) (us : List Use) → Sound (u ∷ us) → Sound us
rest u us h = record {
  known = second_false (is_misnamed u) (list_any is_misnamed us) h.known;
  placed = second_false (is_outside_block u) (list_any is_outside_block us) h.placed;
}

before : (us vs : List Use) → Sound (us ++ vs) → Sound us
before us vs h = record { known = in_front is_misnamed us vs h.known; placed = in_front is_outside_block us vs h.placed }

behind : (us vs : List Use) → Sound (us ++ vs) → Sound vs
behind us vs h = record { known = at_end is_misnamed us vs h.known; placed = at_end is_outside_block us vs h.placed }

no_member : (t : Bool) → (not t && true) ≡ false → t ≡ true
no_member true h = refl
no_member false h = absurd (cc h)

-- a word that a stack has as a member tells its element
word_told : (word : Name) → is_none (member_kind [] (stack [] 0) word) ≡ false → is_place_word word ≡ true
word_told word = by (is_place_word word) where
  by : (t : Bool) → is_none (cond t (Some (header [])) None) ≡ false → t ≡ true
  by true h = refl
  by false h = absurd (cc h)

module _ (s : Scope) (part : is_parser_part s.part ≡ false) (positions : are_allowed (parser_position ∷ []) s.positions ≡ false) where
  -- no stack tells an element
  member_free : (p : Place) (e : Exp16) (word : Name) → IsElsewhere p → Sound (an_expression s p (member e word) ∷ []) → MayTell ⊥ (kind_of s e)
  member_free p e word there h = by (kind_of s e) known placed where
    known : (is_none (member_kind s.layouts (kind_of s e) word) && not (is_plain (kind_of s e))) ≡ false
    known = sym (unknown_there s p e word there) ∙ first_false (is_unknown_member s p e word) false h.known

    placed : ((is_stack (kind_of s e) && is_place_word word) && not (is_parser_part s.part)) ≡ false
    placed = first_false ((is_stack (kind_of s e) && is_place_word word) && not (is_parser_part s.part)) false h.placed

    stack_told : (type : Name) (size : ℕ) → (is_none (member_kind s.layouts (stack type size) word) && true) ≡ false → (is_place_word word && not (is_parser_part s.part)) ≡ false → ⊥
    stack_told type size = by_word (is_place_word word) (is_parser_part s.part) part where
      by_word : (t u : Bool) → u ≡ false → (is_none (cond t (Some (header type)) None) && true) ≡ false → (t && not u) ≡ false → ⊥
      by_word true true x y k = cc x
      by_word true false x y k = cc k
      by_word false u x y k = cc y

    by : (k : Kind) → (is_none (member_kind s.layouts k word) && not (is_plain k)) ≡ false → ((is_stack k && is_place_word word) && not (is_parser_part s.part)) ≡ false → MayTell ⊥ k
    by (bits width) x y = tt
    by unsized x y = tt
    by boolean x y = tt
    by error_code x y = tt
    by (header type) x y = tt
    by (stack type size) x y = stack_told type size x y
    by (struct type) x y = tt
    by packet_in x y = tt
    by packet_out x y = tt
    by errors x y = tt
    by (enumeration enum) x y = tt
    by (one_of enum) x y = tt
    by table x y = tt
    by applied x y = tt
    by (object obj) x y = tt
    by items x y = tt
    by nothing x y = tt
    by unknown x y = tt

  -- nothing is looked ahead at
  ahead_none : not (are_allowed (parser_position ∷ []) s.positions) ≡ false → ⊥
  ahead_none h = by (are_allowed (parser_position ∷ []) s.positions) positions h where
    by : (t : Bool) → t ≡ false → not t ≡ false → ⊥
    by true x y = cc x
    by false x y = cc y

  pub free : (e : Exp16) (q : Places) → ElsewhereAt q → Sound (uses_at s q e) → FreeIn ⊥ s (lists q) e
  free (literal n) (one p) there h = tt
  free (truth holds) (one p) there h = tt
  free error (one p) there h = tt
  free (name text) (one p) there h = tt
  free (member e word) (one p) there h =
      let us = uses s (owner_place p (method_signature (kind_of s e) word)) e in
      (member_free p e word there (before (an_expression s p (member e word) ∷ []) us h), free e (one (owner_place p (method_signature (kind_of s e) word))) (owner_elsewhere p (method_signature (kind_of s e) word)) (rest (an_expression s p (member e word)) us h))
  free (index e at) (one p) there h = free e (one a_stack) tt (rest (a_number at) (uses s a_stack e) (rest (an_expression s p (index e at)) (a_number at ∷ uses s a_stack e) h))
  free (slice e high low) (one p) there h = free e (one any_bits) tt (behind (an_expression s p (slice e high low) ∷ a_number high ∷ a_number low ∷ []) (uses s any_bits e) h)
  free (call (literal n) more) (one p) there h = tt
  free (call (truth holds) more) (one p) there h = tt
  free (call error more) (one p) there h = tt
  free (call (name text) more) (one p) there h = tt
  free (call (member e word) more) (one p) there h =
      let own = method_signature (kind_of s e) word in
      free e (one (owner_by own)) (by_elsewhere own)
      (rest (an_expression s callee (member e word)) (uses s (owner_by own) e)
      (behind (an_expression s p (call (member e word) more) ∷ []) (uses s callee (member e word))
      (before (an_expression s p (call (member e word) more) ∷ uses s callee (member e word)) (uses_at s (many (wanted_by (signature_of s (member e word))) unasked) more) h)))
  free (call (index e at) more) (one p) there h = tt
  free (call (slice e high low) more) (one p) there h = tt
  free (call (call g others) more) (one p) there h = tt
  free (call (lookahead e to others) more) (one p) there h = tt
  free (call (cast to e) more) (one p) there h = tt
  free (call (unary operator e) more) (one p) there h = tt
  free (call (binary operator a b) more) (one p) there h = tt
  free (call (choice d a b) more) (one p) there h = tt
  free (call (parenthesized e) more) (one p) there h = tt
  free (call no_arguments more) (one p) there h = tt
  free (call (argument before last) more) (one p) there h = tt
  free (call (listed es) more) (one p) there h = tt
  free (lookahead e to more) (one p) there h = absurd (ahead_none (first_false (is_outside_block (an_expression s p (lookahead e to more))) (list_any is_outside_block (type_uses s of_lookahead to ++ uses s owner e ++ uses_at s (many [] unasked) more)) h.placed))
  free (cast to e) (one p) there h = free e (one (cast_place to)) (cast_elsewhere to) (behind (an_expression s p (cast to e) ∷ cast_numbers to) (uses s (cast_place to) e) h)
  free (unary operator e) (one p) there h = free e (one (unary_place p operator (kind_of s e))) (unary_elsewhere p operator (kind_of s e) there) (rest (an_expression s p (unary operator e)) (uses s (unary_place p operator (kind_of s e)) e) h)
  free (binary operator a b) (one p) there h =
      let left = left_place p operator (kind_of s a) (kind_of s b) in
      let right = right_place p operator (kind_of s a) (kind_of s b) in (
        free a (one left) (left_elsewhere p operator (kind_of s a) (kind_of s b) there) (behind (an_expression s p (binary operator a b) ∷ []) (uses s left a) (before (an_expression s p (binary operator a b) ∷ uses s left a) (uses s right b) h)),
        free b (one right) (right_elsewhere p operator (kind_of s a) (kind_of s b) there) (behind (an_expression s p (binary operator a b) ∷ uses s left a) (uses s right b) h),
      )
  free (choice d a b) (one p) there h =
      let place = chosen_place p (kind_of s a) (kind_of s b) in
      let own = chosen_elsewhere p (kind_of s a) (kind_of s b) there in
      let first = before (an_expression s p (choice d a b) ∷ uses s (value boolean) d ++ uses s place a) (uses s place b) h in (
        free d (one (value boolean)) tt (behind (an_expression s p (choice d a b) ∷ []) (uses s (value boolean) d) (before (an_expression s p (choice d a b) ∷ uses s (value boolean) d) (uses s place a) first)),
        free a (one place) own (behind (an_expression s p (choice d a b) ∷ uses s (value boolean) d) (uses s place a) first),
        free b (one place) own (behind (an_expression s p (choice d a b) ∷ uses s (value boolean) d ++ uses s place a) (uses s place b) h),
      )
  free (parenthesized e) (one p) there h = tt
  free no_arguments (one p) there h = tt
  free (argument former last) (one p) there h = tt
  free (listed es) (one p) there h = free es (many [] any_bits) (tt, tt) (rest (an_expression s p (listed es)) (uses_at s (many [] any_bits) es) h)
  free (literal n) (many wanted otherwise) there h = tt
  free (truth holds) (many wanted otherwise) there h = tt
  free error (many wanted otherwise) there h = tt
  free (name text) (many wanted otherwise) there h = tt
  free (member e word) (many wanted otherwise) there h = tt
  free (index e at) (many wanted otherwise) there h = tt
  free (slice e high low) (many wanted otherwise) there h = tt
  free (call g more) (many wanted otherwise) there h = tt
  free (lookahead e to more) (many wanted otherwise) there h = tt
  free (cast to e) (many wanted otherwise) there h = tt
  free (unary operator e) (many wanted otherwise) there h = tt
  free (binary operator a b) (many wanted otherwise) there h = tt
  free (choice d a b) (many wanted otherwise) there h = tt
  free (parenthesized e) (many wanted otherwise) there h = tt
  free no_arguments (many wanted otherwise) there h = tt
  free (argument former last) (many wanted otherwise) there h = (
    free former (many wanted otherwise) there (before (uses_at s (many wanted otherwise) former) (uses s (get_or wanted (argument_count former) otherwise) last) h),
    free last (one (get_or wanted (argument_count former) otherwise)) (wanted_elsewhere wanted otherwise (argument_count former) there.0 there.1) (behind (uses_at s (many wanted otherwise) former) (uses s (get_or wanted (argument_count former) otherwise) last) h),
  )
  free (listed es) (many wanted otherwise) there h = tt

  -- the arguments of a call, one after another

  one_more : (es : List Exp16) (e : Exp16) → AllFree ⊥ s es → Free ⊥ s e → AllFree ⊥ s (es ++ e ∷ [])
  one_more [] e h k = (k, tt)
  one_more (x ∷ es) e h k = (h.0, one_more es e h.1 k)

  arguments_free : (e : Exp16) (wanted : List Place) (otherwise : Place) → AllElsewhere wanted → IsElsewhere otherwise → Sound (uses_at s (many wanted otherwise) e) → AllFree ⊥ s (arguments_of e)
  arguments_free (literal n) wanted otherwise all other h = tt
  arguments_free (truth holds) wanted otherwise all other h = tt
  arguments_free error wanted otherwise all other h = tt
  arguments_free (name text) wanted otherwise all other h = tt
  arguments_free (member e word) wanted otherwise all other h = tt
  arguments_free (index e at) wanted otherwise all other h = tt
  arguments_free (slice e high low) wanted otherwise all other h = tt
  arguments_free (call g more) wanted otherwise all other h = tt
  arguments_free (lookahead e to more) wanted otherwise all other h = tt
  arguments_free (cast to e) wanted otherwise all other h = tt
  arguments_free (unary operator e) wanted otherwise all other h = tt
  arguments_free (binary operator a b) wanted otherwise all other h = tt
  arguments_free (choice d a b) wanted otherwise all other h = tt
  arguments_free (parenthesized e) wanted otherwise all other h = tt
  arguments_free no_arguments wanted otherwise all other h = tt
  arguments_free (argument former last) wanted otherwise all other h =
      one_more (arguments_of former) last (arguments_free former wanted otherwise all other (before (uses_at s (many wanted otherwise) former) (uses s (get_or wanted (argument_count former) otherwise) last) h))
      (free last (one (get_or wanted (argument_count former) otherwise)) (wanted_elsewhere wanted otherwise (argument_count former) all other) (behind (uses_at s (many wanted otherwise) former) (uses s (get_or wanted (argument_count former) otherwise) last) h))
  arguments_free (listed es) wanted otherwise all other h = tt

  -- nothing is read
  read_none : (e : Exp16) (word : Name) (more : Exp16) → option_map_or (stands_elsewhere s more) (method_signature (kind_of s e) word) false ≡ false → (is_none (method_signature (kind_of s e) word) && not (is_plain (kind_of s e))) ≡ false → MayRead ⊥ (kind_of s e)
  read_none e word more = by (kind_of s e) where
    by_word : (t : Bool) → option_map_or (stands_elsewhere s more) (cond t (Some (extern_at (parser_position ∷ []) (written_header ∷ []))) None) false ≡ false → (is_none (cond t (Some (extern_at (parser_position ∷ []) (written_header ∷ []))) None) && true) ≡ false → not (are_allowed (parser_position ∷ []) s.positions) ≡ false
    by_word true x y = x
    by_word false x y = absurd (cc y)

    by : (k : Kind) → option_map_or (stands_elsewhere s more) (method_signature k word) false ≡ false → (is_none (method_signature k word) && not (is_plain k)) ≡ false → MayRead ⊥ k
    by (bits width) x y = tt
    by unsized x y = tt
    by boolean x y = tt
    by error_code x y = tt
    by (header type) x y = tt
    by (stack type size) x y = tt
    by (struct type) x y = tt
    by packet_in x y = ahead_none (by_word (bytes_eq word (codes "extract")) x y)
    by packet_out x y = tt
    by errors x y = tt
    by (enumeration enum) x y = tt
    by (one_of enum) x y = tt
    by table x y = tt
    by applied x y = tt
    by (object obj) x y = tt
    by items x y = tt
    by nothing x y = tt
    by unknown x y = tt

  callee_free : (p : Place) (g more : Exp16) → Sound (uses s p (call g more)) → FreeCallee ⊥ s g
  callee_free p (literal n) more h = tt
  callee_free p (truth holds) more h = tt
  callee_free p error more h = tt
  callee_free p (name text) more h = tt
  callee_free p (member e word) more h =
      let both = before (an_expression s p (call (member e word) more) ∷ uses s callee (member e word)) (uses_at s (many (wanted_by (signature_of s (member e word))) unasked) more) h in
      let own = behind (an_expression s p (call (member e word) more) ∷ []) (uses s callee (member e word)) both in
      read_none e word more
      (first_false (is_outside_block (an_expression s p (call (member e word) more))) (list_any is_outside_block (uses s callee (member e word))) both.placed)
      (first_false (is_misnamed (an_expression s callee (member e word))) (list_any is_misnamed (uses s (owner_by (method_signature (kind_of s e) word)) e)) own.known)
  callee_free p (index e at) more h = tt
  callee_free p (slice e high low) more h = tt
  callee_free p (call g others) more h = tt
  callee_free p (lookahead e to others) more h = tt
  callee_free p (cast to e) more h = tt
  callee_free p (unary operator e) more h = tt
  callee_free p (binary operator a b) more h = tt
  callee_free p (choice d a b) more h = tt
  callee_free p (parenthesized e) more h = tt
  callee_free p no_arguments more h = tt
  callee_free p (argument before last) more h = tt
  callee_free p (listed es) more h = tt

  call_free : (p : Place) (e : Exp16) → Sound (uses s p e) → FreeCall ⊥ s e
  call_free p (literal n) h = tt
  call_free p (truth holds) h = tt
  call_free p error h = tt
  call_free p (name text) h = tt
  call_free p (member e word) h = tt
  call_free p (index e at) h = tt
  call_free p (slice e high low) h = tt
  call_free p (call g more) h = (
    callee_free p g more h,
    arguments_free more (wanted_by (signature_of s g)) unasked (signature_elsewhere s g) tt
        (behind (an_expression s p (call g more) ∷ uses s callee g) (uses_at s (many (wanted_by (signature_of s g)) unasked) more) h),
  )
  call_free p (lookahead e to more) h = tt
  call_free p (cast to e) h = tt
  call_free p (unary operator e) h = tt
  call_free p (binary operator a b) h = tt
  call_free p (choice d a b) h = tt
  call_free p (parenthesized e) h = tt
  call_free p no_arguments h = tt
  call_free p (argument before last) h = tt
  call_free p (listed es) h = tt

  pub at_free : (p : Place) (e : Exp16) → IsElsewhere p → list_any is_misnamed (uses s p e) ≡ false → list_any is_outside_block (uses s p e) ≡ false → FreeAt ⊥ s p e
  at_free p e there known placed = (free e (one p) there (sound (uses s p e) known placed), call_free p e (sound (uses s p e) known placed))
