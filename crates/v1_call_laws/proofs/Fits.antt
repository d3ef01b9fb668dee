-- What the rules say of the arguments of calls: members stand behind the name of their enumeration, lists in braces, literals
-- are within their width, and there are as many as are wanted.
use Rattle.std.proofs.Common.{◌≡◌, ℕ, suc, ◌+◌, ◌-◌, nat_lt, not, Bool, true, false, cond, Option, Some, None, IfSome, List, [], ◌∷◌, ◌++◌, length, nat_eq, get_or, refl, sym, ap, ◌∙◌, subst, arith, length-append}
use Rattle.std.specs.Prelude.{codes}
use Rattle.std.specs.List.{list_any}
use Rattle.std.specs.Option.{option_map_or}
use Rattle.std.specs.Str.{bytes_eq}
use Rattle.std.proofs.lemmas.Bool.{eqb-true}
use Rattle.p416_syntax.specs.declared.node.CastType.{CastType}
use Rattle.p416_syntax.specs.declared.node.CastType.TheVariants as cast_to
use Rattle.p416_syntax.specs.declared.node.UnaryOperator.{UnaryOperator}
use Rattle.p416_syntax.specs.declared.node.UnaryOperator.TheVariants.{Not, Complement, Negate}
use Rattle.p416_syntax.specs.declared.node.BinaryOperator.{BinaryOperator}
use Rattle.p416_syntax.specs.declared.node.BinaryOperator.TheVariants.{Multiply, Add, Subtract, SaturatingAdd, SaturatingSubtract, Concatenate, ShiftLeft, ShiftRight, BitAnd, BitXor, BitOr, Less, LessEqual, Greater, GreaterEqual, Equal, NotEqual, And, Or}
use Rattle.p416_syntax.specs.Tree.{Exp16, literal, truth, error, name, member, index, slice, call, lookahead, cast, unary, binary, choice, parenthesized, no_arguments, argument, listed}
use Rattle.p416_syntax.specs.declared.lexeme.Literal16.{Literal16}
use Rattle.p416_syntax.specs.Names.{Name, has_name}
use Rattle.p416_syntax.specs.BuiltIn.{members_of, error_names, standard}
use Rattle.p416_syntax.specs.Kinds.{Enumeration, hash_algorithm, counter_type, meter_type, clone_type, is_same_enumeration, counter, direct_counter, register, meter, Kind, bits, unsized, boolean, error_code, header, stack, struct, packet_in, packet_out, errors, enumeration, one_of, table, applied, object, items, nothing, unknown, is_same_kind}
use Rattle.p416_syntax.specs.Scopes.{Sort, a_type, a_value, an_enumeration, a_function, an_object, an_action, a_table, a_state, a_block, undeclared, Scope, sort_of, fields_in}
use Rattle.p416_syntax.specs.Calls.{Place, value, written, any_bits, written_bits, one_bit, bits_or_boolean, written_header, emitted, literal_of, any_literal, item_list, member_place, select_key, table_key, target, owner, written_owner, a_stack, callee, statement, unasked, Signature, function_signature, method_signature, extern_at, in_pipelines, checksum_places, list_number, index_place, clone_signature, method, counts_by_entry, parser_position, verify_position, ingress_position, egress_position, compute_position, deparser_position}
use Rattle.p416_syntax.specs.Expressions.{sort_kind, field_kind_in, member_kind, known_kind, joint_bits, concatenated, number_kind, unary_kind, binary_kind, is_chosen, same_choice, element_kind, leaves_width, slice_kind, cast_kind, sort_signature, call_kind, kind_of, signature_of, argument_count}
use Rattle.p416_syntax.specs.Uses.{Use, an_expression, one, many, wanted_by, uses, uses_at, arguments_of}
use Rattle.p416_syntax.specs.Types.{is_items, is_mistyped}
use Rattle.p416_syntax.specs.Literals.{overflows}
use Rattle.p416_syntax.specs.Arguments.{takes_other_count, is_miscounted}
use Rattle.v1_ready_laws.specs.Rules.{Keeps}
use Rattle.v1_ready_laws.proofs.Rules.{first_false, front_none, rest_none}
use Rattle.v1_block_laws.specs.Keeping.{Each}
use Rattle.v1_call_laws.specs.Telling.{ToldNone}
use Rattle.v1_call_laws.specs.Calling.{IsMemberOf, FitsPlace, FitPlaces, CallFits, IsPlainKind, SortPlain, NamesPlain}

-- what is said of expressions of these kinds

abbrev IsNamed : Exp16 → Type 0
IsNamed e = (text : Name) × (e ≡ name text)

abbrev IsListed : Exp16 → Type 0
IsListed e = (es : Exp16) × (e ≡ listed es)

abbrev ByKind : Scope → Kind → Exp16 → Type 0
ByKind s (enumeration enum) e = IsNamed e
ByKind s (one_of enum) e = IsMemberOf s enum e
ByKind s table e = IsNamed e
ByKind s items e = IsListed e
ByKind s k e = Unit {0}

module _ (s : Scope) where
  plain_kind : (k : Kind) (e : Exp16) → IsPlainKind k → ByKind s k e
  plain_kind (bits width) e h = tt
  plain_kind unsized e h = tt
  plain_kind boolean e h = tt
  plain_kind error_code e h = tt
  plain_kind (header type) e h = tt
  plain_kind (stack type size) e h = tt
  plain_kind (struct type) e h = tt
  plain_kind packet_in e h = tt
  plain_kind packet_out e h = tt
  plain_kind errors e h = tt
  plain_kind (enumeration enum) e h = absurd h
  plain_kind (one_of enum) e h = absurd h
  plain_kind table e h = absurd h
  plain_kind applied e h = tt
  plain_kind (object obj) e h = tt
  plain_kind items e h = absurd h
  plain_kind nothing e h = tt
  plain_kind unknown e h = tt

  either : (t : Bool) (j k : Kind) (e : Exp16) → ByKind s j e → ByKind s k e → ByKind s (cond t j k) e
  either true j k e h g = h
  either false j k e h g = g

  -- operators
  joint : (a b : Kind) (e : Exp16) → ByKind s (joint_bits a b) e
  joint (bits v) (bits w) e = either (nat_eq v w) (bits v) unknown e tt tt
  joint (bits v) unsized e = tt
  joint (bits v) boolean e = tt
  joint (bits v) error_code e = tt
  joint (bits v) (header type) e = tt
  joint (bits v) (stack type size) e = tt
  joint (bits v) (struct type) e = tt
  joint (bits v) packet_in e = tt
  joint (bits v) packet_out e = tt
  joint (bits v) errors e = tt
  joint (bits v) (enumeration enum) e = tt
  joint (bits v) (one_of enum) e = tt
  joint (bits v) table e = tt
  joint (bits v) applied e = tt
  joint (bits v) (object obj) e = tt
  joint (bits v) items e = tt
  joint (bits v) nothing e = tt
  joint (bits v) unknown e = tt
  joint unsized (bits width) e = tt
  joint unsized unsized e = tt
  joint unsized boolean e = tt
  joint unsized error_code e = tt
  joint unsized (header type) e = tt
  joint unsized (stack type size) e = tt
  joint unsized (struct type) e = tt
  joint unsized packet_in e = tt
  joint unsized packet_out e = tt
  joint unsized errors e = tt
  joint unsized (enumeration enum) e = tt
  joint unsized (one_of enum) e = tt
  joint unsized table e = tt
  joint unsized applied e = tt
  joint unsized (object obj) e = tt
  joint unsized items e = tt
  joint unsized nothing e = tt
  joint unsized unknown e = tt
  joint boolean b e = tt
  joint error_code b e = tt
  joint (header type) b e = tt
  joint (stack type size) b e = tt
  joint (struct type) b e = tt
  joint packet_in b e = tt
  joint packet_out b e = tt
  joint errors b e = tt
  joint (enumeration enum) b e = tt
  joint (one_of enum) b e = tt
  joint table b e = tt
  joint applied b e = tt
  joint (object obj) b e = tt
  joint items b e = tt
  joint nothing b e = tt
  joint unknown b e = tt

  together : (a b : Kind) (e : Exp16) → ByKind s (concatenated a b) e
  together (bits v) (bits w) e = either (nat_lt 128 (v + w)) unknown (bits (v + w)) e tt tt
  together (bits v) unsized e = tt
  together (bits v) boolean e = tt
  together (bits v) error_code e = tt
  together (bits v) (header type) e = tt
  together (bits v) (stack type size) e = tt
  together (bits v) (struct type) e = tt
  together (bits v) packet_in e = tt
  together (bits v) packet_out e = tt
  together (bits v) errors e = tt
  together (bits v) (enumeration enum) e = tt
  together (bits v) (one_of enum) e = tt
  together (bits v) table e = tt
  together (bits v) applied e = tt
  together (bits v) (object obj) e = tt
  together (bits v) items e = tt
  together (bits v) nothing e = tt
  together (bits v) unknown e = tt
  together unsized b e = tt
  together boolean b e = tt
  together error_code b e = tt
  together (header type) b e = tt
  together (stack type size) b e = tt
  together (struct type) b e = tt
  together packet_in b e = tt
  together packet_out b e = tt
  together errors b e = tt
  together (enumeration enum) b e = tt
  together (one_of enum) b e = tt
  together table b e = tt
  together applied b e = tt
  together (object obj) b e = tt
  together items b e = tt
  together nothing b e = tt
  together unknown b e = tt

  alone : (k : Kind) (e : Exp16) → ByKind s (number_kind k) e
  alone (bits width) e = tt
  alone unsized e = tt
  alone boolean e = tt
  alone error_code e = tt
  alone (header type) e = tt
  alone (stack type size) e = tt
  alone (struct type) e = tt
  alone packet_in e = tt
  alone packet_out e = tt
  alone errors e = tt
  alone (enumeration enum) e = tt
  alone (one_of enum) e = tt
  alone table e = tt
  alone applied e = tt
  alone (object obj) e = tt
  alone items e = tt
  alone nothing e = tt
  alone unknown e = tt

  by_unary : (operator : UnaryOperator) (k : Kind) (e : Exp16) → ByKind s (unary_kind operator k) e
  by_unary Not k e = tt
  by_unary Complement k e = alone k e
  by_unary Negate k e = alone k e

  by_binary : (operator : BinaryOperator) (a b : Kind) (e : Exp16) → ByKind s (binary_kind operator a b) e
  by_binary Multiply a b e = joint a b e
  by_binary Add a b e = joint a b e
  by_binary Subtract a b e = joint a b e
  by_binary SaturatingAdd a b e = joint a b e
  by_binary SaturatingSubtract a b e = joint a b e
  by_binary Concatenate a b e = together a b e
  by_binary ShiftLeft a b e = alone a e
  by_binary ShiftRight a b e = alone a e
  by_binary BitAnd a b e = joint a b e
  by_binary BitXor a b e = joint a b e
  by_binary BitOr a b e = joint a b e
  by_binary Less a b e = tt
  by_binary LessEqual a b e = tt
  by_binary Greater a b e = tt
  by_binary GreaterEqual a b e = tt
  by_binary Equal a b e = tt
  by_binary NotEqual a b e = tt
  by_binary And a b e = tt
  by_binary Or a b e = tt

  chosen_one : (a : Kind) (e : Exp16) → ByKind s (cond (is_chosen a) a unknown) e
  chosen_one (bits width) e = tt
  chosen_one unsized e = tt
  chosen_one boolean e = tt
  chosen_one error_code e = tt
  chosen_one (header type) e = tt
  chosen_one (stack type size) e = tt
  chosen_one (struct type) e = tt
  chosen_one packet_in e = tt
  chosen_one packet_out e = tt
  chosen_one errors e = tt
  chosen_one (enumeration enum) e = tt
  chosen_one (one_of enum) e = tt
  chosen_one table e = tt
  chosen_one applied e = tt
  chosen_one (object obj) e = tt
  chosen_one items e = tt
  chosen_one nothing e = tt
  chosen_one unknown e = tt

  chosen : (a b : Kind) (e : Exp16) → ByKind s (same_choice a b) e
  chosen a b e = either (is_same_kind a b) (cond (is_chosen a) a unknown) (joint_bits a b) e (chosen_one a e) (joint a b e)

  -- elements, slices and casts
  an_element : (k : Kind) (e : Exp16) → ByKind s (element_kind k) e
  an_element (bits width) e = tt
  an_element unsized e = tt
  an_element boolean e = tt
  an_element error_code e = tt
  an_element (header type) e = tt
  an_element (stack type size) e = tt
  an_element (struct type) e = tt
  an_element packet_in e = tt
  an_element packet_out e = tt
  an_element errors e = tt
  an_element (enumeration enum) e = tt
  an_element (one_of enum) e = tt
  an_element table e = tt
  an_element applied e = tt
  an_element (object obj) e = tt
  an_element items e = tt
  an_element nothing e = tt
  an_element unknown e = tt

  a_slice : (k : Kind) (high low : Literal16) (e : Exp16) → ByKind s (slice_kind k high low) e
  a_slice (bits width) high low e = either (leaves_width width high low) unknown (bits (suc high.value - low.value)) e tt tt
  a_slice unsized high low e = tt
  a_slice boolean high low e = tt
  a_slice error_code high low e = tt
  a_slice (header type) high low e = tt
  a_slice (stack type size) high low e = tt
  a_slice (struct type) high low e = tt
  a_slice packet_in high low e = tt
  a_slice packet_out high low e = tt
  a_slice errors high low e = tt
  a_slice (enumeration enum) high low e = tt
  a_slice (one_of enum) high low e = tt
  a_slice table high low e = tt
  a_slice applied high low e = tt
  a_slice (object obj) high low e = tt
  a_slice items high low e = tt
  a_slice nothing high low e = tt
  a_slice unknown high low e = tt

  a_cast : (to : CastType) (e : Exp16) → ByKind s (cast_kind to) e
  a_cast (cast_to.Bit width) e = tt
  a_cast cast_to.Bool e = tt

  a_number : (o : Option ℕ) (e : Exp16) → ByKind s (option_map_or (λ w. bits w) o unsized) e
  a_number None e = tt
  a_number (Some width) e = tt

  -- calls
  gives : (t : Bool) (x y : Option Signature) (e : Exp16) → ByKind s (call_kind x) e → ByKind s (call_kind y) e → ByKind s (call_kind (cond t x y)) e
  gives true x y e h g = h
  gives false x y e h g = g

  a_method : (k : Kind) (word : Name) (e : Exp16) → ByKind s (call_kind (method_signature k word)) e
  a_method (bits width) word e = tt
  a_method unsized word e = tt
  a_method boolean word e = tt
  a_method error_code word e = tt
  a_method (header type) word e = three (bytes_eq word (codes "isValid")) (bytes_eq word (codes "setValid")) (bytes_eq word (codes "setInvalid")) where
    three : (t u v : Bool) → ByKind s (call_kind (cond t (Some (method false [] boolean)) (cond u (Some (method true [] nothing)) (cond v (Some (method true [] nothing)) None)))) e
    three true u v = tt
    three false true v = tt
    three false false true = tt
    three false false false = tt
  a_method (stack type size) word e = two (bytes_eq word (codes "push_front")) (bytes_eq word (codes "pop_front")) where
    two : (t u : Bool) → ByKind s (call_kind (cond t (Some (method true (literal_of (bits 32) ∷ []) nothing)) (cond u (Some (method true (literal_of (bits 32) ∷ []) nothing)) None))) e
    two true u = tt
    two false true = tt
    two false false = tt
  a_method (struct type) word e = tt
  a_method packet_in word e = gives (bytes_eq word (codes "extract")) (Some (extern_at (parser_position ∷ []) (written_header ∷ []))) None e tt tt
  a_method packet_out word e = gives (bytes_eq word (codes "emit")) (Some (extern_at (deparser_position ∷ []) (emitted ∷ []))) None e tt tt
  a_method errors word e = tt
  a_method (enumeration enum) word e = tt
  a_method (one_of enum) word e = tt
  a_method table word e = gives (bytes_eq word (codes "apply")) (Some (method false [] applied)) None e tt tt
  a_method applied word e = tt
  a_method (object counter) word e = gives (bytes_eq word (codes "count")) (Some (in_pipelines (index_place ∷ []))) None e tt tt
  a_method (object direct_counter) word e = gives (bytes_eq word (codes "count")) (Some counts_by_entry) None e tt tt
  a_method (object register) word e = two (bytes_eq word (codes "read")) (bytes_eq word (codes "write")) where
    two : (t u : Bool) → ByKind s (call_kind (cond t (Some (in_pipelines (written_bits ∷ index_place ∷ []))) (cond u (Some (in_pipelines (index_place ∷ any_bits ∷ []))) None))) e
    two true u = tt
    two false true = tt
    two false false = tt
  a_method (object meter) word e = gives (bytes_eq word (codes "execute_meter")) (Some (in_pipelines (index_place ∷ written_bits ∷ []))) None e tt tt
  a_method items word e = tt
  a_method nothing word e = tt
  a_method unknown word e = tt

  a_function_gives : (text : Name) (e : Exp16) → ByKind s (call_kind (function_signature text)) e
  a_function_gives text e =
      gives (bytes_eq text (codes "mark_to_drop")) (Some (in_pipelines (written standard ∷ []))) (cond (bytes_eq text (codes "hash")) (Some (in_pipelines (written_bits ∷ member_place hash_algorithm ∷ any_bits ∷ item_list ∷ any_bits ∷ []))) (cond (bytes_eq text (codes "verify_checksum")) (Some (extern_at (verify_position ∷ []) (checksum_places any_bits))) (cond (bytes_eq text (codes "verify_checksum_with_payload")) (Some (extern_at (verify_position ∷ []) (checksum_places any_bits))) (cond (bytes_eq text (codes "update_checksum")) (Some (extern_at (compute_position ∷ []) (checksum_places written_bits))) (cond (bytes_eq text (codes "update_checksum_with_payload")) (Some (extern_at (compute_position ∷ []) (checksum_places written_bits))) (cond (bytes_eq text (codes "clone_preserving_field_list")) (Some clone_signature) (cond (bytes_eq text (codes "resubmit_preserving_field_list")) (Some (extern_at (ingress_position ∷ []) (list_number ∷ []))) (cond (bytes_eq text (codes "recirculate_preserving_field_list")) (Some (extern_at (egress_position ∷ []) (list_number ∷ []))) None)))))))) e tt (gives (bytes_eq text (codes "hash")) (Some (in_pipelines (written_bits ∷ member_place hash_algorithm ∷ any_bits ∷ item_list ∷ any_bits ∷ []))) (cond (bytes_eq text (codes "verify_checksum")) (Some (extern_at (verify_position ∷ []) (checksum_places any_bits))) (cond (bytes_eq text (codes "verify_checksum_with_payload")) (Some (extern_at (verify_position ∷ []) (checksum_places any_bits))) (cond (bytes_eq text (codes "update_checksum")) (Some (extern_at (compute_position ∷ []) (checksum_places written_bits))) (cond (bytes_eq text (codes "update_checksum_with_payload")) (Some (extern_at (compute_position ∷ []) (checksum_places written_bits))) (cond (bytes_eq text (codes "clone_preserving_field_list")) (Some clone_signature) (cond (bytes_eq text (codes "resubmit_preserving_field_list")) (Some (extern_at (ingress_position ∷ []) (list_number ∷ []))) (cond (bytes_eq text (codes "recirculate_preserving_field_list")) (Some (extern_at (egress_position ∷ []) (list_number ∷ []))) None))))))) e tt (gives (bytes_eq text (codes "verify_checksum")) (Some (extern_at (verify_position ∷ []) (checksum_places any_bits))) (cond (bytes_eq text (codes "verify_checksum_with_payload")) (Some (extern_at (verify_position ∷ []) (checksum_places any_bits))) (cond (bytes_eq text (codes "update_checksum")) (Some (extern_at (compute_position ∷ []) (checksum_places written_bits))) (cond (bytes_eq text (codes "update_checksum_with_payload")) (Some (extern_at (compute_position ∷ []) (checksum_places written_bits))) (cond (bytes_eq text (codes "clone_preserving_field_list")) (Some clone_signature) (cond (bytes_eq text (codes "resubmit_preserving_field_list")) (Some (extern_at (ingress_position ∷ []) (list_number ∷ []))) (cond (bytes_eq text (codes "recirculate_preserving_field_list")) (Some (extern_at (egress_position ∷ []) (list_number ∷ []))) None)))))) e tt (gives (bytes_eq text (codes "verify_checksum_with_payload")) (Some (extern_at (verify_position ∷ []) (checksum_places any_bits))) (cond (bytes_eq text (codes "update_checksum")) (Some (extern_at (compute_position ∷ []) (checksum_places written_bits))) (cond (bytes_eq text (codes "update_checksum_with_payload")) (Some (extern_at (compute_position ∷ []) (checksum_places written_bits))) (cond (bytes_eq text (codes "clone_preserving_field_list")) (Some clone_signature) (cond (bytes_eq text (codes "resubmit_preserving_field_list")) (Some (extern_at (ingress_position ∷ []) (list_number ∷ []))) (cond (bytes_eq text (codes "recirculate_preserving_field_list")) (Some (extern_at (egress_position ∷ []) (list_number ∷ []))) None))))) e tt (gives (bytes_eq text (codes "update_checksum")) (Some (extern_at (compute_position ∷ []) (checksum_places written_bits))) (cond (bytes_eq text (codes "update_checksum_with_payload")) (Some (extern_at (compute_position ∷ []) (checksum_places written_bits))) (cond (bytes_eq text (codes "clone_preserving_field_list")) (Some clone_signature) (cond (bytes_eq text (codes "resubmit_preserving_field_list")) (Some (extern_at (ingress_position ∷ []) (list_number ∷ []))) (cond (bytes_eq text (codes "recirculate_preserving_field_list")) (Some (extern_at (egress_position ∷ []) (list_number ∷ []))) None)))) e tt (gives (bytes_eq text (codes "update_checksum_with_payload")) (Some (extern_at (compute_position ∷ []) (checksum_places written_bits))) (cond (bytes_eq text (codes "clone_preserving_field_list")) (Some clone_signature) (cond (bytes_eq text (codes "resubmit_preserving_field_list")) (Some (extern_at (ingress_position ∷ []) (list_number ∷ []))) (cond (bytes_eq text (codes "recirculate_preserving_field_list")) (Some (extern_at (egress_position ∷ []) (list_number ∷ []))) None))) e tt (gives (bytes_eq text (codes "clone_preserving_field_list")) (Some clone_signature) (cond (bytes_eq text (codes "resubmit_preserving_field_list")) (Some (extern_at (ingress_position ∷ []) (list_number ∷ []))) (cond (bytes_eq text (codes "recirculate_preserving_field_list")) (Some (extern_at (egress_position ∷ []) (list_number ∷ []))) None)) e tt (gives (bytes_eq text (codes "resubmit_preserving_field_list")) (Some (extern_at (ingress_position ∷ []) (list_number ∷ []))) (cond (bytes_eq text (codes "recirculate_preserving_field_list")) (Some (extern_at (egress_position ∷ []) (list_number ∷ []))) None) e tt (gives (bytes_eq text (codes "recirculate_preserving_field_list")) (Some (extern_at (egress_position ∷ []) (list_number ∷ []))) None e tt tt))))))))

  by_sort : (x : Sort) (text : Name) (e : Exp16) → ByKind s (call_kind (sort_signature x text)) e
  by_sort (a_type k) text e = tt
  by_sort (a_value k can) text e = tt
  by_sort (an_enumeration enum) text e = tt
  by_sort a_function text e = a_function_gives text e
  by_sort (an_object obj) text e = tt
  by_sort (an_action plane hs) text e = tt
  by_sort (a_table actions counters) text e = tt
  by_sort a_state text e = tt
  by_sort a_block text e = tt
  by_sort undeclared text e = tt

  -- names and members
  named : (x : Sort) (text : Name) → SortPlain x → ByKind s (sort_kind x) (name text)
  named (a_type k) text h = tt
  named (a_value k can) text h = plain_kind k (name text) h
  named (an_enumeration enum) text h = (text, refl)
  named a_function text h = tt
  named (an_object obj) text h = tt
  named (an_action plane hs) text h = tt
  named (a_table actions counters) text h = (text, refl)
  named a_state text h = tt
  named a_block text h = tt
  named undeclared text h = tt

  known : (t : Bool) (k : Kind) (e : Exp16) → ByKind s k e → ByKind s (known_kind (cond t (Some k) None)) e
  known true k e h = h
  known false k e h = tt

  a_member_of : (e : Exp16) (word : Name) (enum : Enumeration) → kind_of s e ≡ enumeration enum → IsNamed e → IsMemberOf s enum (member e word)
  a_member_of e word enum kind h = record {
    text = h.0;
    word = word;
    is = ap (λ (f : Exp16). member f word) h.1;
    kind = ap (kind_of s) (sym h.1) ∙ kind;
  }

  behind : NamesPlain s → (k : Kind) (e : Exp16) (word : Name) → kind_of s e ≡ k → ByKind s k e → ByKind s (known_kind (member_kind s.layouts k word)) (member e word)
  behind plain (bits width) e word kind h = tt
  behind plain unsized e word kind h = tt
  behind plain boolean e word kind h = tt
  behind plain error_code e word kind h = tt
  behind plain (header type) e word kind h = plain_kind (known_kind (field_kind_in (fields_in s.layouts type) word)) (member e word) (plain.members type word)
  behind plain (stack type size) e word kind h = known (has_name (codes "next" ∷ codes "last" ∷ []) word) (header type) (member e word) tt
  behind plain (struct type) e word kind h = plain_kind (known_kind (field_kind_in (fields_in s.layouts type) word)) (member e word) (plain.members type word)
  behind plain packet_in e word kind h = tt
  behind plain packet_out e word kind h = tt
  behind plain errors e word kind h = known (has_name error_names word) error_code (member e word) tt
  behind plain (enumeration enum) e word kind h = known (has_name (members_of enum) word) (one_of enum) (member e word) (a_member_of e word enum kind h)
  behind plain (one_of enum) e word kind h = tt
  behind plain table e word kind h = tt
  behind plain applied e word kind h = known (has_name (codes "hit" ∷ codes "miss" ∷ []) word) boolean (member e word) tt
  behind plain (object obj) e word kind h = tt
  behind plain items e word kind h = tt
  behind plain nothing e word kind h = tt
  behind plain unknown e word kind h = tt

  -- what expressions of a kind are
  pub by_kind : NamesPlain s → (e : Exp16) → ToldNone s e → ByKind s (kind_of s e) e
  by_kind plain (literal n) told = a_number n.width (literal n)
  by_kind plain (truth holds) told = tt
  by_kind plain error told = tt
  by_kind plain (name text) told = named (sort_of s text) text (plain.names text)
  by_kind plain (member e word) told = behind plain (kind_of s e) e word refl (by_kind plain e told.1)
  by_kind plain (index e at) told = an_element (kind_of s e) (index e at)
  by_kind plain (slice e high low) told = a_slice (kind_of s e) high low (slice e high low)
  by_kind plain (call (name text) handed) told = by_sort (sort_of s text) text (call (name text) handed)
  by_kind plain (call (member e word) handed) told = a_method (kind_of s e) word (call (member e word) handed)
  by_kind plain (call (literal n) handed) told = tt
  by_kind plain (call (truth holds) handed) told = tt
  by_kind plain (call error handed) told = tt
  by_kind plain (call (index e at) handed) told = tt
  by_kind plain (call (slice e high low) handed) told = tt
  by_kind plain (call (call g more) handed) told = tt
  by_kind plain (call (lookahead e to more) handed) told = tt
  by_kind plain (call (cast to e) handed) told = tt
  by_kind plain (call (unary operator e) handed) told = tt
  by_kind plain (call (binary operator a d) handed) told = tt
  by_kind plain (call (choice c a d) handed) told = tt
  by_kind plain (call (parenthesized e) handed) told = tt
  by_kind plain (call no_arguments handed) told = tt
  by_kind plain (call (argument before last) handed) told = tt
  by_kind plain (call (listed es) handed) told = tt
  by_kind plain (lookahead e to handed) told = absurd told
  by_kind plain (cast to e) told = a_cast to (cast to e)
  by_kind plain (unary operator e) told = by_unary operator (kind_of s e) (unary operator e)
  by_kind plain (binary operator a d) told = by_binary operator (kind_of s a) (kind_of s d) (binary operator a d)
  by_kind plain (choice c a d) told = chosen (kind_of s a) (kind_of s d) (choice c a d)
  by_kind plain (parenthesized e) told = tt
  by_kind plain no_arguments told = tt
  by_kind plain (argument before last) told = tt
  by_kind plain (listed es) told = (es, refl)

  -- places
  same_number : (a d : Enumeration) → is_same_enumeration a d ≡ true → d ≡ a
  same_number hash_algorithm hash_algorithm is = refl
  same_number hash_algorithm counter_type is = absurd (cc is)
  same_number hash_algorithm meter_type is = absurd (cc is)
  same_number hash_algorithm clone_type is = absurd (cc is)
  same_number counter_type hash_algorithm is = absurd (cc is)
  same_number counter_type counter_type is = refl
  same_number counter_type meter_type is = absurd (cc is)
  same_number counter_type clone_type is = absurd (cc is)
  same_number meter_type hash_algorithm is = absurd (cc is)
  same_number meter_type counter_type is = absurd (cc is)
  same_number meter_type meter_type is = refl
  same_number meter_type clone_type is = absurd (cc is)
  same_number clone_type hash_algorithm is = absurd (cc is)
  same_number clone_type counter_type is = absurd (cc is)
  same_number clone_type meter_type is = absurd (cc is)
  same_number clone_type clone_type is = refl

  same_member : (enum : Enumeration) (k : Kind) → is_same_kind (one_of enum) k ≡ true → k ≡ one_of enum
  same_member enum (bits width) is = absurd (cc is)
  same_member enum unsized is = absurd (cc is)
  same_member enum boolean is = absurd (cc is)
  same_member enum error_code is = absurd (cc is)
  same_member enum (header type) is = absurd (cc is)
  same_member enum (stack type size) is = absurd (cc is)
  same_member enum (struct type) is = absurd (cc is)
  same_member enum packet_in is = absurd (cc is)
  same_member enum packet_out is = absurd (cc is)
  same_member enum errors is = absurd (cc is)
  same_member enum (enumeration other) is = absurd (cc is)
  same_member enum (one_of other) is = ap one_of (same_number enum other is)
  same_member enum table is = absurd (cc is)
  same_member enum applied is = absurd (cc is)
  same_member enum (object obj) is = absurd (cc is)
  same_member enum items is = absurd (cc is)
  same_member enum nothing is = absurd (cc is)
  same_member enum unknown is = absurd (cc is)

  same_items : (k : Kind) → is_items k ≡ true → k ≡ items
  same_items (bits width) is = absurd (cc is)
  same_items unsized is = absurd (cc is)
  same_items boolean is = absurd (cc is)
  same_items error_code is = absurd (cc is)
  same_items (header type) is = absurd (cc is)
  same_items (stack type size) is = absurd (cc is)
  same_items (struct type) is = absurd (cc is)
  same_items packet_in is = absurd (cc is)
  same_items packet_out is = absurd (cc is)
  same_items errors is = absurd (cc is)
  same_items (enumeration enum) is = absurd (cc is)
  same_items (one_of enum) is = absurd (cc is)
  same_items table is = absurd (cc is)
  same_items applied is = absurd (cc is)
  same_items (object obj) is = absurd (cc is)
  same_items items is = refl
  same_items nothing is = absurd (cc is)
  same_items unknown is = absurd (cc is)

  not_false : (t : Bool) → not t ≡ false → t ≡ true
  not_false true is = refl
  not_false false is = absurd (cc is)

  fits_place : NamesPlain s → (p : Place) (e : Exp16) → ToldNone s e → is_mistyped (an_expression s p e) ≡ false → overflows (an_expression s p e) ≡ false → FitsPlace s p e
  fits_place plain (value k) e told typed fit = tt
  fits_place plain (written k) e told typed fit = tt
  fits_place plain any_bits e told typed fit = tt
  fits_place plain written_bits e told typed fit = tt
  fits_place plain one_bit e told typed fit = tt
  fits_place plain bits_or_boolean e told typed fit = tt
  fits_place plain written_header e told typed fit = tt
  fits_place plain emitted e told typed fit = tt
  fits_place plain (literal_of k) e told typed fit = fit
  fits_place plain any_literal e told typed fit = tt
  fits_place plain item_list e told typed fit = subst (λ (k : Kind). ByKind s k e) (same_items (kind_of s e) (not_false (is_items (kind_of s e)) typed)) (by_kind plain e told)
  fits_place plain (member_place enum) e told typed fit = subst (λ (k : Kind). ByKind s k e) (same_member enum (kind_of s e) (not_false (is_same_kind (one_of enum) (kind_of s e)) typed)) (by_kind plain e told)
  fits_place plain select_key e told typed fit = tt
  fits_place plain (table_key is_exact) e told typed fit = tt
  fits_place plain target e told typed fit = tt
  fits_place plain owner e told typed fit = tt
  fits_place plain written_owner e told typed fit = tt
  fits_place plain a_stack e told typed fit = tt
  fits_place plain callee e told typed fit = tt
  fits_place plain statement e told typed fit = tt
  fits_place plain unasked e told typed fit = tt

  head_of : (p : Place) (e : Exp16) (test : Use → Bool) → list_any test (uses_at s (one p) e) ≡ false → test (an_expression s p e) ≡ false
  head_of p (literal n) test none = first_false (test (an_expression s p (literal n))) _ none
  head_of p (truth holds) test none = first_false (test (an_expression s p (truth holds))) _ none
  head_of p error test none = first_false (test (an_expression s p error)) _ none
  head_of p (name text) test none = first_false (test (an_expression s p (name text))) _ none
  head_of p (member e word) test none = first_false (test (an_expression s p (member e word))) _ none
  head_of p (index e at) test none = first_false (test (an_expression s p (index e at))) _ none
  head_of p (slice e high low) test none = first_false (test (an_expression s p (slice e high low))) _ none
  head_of p (call g handed) test none = first_false (test (an_expression s p (call g handed))) _ none
  head_of p (lookahead e to handed) test none = first_false (test (an_expression s p (lookahead e to handed))) _ none
  head_of p (cast to e) test none = first_false (test (an_expression s p (cast to e))) _ none
  head_of p (unary operator e) test none = first_false (test (an_expression s p (unary operator e))) _ none
  head_of p (binary operator a d) test none = first_false (test (an_expression s p (binary operator a d))) _ none
  head_of p (choice c a d) test none = first_false (test (an_expression s p (choice c a d))) _ none
  head_of p (parenthesized e) test none = first_false (test (an_expression s p (parenthesized e))) _ none
  head_of p no_arguments test none = first_false (test (an_expression s p no_arguments)) _ none
  head_of p (argument before last) test none = first_false (test (an_expression s p (argument before last))) _ none
  head_of p (listed es) test none = first_false (test (an_expression s p (listed es))) _ none

  -- all arguments
  none_fit : (places : List Place) → FitPlaces s places []
  none_fit [] = tt
  none_fit (p ∷ places) = tt

  one_more : (places : List Place) (es : List Exp16) (e : Exp16) → FitPlaces s places es → FitsPlace s (get_or places (length es) unasked) e → FitPlaces s places (es ++ e ∷ [])
  one_more [] [] e fit last = tt
  one_more (p ∷ places) [] e fit last = (last, none_fit places)
  one_more [] (x ∷ es) e fit last = tt
  one_more (p ∷ places) (x ∷ es) e fit last = (fit.0, one_more places es e fit.1 last)

  each_front : (P : Exp16 → Type 0) (es : List Exp16) (e : Exp16) → Each P (es ++ e ∷ []) → Each P es
  each_front P [] e h = tt
  each_front P (x ∷ es) e h = (h.0, each_front P es e h.1)

  each_last : (P : Exp16 → Type 0) (es : List Exp16) (e : Exp16) → Each P (es ++ e ∷ []) → P e
  each_last P [] e h = h.0
  each_last P (x ∷ es) e h = each_last P es e h.1

  counted : (e : Exp16) → length (arguments_of e) ≡ argument_count e
  counted (literal n) = refl
  counted (truth holds) = refl
  counted error = refl
  counted (name text) = refl
  counted (member e word) = refl
  counted (index e at) = refl
  counted (slice e high low) = refl
  counted (call g handed) = refl
  counted (lookahead e to handed) = refl
  counted (cast to e) = refl
  counted (unary operator e) = refl
  counted (binary operator a d) = refl
  counted (choice c a d) = refl
  counted (parenthesized e) = refl
  counted no_arguments = refl
  counted (argument before last) =
      let earlier : length (arguments_of before) ≡ argument_count before = counted before in
      omega (arith, length-append (arguments_of before) (last ∷ []))
  counted (listed es) = refl

  pub places_fit : NamesPlain s → (places : List Place) (e : Exp16) → list_any is_mistyped (uses_at s (many places unasked) e) ≡ false → list_any overflows (uses_at s (many places unasked) e) ≡ false → Each (ToldNone s) (arguments_of e) → FitPlaces s places (arguments_of e)
  places_fit plain places (argument before last) typed fit told =
      let p : Place = get_or places (argument_count before) unasked in
      let first : List Use = uses_at s (many places unasked) before in
      let second : List Use = uses_at s (one p) last in
      one_more places (arguments_of before) last
      (places_fit plain places before (front_none is_mistyped first second typed) (front_none overflows first second fit) (each_front (ToldNone s) (arguments_of before) last told))
      (subst (λ (n : ℕ). FitsPlace s (get_or places n unasked) last) (sym (counted before))
      (fits_place plain p last (each_last (ToldNone s) (arguments_of before) last told) (head_of p last is_mistyped (rest_none is_mistyped first second typed)) (head_of p last overflows (rest_none overflows first second fit))))
  places_fit plain places (literal n) typed fit told = none_fit places
  places_fit plain places (truth holds) typed fit told = none_fit places
  places_fit plain places error typed fit told = none_fit places
  places_fit plain places (name text) typed fit told = none_fit places
  places_fit plain places (member e word) typed fit told = none_fit places
  places_fit plain places (index e at) typed fit told = none_fit places
  places_fit plain places (slice e high low) typed fit told = none_fit places
  places_fit plain places (call g handed) typed fit told = none_fit places
  places_fit plain places (lookahead e to handed) typed fit told = none_fit places
  places_fit plain places (cast to e) typed fit told = none_fit places
  places_fit plain places (unary operator e) typed fit told = none_fit places
  places_fit plain places (binary operator a d) typed fit told = none_fit places
  places_fit plain places (choice c a d) typed fit told = none_fit places
  places_fit plain places (parenthesized e) typed fit told = none_fit places
  places_fit plain places no_arguments typed fit told = none_fit places
  places_fit plain places (listed es) typed fit told = none_fit places

  as_many : (n : ℕ) (o : Option Signature) → option_map_or (takes_other_count n) o false ≡ false → IfSome o (λ g. n ≡ length g.wanted)
  as_many n None is = tt
  as_many n (Some g) is = sym (eqb-true (length g.wanted) n (not_false (nat_eq (length g.wanted) n) is))

  -- so a call fits
  pub call_fits : NamesPlain s → (g handed : Exp16) → Keeps s statement (call g handed) → list_any overflows (uses s statement (call g handed)) ≡ false → list_any is_miscounted (uses s statement (call g handed)) ≡ false → Each (ToldNone s) (arguments_of handed) → CallFits s g handed
  call_fits plain g handed keeps fit count told =
      let first : List Use = an_expression s statement (call g handed) ∷ uses s callee g in
      let second : List Use = uses_at s (many (wanted_by (signature_of s g)) unasked) handed in
      record {
        keeps = keeps;
        count = subst (λ (n : ℕ). IfSome (signature_of s g) (λ x. n ≡ length x.wanted)) (sym (counted handed)) (as_many (argument_count handed) (signature_of s g) (head_of statement (call g handed) is_miscounted count));
        places = places_fit plain (wanted_by (signature_of s g)) handed (rest_none is_mistyped first second keeps.0) (rest_none overflows first second fit) told;
        told = told;
      }

  -- only a name is a table
  pub tables_named : NamesPlain s → (e : Exp16) → ToldNone s e → kind_of s e ≡ table → (text : Name) × (e ≡ name text)
  tables_named plain e told is = subst (λ (k : Kind). ByKind s k e) is (by_kind plain e told)
