-- In the scopes of a program only a name is a table.
use Rattle.std.proofs.Common.{◌≡◌, ℕ, suc, ◌+◌, ◌-◌, nat_lt, nat_eq, Bool, true, false, cond, codes, Option, Some, None, List, [], ◌∷◌, ◌++◌, map, flat_map, refl, sym, subst, bytes_eq}
use Rattle.std.specs.Option.{option_map_or}
use Rattle.p416_syntax.specs.declared.lexeme.Literal16.{Literal16}
use Rattle.p416_syntax.specs.declared.node.CastType.{CastType}
use Rattle.p416_syntax.specs.declared.node.CastType.TheVariants as cast_to
use Rattle.p416_syntax.specs.declared.node.UnaryOperator.{UnaryOperator}
use Rattle.p416_syntax.specs.declared.node.UnaryOperator.TheVariants.{Not, Complement, Negate}
use Rattle.p416_syntax.specs.declared.node.BinaryOperator.{BinaryOperator}
use Rattle.p416_syntax.specs.declared.node.BinaryOperator.TheVariants.{Multiply, Add, Subtract, SaturatingAdd, SaturatingSubtract, Concatenate, ShiftLeft, ShiftRight, BitAnd, BitXor, BitOr, Less, LessEqual, Greater, GreaterEqual, Equal, NotEqual, And, Or}
use Rattle.p416_syntax.specs.declared.parts.Type16.{Type16}
use Rattle.p416_syntax.specs.declared.parts.Type16.TheVariants as type16
use Rattle.p416_syntax.specs.declared.parts.BitField.{BitField}
use Rattle.p416_syntax.specs.declared.parts.StructField.{StructField}
use Rattle.p416_syntax.specs.declared.controls.Instance.{Instance}
use Rattle.p416_syntax.specs.declared.controls.Instance.TheVariants as instance
use Rattle.p416_syntax.specs.declared.program.Decl16.{Decl16}
use Rattle.p416_syntax.specs.declared.program.Decl16.TheVariants as decl
use Rattle.p416_syntax.specs.Tree.{Exp16, literal, truth, error, name, member, index, slice, call, lookahead, cast, unary, binary, choice, parenthesized, no_arguments, argument, listed}
use Rattle.p416_syntax.specs.Names.{Name, has_name}
use Rattle.p416_syntax.specs.BuiltIn.{built_in, standard, standard_layout, members_of, error_names}
use Rattle.p416_syntax.specs.Kinds.{hash_algorithm, counter, direct_counter, register, meter, Kind, bits, unsized, boolean, error_code, header, stack, struct, packet_in, packet_out, errors, enumeration, one_of, table, applied, object, items, nothing, unknown, is_same_kind}
use Rattle.p416_syntax.specs.Scopes.{Layout, FieldKind, fields_in, Sort, a_type, a_value, an_enumeration, a_function, an_object, an_action, a_table, a_state, a_block, undeclared, Known, sort_in, Scope, sort_of, type_sort, stack_kind, kind_of_type}
use Rattle.p416_syntax.specs.Calls.{written, any_bits, written_bits, written_header, emitted, literal_of, item_list, member_place, Signature, extern_at, in_pipelines, checksum_places, list_number, index_place, clone_signature, method, counts_by_entry, parser_position, verify_position, ingress_position, egress_position, compute_position, deparser_position, function_signature, method_signature}
use Rattle.p416_syntax.specs.Expressions.{field_kind_in, member_kind, known_kind, joint_bits, concatenated, number_kind, unary_kind, binary_kind, is_chosen, same_choice, element_kind, leaves_width, slice_kind, cast_kind, sort_signature, call_kind, kind_of}
use Rattle.p416_syntax.specs.Declarations.{instance_sort, top_name, top_names, bit_field, struct_field, layout_in, layouts_of}
use Rattle.v1_ready_laws.specs.Kinds.{IsNoTable}
use Rattle.v1_control_laws.proofs.Values.{either}
use Rattle.v1_control_laws.specs.Testing.{TablesNamed}

-- kinds of operators

joint : (a b : Kind) → IsNoTable (joint_bits a b)
joint (bits width) (bits least) = either IsNoTable (nat_eq width least) (bits width) unknown tt tt
joint (bits width) unsized = tt
joint (bits width) boolean = tt
joint (bits width) error_code = tt
joint (bits width) (header other) = tt
joint (bits width) (stack other extent) = tt
joint (bits width) (struct other) = tt
joint (bits width) packet_in = tt
joint (bits width) packet_out = tt
joint (bits width) errors = tt
joint (bits width) (enumeration which) = tt
joint (bits width) (one_of which) = tt
joint (bits width) table = tt
joint (bits width) applied = tt
joint (bits width) (object thing) = tt
joint (bits width) items = tt
joint (bits width) nothing = tt
joint (bits width) unknown = tt
joint unsized (bits least) = tt
joint unsized unsized = tt
joint unsized boolean = tt
joint unsized error_code = tt
joint unsized (header other) = tt
joint unsized (stack other extent) = tt
joint unsized (struct other) = tt
joint unsized packet_in = tt
joint unsized packet_out = tt
joint unsized errors = tt
joint unsized (enumeration which) = tt
joint unsized (one_of which) = tt
joint unsized table = tt
joint unsized applied = tt
joint unsized (object thing) = tt
joint unsized items = tt
joint unsized nothing = tt
joint unsized unknown = tt
joint boolean b = tt
joint error_code b = tt
joint (header type) b = tt
joint (stack type size) b = tt
joint (struct type) b = tt
joint packet_in b = tt
joint packet_out b = tt
joint errors b = tt
joint (enumeration enum) b = tt
joint (one_of enum) b = tt
joint table b = tt
joint applied b = tt
joint (object obj) b = tt
joint items b = tt
joint nothing b = tt
joint unknown b = tt

together : (a b : Kind) → IsNoTable (concatenated a b)
together (bits width) (bits least) = either IsNoTable (nat_lt 128 (width + least)) unknown (bits (width + least)) tt tt
together (bits width) unsized = tt
together (bits width) boolean = tt
together (bits width) error_code = tt
together (bits width) (header other) = tt
together (bits width) (stack other extent) = tt
together (bits width) (struct other) = tt
together (bits width) packet_in = tt
together (bits width) packet_out = tt
together (bits width) errors = tt
together (bits width) (enumeration which) = tt
together (bits width) (one_of which) = tt
together (bits width) table = tt
together (bits width) applied = tt
together (bits width) (object thing) = tt
together (bits width) items = tt
together (bits width) nothing = tt
together (bits width) unknown = tt
together unsized b = tt
together boolean b = tt
together error_code b = tt
together (header type) b = tt
together (stack type size) b = tt
together (struct type) b = tt
together packet_in b = tt
together packet_out b = tt
together errors b = tt
together (enumeration enum) b = tt
together (one_of enum) b = tt
together table b = tt
together applied b = tt
together (object obj) b = tt
together items b = tt
together nothing b = tt
together unknown b = tt

alone : (k : Kind) → IsNoTable (number_kind k)
alone (bits width) = tt
alone unsized = tt
alone boolean = tt
alone error_code = tt
alone (header type) = tt
alone (stack type size) = tt
alone (struct type) = tt
alone packet_in = tt
alone packet_out = tt
alone errors = tt
alone (enumeration enum) = tt
alone (one_of enum) = tt
alone table = tt
alone applied = tt
alone (object obj) = tt
alone items = tt
alone nothing = tt
alone unknown = tt

by_unary : (operator : UnaryOperator) (k : Kind) → IsNoTable (unary_kind operator k)
by_unary Not k = tt
by_unary Complement k = alone k
by_unary Negate k = alone k

by_binary : (operator : BinaryOperator) (a b : Kind) → IsNoTable (binary_kind operator a b)
by_binary Multiply a b = joint a b
by_binary Add a b = joint a b
by_binary Subtract a b = joint a b
by_binary SaturatingAdd a b = joint a b
by_binary SaturatingSubtract a b = joint a b
by_binary Concatenate a b = together a b
by_binary ShiftLeft a b = alone a
by_binary ShiftRight a b = alone a
by_binary BitAnd a b = joint a b
by_binary BitXor a b = joint a b
by_binary BitOr a b = joint a b
by_binary Less a b = tt
by_binary LessEqual a b = tt
by_binary Greater a b = tt
by_binary GreaterEqual a b = tt
by_binary Equal a b = tt
by_binary NotEqual a b = tt
by_binary And a b = tt
by_binary Or a b = tt

chosen_one : (k : Kind) → IsNoTable (cond (is_chosen k) k unknown)
chosen_one (bits width) = tt
chosen_one unsized = tt
chosen_one boolean = tt
chosen_one error_code = tt
chosen_one (header type) = tt
chosen_one (stack type size) = tt
chosen_one (struct type) = tt
chosen_one packet_in = tt
chosen_one packet_out = tt
chosen_one errors = tt
chosen_one (enumeration enum) = tt
chosen_one (one_of enum) = tt
chosen_one table = tt
chosen_one applied = tt
chosen_one (object obj) = tt
chosen_one items = tt
chosen_one nothing = tt
chosen_one unknown = tt

chosen : (a b : Kind) → IsNoTable (same_choice a b)
chosen a b = either IsNoTable (is_same_kind a b) (cond (is_chosen a) a unknown) (joint_bits a b) (chosen_one a) (joint a b)

an_element : (k : Kind) → IsNoTable (element_kind k)
an_element (bits width) = tt
an_element unsized = tt
an_element boolean = tt
an_element error_code = tt
an_element (header type) = tt
an_element (stack type size) = tt
an_element (struct type) = tt
an_element packet_in = tt
an_element packet_out = tt
an_element errors = tt
an_element (enumeration enum) = tt
an_element (one_of enum) = tt
an_element table = tt
an_element applied = tt
an_element (object obj) = tt
an_element items = tt
an_element nothing = tt
an_element unknown = tt

a_slice : (k : Kind) (high low : Literal16) → IsNoTable (slice_kind k high low)
a_slice (bits width) high low = either IsNoTable (leaves_width width high low) unknown (bits (suc high.value - low.value)) tt tt
a_slice unsized high low = tt
a_slice boolean high low = tt
a_slice error_code high low = tt
a_slice (header type) high low = tt
a_slice (stack type size) high low = tt
a_slice (struct type) high low = tt
a_slice packet_in high low = tt
a_slice packet_out high low = tt
a_slice errors high low = tt
a_slice (enumeration enum) high low = tt
a_slice (one_of enum) high low = tt
a_slice table high low = tt
a_slice applied high low = tt
a_slice (object obj) high low = tt
a_slice items high low = tt
a_slice nothing high low = tt
a_slice unknown high low = tt

a_cast : (to : CastType) → IsNoTable (cast_kind to)
a_cast (cast_to.Bit width) = tt
a_cast cast_to.Bool = tt

a_number : (o : Option ℕ) → IsNoTable (option_map_or (λ w. bits w) o unsized)
a_number None = tt
a_number (Some width) = tt

-- of calls

abbrev Gives : Option Signature → Type 0
Gives o = IsNoTable (call_kind o)

a_method : (k : Kind) (word : Name) → Gives (method_signature k word)
a_method (bits width) word = tt
a_method unsized word = tt
a_method boolean word = tt
a_method error_code word = tt
a_method (header type) word = either Gives (bytes_eq word (codes "isValid")) (Some (method false [] boolean)) (cond (bytes_eq word (codes "setValid")) (Some (method true [] nothing)) (cond (bytes_eq word (codes "setInvalid")) (Some (method true [] nothing)) (None))) tt (either Gives (bytes_eq word (codes "setValid")) (Some (method true [] nothing)) (cond (bytes_eq word (codes "setInvalid")) (Some (method true [] nothing)) (None)) tt (either Gives (bytes_eq word (codes "setInvalid")) (Some (method true [] nothing)) (None) tt (tt)))
a_method (stack type size) word = either Gives (bytes_eq word (codes "push_front")) (Some (method true (literal_of (bits 32) ∷ []) nothing)) (cond (bytes_eq word (codes "pop_front")) (Some (method true (literal_of (bits 32) ∷ []) nothing)) (None)) tt (either Gives (bytes_eq word (codes "pop_front")) (Some (method true (literal_of (bits 32) ∷ []) nothing)) (None) tt (tt))
a_method (struct type) word = tt
a_method packet_in word = either Gives (bytes_eq word (codes "extract")) (Some (extern_at (parser_position ∷ []) (written_header ∷ []))) (None) tt (tt)
a_method packet_out word = either Gives (bytes_eq word (codes "emit")) (Some (extern_at (deparser_position ∷ []) (emitted ∷ []))) (None) tt (tt)
a_method errors word = tt
a_method (enumeration enum) word = tt
a_method (one_of enum) word = tt
a_method table word = either Gives (bytes_eq word (codes "apply")) (Some (method false [] applied)) (None) tt (tt)
a_method applied word = tt
a_method (object counter) word = either Gives (bytes_eq word (codes "count")) (Some (in_pipelines (index_place ∷ []))) (None) tt (tt)
a_method (object direct_counter) word = either Gives (bytes_eq word (codes "count")) (Some (counts_by_entry)) (None) tt (tt)
a_method (object register) word = either Gives (bytes_eq word (codes "read")) (Some (in_pipelines (written_bits ∷ index_place ∷ []))) (cond (bytes_eq word (codes "write")) (Some (in_pipelines (index_place ∷ any_bits ∷ []))) (None)) tt (either Gives (bytes_eq word (codes "write")) (Some (in_pipelines (index_place ∷ any_bits ∷ []))) (None) tt (tt))
a_method (object meter) word = either Gives (bytes_eq word (codes "execute_meter")) (Some (in_pipelines (index_place ∷ written_bits ∷ []))) (None) tt (tt)
a_method items word = tt
a_method nothing word = tt
a_method unknown word = tt

a_function_gives : (text : Name) → Gives (function_signature text)
a_function_gives text = either Gives (bytes_eq text (codes "mark_to_drop")) (Some (in_pipelines (written standard ∷ []))) (cond (bytes_eq text (codes "hash")) (Some (in_pipelines (written_bits ∷ member_place hash_algorithm ∷ any_bits ∷ item_list ∷ any_bits ∷ []))) (cond (bytes_eq text (codes "verify_checksum")) (Some (extern_at (verify_position ∷ []) (checksum_places any_bits))) (cond (bytes_eq text (codes "verify_checksum_with_payload")) (Some (extern_at (verify_position ∷ []) (checksum_places any_bits))) (cond (bytes_eq text (codes "update_checksum")) (Some (extern_at (compute_position ∷ []) (checksum_places written_bits))) (cond (bytes_eq text (codes "update_checksum_with_payload")) (Some (extern_at (compute_position ∷ []) (checksum_places written_bits))) (cond (bytes_eq text (codes "clone_preserving_field_list")) (Some (clone_signature)) (cond (bytes_eq text (codes "resubmit_preserving_field_list")) (Some (extern_at (ingress_position ∷ []) (list_number ∷ []))) (cond (bytes_eq text (codes "recirculate_preserving_field_list")) (Some (extern_at (egress_position ∷ []) (list_number ∷ []))) (None))))))))) tt (either Gives (bytes_eq text (codes "hash")) (Some (in_pipelines (written_bits ∷ member_place hash_algorithm ∷ any_bits ∷ item_list ∷ any_bits ∷ []))) (cond (bytes_eq text (codes "verify_checksum")) (Some (extern_at (verify_position ∷ []) (checksum_places any_bits))) (cond (bytes_eq text (codes "verify_checksum_with_payload")) (Some (extern_at (verify_position ∷ []) (checksum_places any_bits))) (cond (bytes_eq text (codes "update_checksum")) (Some (extern_at (compute_position ∷ []) (checksum_places written_bits))) (cond (bytes_eq text (codes "update_checksum_with_payload")) (Some (extern_at (compute_position ∷ []) (checksum_places written_bits))) (cond (bytes_eq text (codes "clone_preserving_field_list")) (Some (clone_signature)) (cond (bytes_eq text (codes "resubmit_preserving_field_list")) (Some (extern_at (ingress_position ∷ []) (list_number ∷ []))) (cond (bytes_eq text (codes "recirculate_preserving_field_list")) (Some (extern_at (egress_position ∷ []) (list_number ∷ []))) (None)))))))) tt (either Gives (bytes_eq text (codes "verify_checksum")) (Some (extern_at (verify_position ∷ []) (checksum_places any_bits))) (cond (bytes_eq text (codes "verify_checksum_with_payload")) (Some (extern_at (verify_position ∷ []) (checksum_places any_bits))) (cond (bytes_eq text (codes "update_checksum")) (Some (extern_at (compute_position ∷ []) (checksum_places written_bits))) (cond (bytes_eq text (codes "update_checksum_with_payload")) (Some (extern_at (compute_position ∷ []) (checksum_places written_bits))) (cond (bytes_eq text (codes "clone_preserving_field_list")) (Some (clone_signature)) (cond (bytes_eq text (codes "resubmit_preserving_field_list")) (Some (extern_at (ingress_position ∷ []) (list_number ∷ []))) (cond (bytes_eq text (codes "recirculate_preserving_field_list")) (Some (extern_at (egress_position ∷ []) (list_number ∷ []))) (None))))))) tt (either Gives (bytes_eq text (codes "verify_checksum_with_payload")) (Some (extern_at (verify_position ∷ []) (checksum_places any_bits))) (cond (bytes_eq text (codes "update_checksum")) (Some (extern_at (compute_position ∷ []) (checksum_places written_bits))) (cond (bytes_eq text (codes "update_checksum_with_payload")) (Some (extern_at (compute_position ∷ []) (checksum_places written_bits))) (cond (bytes_eq text (codes "clone_preserving_field_list")) (Some (clone_signature)) (cond (bytes_eq text (codes "resubmit_preserving_field_list")) (Some (extern_at (ingress_position ∷ []) (list_number ∷ []))) (cond (bytes_eq text (codes "recirculate_preserving_field_list")) (Some (extern_at (egress_position ∷ []) (list_number ∷ []))) (None)))))) tt (either Gives (bytes_eq text (codes "update_checksum")) (Some (extern_at (compute_position ∷ []) (checksum_places written_bits))) (cond (bytes_eq text (codes "update_checksum_with_payload")) (Some (extern_at (compute_position ∷ []) (checksum_places written_bits))) (cond (bytes_eq text (codes "clone_preserving_field_list")) (Some (clone_signature)) (cond (bytes_eq text (codes "resubmit_preserving_field_list")) (Some (extern_at (ingress_position ∷ []) (list_number ∷ []))) (cond (bytes_eq text (codes "recirculate_preserving_field_list")) (Some (extern_at (egress_position ∷ []) (list_number ∷ []))) (None))))) tt (either Gives (bytes_eq text (codes "update_checksum_with_payload")) (Some (extern_at (compute_position ∷ []) (checksum_places written_bits))) (cond (bytes_eq text (codes "clone_preserving_field_list")) (Some (clone_signature)) (cond (bytes_eq text (codes "resubmit_preserving_field_list")) (Some (extern_at (ingress_position ∷ []) (list_number ∷ []))) (cond (bytes_eq text (codes "recirculate_preserving_field_list")) (Some (extern_at (egress_position ∷ []) (list_number ∷ []))) (None)))) tt (either Gives (bytes_eq text (codes "clone_preserving_field_list")) (Some (clone_signature)) (cond (bytes_eq text (codes "resubmit_preserving_field_list")) (Some (extern_at (ingress_position ∷ []) (list_number ∷ []))) (cond (bytes_eq text (codes "recirculate_preserving_field_list")) (Some (extern_at (egress_position ∷ []) (list_number ∷ []))) (None))) tt (either Gives (bytes_eq text (codes "resubmit_preserving_field_list")) (Some (extern_at (ingress_position ∷ []) (list_number ∷ []))) (cond (bytes_eq text (codes "recirculate_preserving_field_list")) (Some (extern_at (egress_position ∷ []) (list_number ∷ []))) (None)) tt (either Gives (bytes_eq text (codes "recirculate_preserving_field_list")) (Some (extern_at (egress_position ∷ []) (list_number ∷ []))) (None) tt (tt)))))))))

by_sort : (x : Sort) (text : Name) → Gives (sort_signature x text)
by_sort (a_type k) text = tt
by_sort (a_value k can) text = tt
by_sort (an_enumeration enum) text = tt
by_sort a_function text = a_function_gives text
by_sort (an_object obj) text = tt
by_sort (an_action plane hs) text = tt
by_sort (a_table actions counters) text = tt
by_sort a_state text = tt
by_sort a_block text = tt
by_sort undeclared text = tt

-- of members

abbrev MembersOther : List Layout → Type 0
MembersOther layouts = (type word : Name) → IsNoTable (known_kind (field_kind_in (fields_in layouts type) word))

of_one : (t : Bool) (k : Kind) → IsNoTable k → IsNoTable (known_kind (cond t (Some k) None))
of_one true k h = h
of_one false k h = tt

behind : (layouts : List Layout) → MembersOther layouts → (k : Kind) (word : Name) → IsNoTable (known_kind (member_kind layouts k word))
behind layouts members (bits width) word = tt
behind layouts members unsized word = tt
behind layouts members boolean word = tt
behind layouts members error_code word = tt
behind layouts members (header type) word = members type word
behind layouts members (stack type size) word = of_one (has_name (codes "next" ∷ codes "last" ∷ []) word) (header type) tt
behind layouts members (struct type) word = members type word
behind layouts members packet_in word = tt
behind layouts members packet_out word = tt
behind layouts members errors word = of_one (has_name error_names word) error_code tt
behind layouts members (enumeration enum) word = of_one (has_name (members_of enum) word) (one_of enum) tt
behind layouts members (one_of enum) word = tt
behind layouts members table word = tt
behind layouts members applied word = of_one (has_name (codes "hit" ∷ codes "miss" ∷ []) word) boolean tt
behind layouts members (object obj) word = tt
behind layouts members items word = tt
behind layouts members nothing word = tt
behind layouts members unknown word = tt

module _ (s : Scope) (members : MembersOther s.layouts) where
  -- this expression is no table
  no_name : (e : Exp16) → IsNoTable (kind_of s e) → kind_of s e ≡ table → (text : Name) × (e ≡ name text)
  no_name e h is = absurd (subst IsNoTable is h)

  pub tables_named : TablesNamed s
  tables_named (name text) told is = (text, refl)
  tables_named (literal n) told is = no_name (literal n) (a_number n.width) is
  tables_named (truth holds) told is = no_name (truth holds) tt is
  tables_named error told is = no_name error tt is
  tables_named (member e word) told is = no_name (member e word) (behind s.layouts members (kind_of s e) word) is
  tables_named (index e at) told is = no_name (index e at) (an_element (kind_of s e)) is
  tables_named (slice e high low) told is = no_name (slice e high low) (a_slice (kind_of s e) high low) is
  tables_named (call (literal n) more) told is = no_name (call (literal n) more) tt is
  tables_named (call (truth holds) more) told is = no_name (call (truth holds) more) tt is
  tables_named (call error more) told is = no_name (call error more) tt is
  tables_named (call (name text) more) told is = no_name (call (name text) more) (by_sort (sort_of s text) text) is
  tables_named (call (member e word) more) told is = no_name (call (member e word) more) (a_method (kind_of s e) word) is
  tables_named (call (index e at) more) told is = no_name (call (index e at) more) tt is
  tables_named (call (slice e high low) more) told is = no_name (call (slice e high low) more) tt is
  tables_named (call (call g others) more) told is = no_name (call (call g others) more) tt is
  tables_named (call (lookahead e to others) more) told is = no_name (call (lookahead e to others) more) tt is
  tables_named (call (cast to e) more) told is = no_name (call (cast to e) more) tt is
  tables_named (call (unary operator e) more) told is = no_name (call (unary operator e) more) tt is
  tables_named (call (binary operator a b) more) told is = no_name (call (binary operator a b) more) tt is
  tables_named (call (choice d a b) more) told is = no_name (call (choice d a b) more) tt is
  tables_named (call (parenthesized e) more) told is = no_name (call (parenthesized e) more) tt is
  tables_named (call no_arguments more) told is = no_name (call no_arguments more) tt is
  tables_named (call (argument former last) more) told is = no_name (call (argument former last) more) tt is
  tables_named (call (listed es) more) told is = no_name (call (listed es) more) tt is
  tables_named (lookahead e to more) told is = absurd told
  tables_named (cast to e) told is = no_name (cast to e) (a_cast to) is
  tables_named (unary operator e) told is = no_name (unary operator e) (by_unary operator (kind_of s e)) is
  tables_named (binary operator a b) told is = no_name (binary operator a b) (by_binary operator (kind_of s a) (kind_of s b)) is
  tables_named (choice d a b) told is = no_name (choice d a b) (chosen (kind_of s a) (kind_of s b)) is
  tables_named (parenthesized e) told is = no_name (parenthesized e) tt is
  tables_named no_arguments told is = no_name no_arguments tt is
  tables_named (argument former last) told is = no_name (argument former last) tt is
  tables_named (listed es) told is = no_name (listed es) tt is

-- the types of a program

abbrev TypeOther : Known → Type 0
TypeOther k = IsNoTable (type_sort k.sort)

abbrev AllOther : List Known → Type 0
AllOther [] = Unit {0}
AllOther (k ∷ ks) = TypeOther k × AllOther ks

other_found : (ks : List Known) → AllOther ks → (text : Name) → IsNoTable (type_sort (sort_in ks text))
other_found [] h text = tt
other_found (k ∷ ks) h text = either (λ (x : Sort). IsNoTable (type_sort x)) (bytes_eq k.called text) k.sort (sort_in ks text) h.0 (other_found ks h.1 text)

instance_other : (i : Instance) → IsNoTable (type_sort (instance_sort i))
instance_other (instance.Counter size m called) = tt
instance_other (instance.DirectCounter m called) = tt
instance_other (instance.Register width size called) = tt
instance_other (instance.Meter size m called) = tt

tops_other : (ds : List Decl16) → AllOther (map top_name ds ++ built_in)
tops_other [] = (tt, (tt, (tt, (tt, (tt, (tt, (tt, (tt, (tt, (tt, (tt, (tt, (tt, (tt, (tt, (tt, tt))))))))))))))))
tops_other (decl.Header h ∷ ds) = (tt, tops_other ds)
tops_other (decl.Struct h ∷ ds) = (tt, tops_other ds)
tops_other (decl.Instance notes i ∷ ds) = (instance_other i, tops_other ds)
tops_other (decl.Parser p ∷ ds) = (tt, tops_other ds)
tops_other (decl.Control c ∷ ds) = (tt, tops_other ds)

stack_other : (size : ℕ) (k : Kind) → IsNoTable (stack_kind size k)
stack_other size (bits width) = tt
stack_other size unsized = tt
stack_other size boolean = tt
stack_other size error_code = tt
stack_other size (header type) = tt
stack_other size (stack type extent) = tt
stack_other size (struct type) = tt
stack_other size packet_in = tt
stack_other size packet_out = tt
stack_other size errors = tt
stack_other size (enumeration enum) = tt
stack_other size (one_of enum) = tt
stack_other size table = tt
stack_other size applied = tt
stack_other size (object obj) = tt
stack_other size items = tt
stack_other size nothing = tt
stack_other size unknown = tt

type_other : (names : List Known) → ((text : Name) → IsNoTable (type_sort (sort_in names text))) → (t : Type16) → IsNoTable (kind_of_type names t)
type_other names all (type16.Bit w) = tt
type_other names all type16.Bool = tt
type_other names all (type16.Named text None) = all text
type_other names all (type16.Named text (Some size)) = stack_other size.value (type_sort (sort_in names text))

-- their members

abbrev FieldsOther : List FieldKind → Type 0
FieldsOther [] = Unit {0}
FieldsOther (f ∷ fields) = IsNoTable f.kind × FieldsOther fields

abbrev LayoutsOther : List Layout → Type 0
LayoutsOther [] = Unit {0}
LayoutsOther (l ∷ layouts) = FieldsOther l.fields × LayoutsOther layouts

field_other : (fields : List FieldKind) (word : Name) → FieldsOther fields → IsNoTable (known_kind (field_kind_in fields word))
field_other [] word h = tt
field_other (f ∷ fields) word h = either (λ (o : Option Kind). IsNoTable (known_kind o)) (bytes_eq f.called word) (Some f.kind) (field_kind_in fields word) h.0 (field_other fields word h.1)

fields_other : (layouts : List Layout) (type : Name) → LayoutsOther layouts → FieldsOther (fields_in layouts type)
fields_other [] type h = tt
fields_other (l ∷ layouts) type h = either FieldsOther (bytes_eq l.called type) l.fields (fields_in layouts type) h.0 (fields_other layouts type h.1)

header_fields : (fields : List BitField) → FieldsOther (map bit_field fields)
header_fields [] = tt
header_fields (f ∷ fields) = (tt, header_fields fields)

module _ (names : List Known) (all : (text : Name) → IsNoTable (type_sort (sort_in names text))) where
  struct_fields : (fields : List StructField) → FieldsOther (map (struct_field names) fields)
  struct_fields [] = tt
  struct_fields (f ∷ fields) = (type_other names all f.of, struct_fields fields)

  all_layouts : (last : List Layout) → LayoutsOther last → (ds : List Decl16) → LayoutsOther (flat_map (layout_in names) ds ++ last)
  all_layouts last h [] = h
  all_layouts last h (decl.Header x ∷ ds) = (header_fields x.fields, all_layouts last h ds)
  all_layouts last h (decl.Struct x ∷ ds) = (struct_fields x.fields, all_layouts last h ds)
  all_layouts last h (decl.Instance notes i ∷ ds) = all_layouts last h ds
  all_layouts last h (decl.Parser p ∷ ds) = all_layouts last h ds
  all_layouts last h (decl.Control c ∷ ds) = all_layouts last h ds

members_other : (ds : List Decl16) → MembersOther (layouts_of ds)
members_other ds type word = field_other (fields_in (layouts_of ds) type) word (fields_other (layouts_of ds) type (all_layouts (top_names ds) (other_found (top_names ds) (tops_other ds)) (standard_layout ∷ []) ((tt, (tt, (tt, (tt, (tt, (tt, (tt, tt))))))), tt) ds))

pub tables_named_so : (ds : List Decl16) (s : Scope) → s.layouts ≡ layouts_of ds → TablesNamed s
tables_named_so ds s is = tables_named s (subst MembersOther (sym is) (members_other ds))
