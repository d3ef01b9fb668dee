-- Names that stand at the same seats make the same ready statements.
use Rattle.std.proofs.Common.{◌≡◌, ℕ, suc, Bool, true, false, cond, ◌||◌, codes, Option, Some, None, option_map, List, [], ◌∷◌, refl, ap, bytes_eq}
use Rattle.std.specs.Prelude.{option_and_then}
use Rattle.fabric.specs.declared.items.RequestKind.TheVariants.{CloneI2E, CloneE2E, Resubmit, Recirculate}
use Rattle.p416_syntax.specs.declared.parts.Param.{Param}
use Rattle.p416_syntax.specs.declared.node.CaseLabel.TheVariants as label
use Rattle.p416_syntax.specs.Tree.{Exp16, literal, truth, error, name, member, index, slice, call, lookahead, cast, unary, binary, choice, parenthesized, no_arguments, argument, listed, Stmt16, no_statements, then, block, empty, var, var_is, assign, expression, if_then, if_else, switch, no_cases, case_of}
use Rattle.p416_syntax.specs.Names.{Name}
use Rattle.p416_syntax.specs.Kinds.{ObjectKind, counter, direct_counter, register, meter, Kind, bits, unsized, boolean, error_code, header, stack, struct, packet_in, packet_out, errors, enumeration, one_of, table, applied, object, items, nothing, unknown}
use Rattle.p416_syntax.specs.Scopes.{Sort, a_type, a_value, an_enumeration, a_function, an_object, an_action, a_table, a_state, a_block, undeclared, Scope, sort_of, kind_of_type}
use Rattle.p416_syntax.specs.Calls.{Place, value, any_bits, owner, a_stack, index_place}
use Rattle.p416_syntax.specs.Expressions.{kind_of}
use Rattle.p416_syntax.specs.Uses.{unary_place, left_place, right_place, cast_place, chosen_place, arguments_of}
use Rattle.p416_syntax.specs.Statements.{behind, assigned_place}
use Rattle.v1_core.specs.Values.{to_member, to_element}
use Rattle.v1_core.specs.Expressions.{slice_of}
use Rattle.v1_core.specs.Seats.{Form, slot_form, header_form, stack_form, struct_form, no_form, Seat}
use Rattle.v1_core.specs.Ready as ready
use Rattle.v1_ready_forms.specs.Named.{NamedSeat, seat_of_name}
use Rattle.v1_ready_forms.specs.Ways.{Way, its_value, its_validity, through_element}
use Rattle.v1_ready_forms.specs.Spots.{spot_with, spot_behind, ready_behind, way_ready}
use Rattle.v1_ready_forms.specs.Expressions as forms
use Rattle.v1_ready_forms.specs.Expressions.{member_ready, method_ready, slice_ready, cast_ready, binary_ready, asked_ready}
use Rattle.v1_ready_blocks.specs.declared.places.Target.{Target}
use Rattle.v1_ready_blocks.specs.declared.places.Range.{Range}
use Rattle.v1_ready_blocks.specs.declared.externs.Extern.TheVariants as extern
use Rattle.v1_ready_blocks.specs.declared.nodes.Single.TheVariants as single
use Rattle.v1_ready_blocks.specs.Tests.{plain, alone, choice as test_choice, parts}
use Rattle.v1_ready_blocks.specs.Arguments.{a_value as a_value_given, an_item, value_in, parts_in, value_out, parts_out}
use Rattle.v1_ready_blocks.specs.Statements.{nothing as ready_nothing, set_valid, push_front, pop_front, extract_header, emit_headers, let_go, Statement, sequence, does, call as call_action}
use Rattle.v1_place_laws.specs.Places.{Meant, meant, member_meant, slice_meant, behind_meant, meant_by, slot_place_of, range_of}
use Rattle.v1_ready_statements.specs.Around.{Around, Found, action_found, table_found, object_found, standard_slot, variable_seat, declared_seat}
use Rattle.v1_ready_statements.specs.Targets.{target_of, fixed_range, target_given, parts_meant, range_given}
use Rattle.v1_ready_statements.specs.Tested.{is_application, applies, with_two, with_three, only_value, applied_test, slice_test, cast_test, binary_test, part_test, member_test, method_test, by_application, asked_test, range_behind, way_range, with_chosen, member_source, asked_source}
use Rattle.v1_ready_statements.specs.Given.{cons_option, join_option, value_given, items_given, list_given, given_at, any_applies, is_back, is_out, incoming_at, outgoing_at, incoming_of, outgoing_of, all_incoming, all_outgoing}
use Rattle.v1_ready_statements.specs.Called.{with_both, action_call, executes, algorithm_given, with_algorithm, with_slot, member_word, number_given, dropping_slot, verified, updated, hashes, clones, function_deed, with_target, register_deed, only_called, object_deed, header_deed, stack_deed, method_deed, named_statement, call_ready, expression_ready}
use Rattle.v1_ready_statements.specs.Statements.{assigns, assigns_parts, assigned_to, assignment_ready, whole_seat, initial_ready, number_behind, seats_behind, both_ready, branch_ready, switch_ready, labelled_ready, has_default, itself, labelled_ones, the_default, default_ready, ready_in, ready_of_statement}

-- all names stand at the same seats
abbrev pub Alike : List NamedSeat → List NamedSeat → Type 0
Alike a c = (text : Name) → seat_of_name a text ≡ seat_of_name c text

module _ (a c : List NamedSeat) (alike : Alike a c) (s : Scope) where
  asked_same : (e : Exp16) (p : Place) (way : Way) → asked_ready s a p way e ≡ asked_ready s c p way e
  asked_same (literal n) p way = refl
  asked_same (truth holds) p way = refl
  asked_same error p way = refl
  asked_same (name text) p way = ap (λ (o : Option Seat). ready_behind (way_ready s.layouts way) (spot_with None o)) (alike text)
  asked_same (member e word) p way = λ i. member_ready (kind_of s e) e word way (λ further. asked_same e owner further i)
  asked_same (index e at) p way = asked_same e a_stack (through_element at.value way)
  asked_same (slice e high low) p way = λ i. forms.alone way (option_map (slice_ready high low) (asked_same e any_bits its_value i))
  asked_same (call (literal n) others) p way = refl
  asked_same (call (truth holds) others) p way = refl
  asked_same (call error others) p way = refl
  asked_same (call (name text) others) p way = refl
  asked_same (call (member e word) more) p way = λ i. method_ready (kind_of s e) way (λ further. asked_same e owner further i)
  asked_same (call (index e at) others) p way = refl
  asked_same (call (slice e high low) others) p way = refl
  asked_same (call (call g more) others) p way = refl
  asked_same (call (lookahead e to more) others) p way = refl
  asked_same (call (cast to e) others) p way = refl
  asked_same (call (unary operator e) others) p way = refl
  asked_same (call (binary operator d f) others) p way = refl
  asked_same (call (choice d f g) others) p way = refl
  asked_same (call (parenthesized e) others) p way = refl
  asked_same (call no_arguments others) p way = refl
  asked_same (call (argument before last) others) p way = refl
  asked_same (call (listed es) others) p way = refl
  asked_same (lookahead e to more) p way = refl
  asked_same (cast to e) p way = λ i. forms.alone way (option_map (cast_ready to) (asked_same e (cast_place to) its_value i))
  asked_same (unary operator e) p way = λ i. forms.alone way (option_map (ready.unary operator) (asked_same e (unary_place p operator (kind_of s e)) its_value i))
  asked_same (binary operator d f) p way = λ i. forms.alone way (forms.with_two (binary_ready operator) (asked_same d (left_place p operator (kind_of s d) (kind_of s f)) its_value i) (asked_same f (right_place p operator (kind_of s d) (kind_of s f)) its_value i))
  asked_same (choice d f g) p way = λ i. forms.with_three ready.choice (asked_same d (value boolean) its_value i) (asked_same f (chosen_place p (kind_of s f) (kind_of s g)) way i) (asked_same g (chosen_place p (kind_of s f) (kind_of s g)) way i)
  asked_same (parenthesized e) p way = refl
  asked_same no_arguments p way = refl
  asked_same (argument before last) p way = refl
  asked_same (listed es) p way = refl

  meant_same : (e : Exp16) → meant_by s a e ≡ meant_by s c e
  meant_same (literal n) = refl
  meant_same (truth holds) = refl
  meant_same error = refl
  meant_same (name text) = ap (λ (o : Option Seat). meant None (spot_with None o)) (alike text)
  meant_same (member e word) = λ i. member_meant s.layouts (kind_of s e) word (meant_same e i)
  meant_same (index e at) = λ i. behind_meant (spot_behind s.layouts (to_element at.value)) (meant_same e i)
  meant_same (slice e high low) = λ i. slice_meant (slice_of high low) (meant_same e i)
  meant_same (call g more) = refl
  meant_same (lookahead e to more) = refl
  meant_same (cast to e) = refl
  meant_same (unary operator e) = refl
  meant_same (binary operator d f) = refl
  meant_same (choice d f g) = refl
  meant_same (parenthesized e) = refl
  meant_same no_arguments = refl
  meant_same (argument before last) = refl
  meant_same (listed es) = refl

  target_same : (e : Exp16) → target_given s a e ≡ target_given s c e
  target_same e = λ i. option_and_then target_of (meant_same e i)

  range_same : (e : Exp16) → range_given s a e ≡ range_given s c e
  range_same e = λ i. option_and_then (parts_meant s.layouts) (meant_same e i)

  module _ (tables : Name → Option ℕ) where
    test_same : (e : Exp16) (p : Place) (way : Way) → asked_test s a tables p way e ≡ asked_test s c tables p way e
    test_same (literal n) p way = λ i. option_map plain (asked_same (literal n) p way i)
    test_same (truth holds) p way = λ i. option_map plain (asked_same (truth holds) p way i)
    test_same error p way = λ i. option_map plain (asked_same error p way i)
    test_same (name text) p way = λ i. option_map plain (asked_same (name text) p way i)
    test_same (member e word) p way = λ i.
        by_application (applies s e) (asked_same (member e word) p way i) (member_test (is_application s e) (only_value way (applied_test tables e word)) (part_test (kind_of s e) word way (λ further. test_same e owner further i)))
    test_same (index e at) p way = λ i. by_application (applies s e) (asked_same (index e at) p way i) (test_same e a_stack (through_element at.value way) i)
    test_same (slice e high low) p way = λ i. by_application (applies s e) (asked_same (slice e high low) p way i) (only_value way (option_map (slice_test high low) (test_same e any_bits its_value i)))
    test_same (call (literal n) others) p way = λ i. option_map plain (asked_same (call (literal n) others) p way i)
    test_same (call (truth holds) others) p way = λ i. option_map plain (asked_same (call (truth holds) others) p way i)
    test_same (call error others) p way = λ i. option_map plain (asked_same (call error others) p way i)
    test_same (call (name text) others) p way = λ i. option_map plain (asked_same (call (name text) others) p way i)
    test_same (call (member e word) more) p way = λ i. by_application (applies s e) (asked_same (call (member e word) more) p way i) (method_test (kind_of s e) way (λ further. test_same e owner further i))
    test_same (call (index e at) others) p way = λ i. option_map plain (asked_same (call (index e at) others) p way i)
    test_same (call (slice e high low) others) p way = λ i. option_map plain (asked_same (call (slice e high low) others) p way i)
    test_same (call (call g more) others) p way = λ i. option_map plain (asked_same (call (call g more) others) p way i)
    test_same (call (lookahead e to more) others) p way = λ i. option_map plain (asked_same (call (lookahead e to more) others) p way i)
    test_same (call (cast to e) others) p way = λ i. option_map plain (asked_same (call (cast to e) others) p way i)
    test_same (call (unary operator e) others) p way = λ i. option_map plain (asked_same (call (unary operator e) others) p way i)
    test_same (call (binary operator d f) others) p way = λ i. option_map plain (asked_same (call (binary operator d f) others) p way i)
    test_same (call (choice d f g) others) p way = λ i. option_map plain (asked_same (call (choice d f g) others) p way i)
    test_same (call (parenthesized e) others) p way = λ i. option_map plain (asked_same (call (parenthesized e) others) p way i)
    test_same (call no_arguments others) p way = λ i. option_map plain (asked_same (call no_arguments others) p way i)
    test_same (call (argument before last) others) p way = λ i. option_map plain (asked_same (call (argument before last) others) p way i)
    test_same (call (listed es) others) p way = λ i. option_map plain (asked_same (call (listed es) others) p way i)
    test_same (lookahead e to more) p way = λ i. option_map plain (asked_same (lookahead e to more) p way i)
    test_same (cast to e) p way = λ i. by_application (applies s e) (asked_same (cast to e) p way i) (only_value way (option_map (cast_test to) (test_same e (cast_place to) its_value i)))
    test_same (unary operator e) p way = λ i. by_application (applies s e) (asked_same (unary operator e) p way i) (only_value way (option_map (alone (single.Operator operator)) (test_same e (unary_place p operator (kind_of s e)) its_value i)))
    test_same (binary operator d f) p way = λ i. by_application (applies s d || applies s f) (asked_same (binary operator d f) p way i) (only_value way (with_two (binary_test operator) (test_same d (left_place p operator (kind_of s d) (kind_of s f)) its_value i) (test_same f (right_place p operator (kind_of s d) (kind_of s f)) its_value i)))
    test_same (choice d f g) p way = λ i. by_application (applies s d || applies s f || applies s g) (asked_same (choice d f g) p way i) (with_three test_choice (test_same d (value boolean) its_value i) (test_same f (chosen_place p (kind_of s f) (kind_of s g)) way i) (test_same g (chosen_place p (kind_of s f) (kind_of s g)) way i))
    test_same (parenthesized e) p way = λ i. option_map plain (asked_same (parenthesized e) p way i)
    test_same no_arguments p way = λ i. option_map plain (asked_same no_arguments p way i)
    test_same (argument before last) p way = λ i. option_map plain (asked_same (argument before last) p way i)
    test_same (listed es) p way = λ i. option_map plain (asked_same (listed es) p way i)

    source_same : (e : Exp16) (way : Way) → asked_source s a tables way e ≡ asked_source s c tables way e
    source_same (literal n) way = refl
    source_same (truth holds) way = refl
    source_same error way = refl
    source_same (name text) way = ap (λ (o : Option Seat). option_map parts (range_behind (way_range s.layouts way) (spot_with None o))) (alike text)
    source_same (member e word) way = λ i. member_source (kind_of s e) word way (λ further. source_same e further i)
    source_same (index e at) way = source_same e (through_element at.value way)
    source_same (slice e high low) way = refl
    source_same (call g more) way = refl
    source_same (lookahead e to more) way = refl
    source_same (cast to e) way = refl
    source_same (unary operator e) way = refl
    source_same (binary operator d f) way = refl
    source_same (choice d f g) way = λ i. with_chosen (test_same d (value boolean) its_value i) (source_same f way i) (source_same g way i)
    source_same (parenthesized e) way = refl
    source_same no_arguments way = refl
    source_same (argument before last) way = refl
    source_same (listed es) way = refl

  module _ (b : Around) where
    given_same : (p : Place) (e : Exp16) → value_given b s a p e ≡ value_given b s c p e
    given_same p e = λ i. option_map (λ t. a_value_given t ∷ []) (test_same (table_found b) e p its_value i)

    items_same : (e : Exp16) → items_given b s a e ≡ items_given b s c e
    items_same (literal n) = refl
    items_same (truth holds) = refl
    items_same error = refl
    items_same (name text) = refl
    items_same (member e word) = refl
    items_same (index e at) = refl
    items_same (slice e high low) = refl
    items_same (call g more) = refl
    items_same (lookahead e to more) = refl
    items_same (cast to e) = refl
    items_same (unary operator e) = refl
    items_same (binary operator d f) = refl
    items_same (choice d f g) = refl
    items_same (parenthesized e) = refl
    items_same no_arguments = refl
    items_same (argument before last) = λ i. join_option (items_same before i) (option_map (λ t. an_item t ∷ []) (test_same (table_found b) last any_bits its_value i))
    items_same (listed es) = refl

    list_same : (e : Exp16) → list_given b s a e ≡ list_given b s c e
    list_same (literal n) = refl
    list_same (truth holds) = refl
    list_same error = refl
    list_same (name text) = refl
    list_same (member e word) = refl
    list_same (index e at) = refl
    list_same (slice e high low) = refl
    list_same (call g more) = refl
    list_same (lookahead e to more) = refl
    list_same (cast to e) = refl
    list_same (unary operator e) = refl
    list_same (binary operator d f) = refl
    list_same (choice d f g) = refl
    list_same (parenthesized e) = refl
    list_same no_arguments = refl
    list_same (argument before last) = refl
    list_same (listed es) = items_same es

    -- parameters of actions

    form_in : (k : Kind) (f : Form) (t : Seat) (e : Exp16) → incoming_at b s a k false (record { depth = t.depth; form = f; start = t.start; owner = t.owner }) e ≡ incoming_at b s c k false (record { depth = t.depth; form = f; start = t.start; owner = t.owner }) e
    form_in k (slot_form content) t e = λ i. option_map (value_in t.start.slot) (test_same (table_found b) e (value k) its_value i)
    form_in k (header_form type) t e = λ i. option_map (parts_in (range_of s.layouts (record { depth = t.depth; form = (header_form type); start = t.start; owner = t.owner }))) (source_same (table_found b) e its_value i)
    form_in k (stack_form type many) t e = λ i. option_map (parts_in (range_of s.layouts (record { depth = t.depth; form = (stack_form type many); start = t.start; owner = t.owner }))) (source_same (table_found b) e its_value i)
    form_in k (struct_form type) t e = λ i. option_map (parts_in (range_of s.layouts (record { depth = t.depth; form = (struct_form type); start = t.start; owner = t.owner }))) (source_same (table_found b) e its_value i)
    form_in k no_form t e = refl

    in_same : (k : Kind) (out : Bool) (t : Seat) (e : Exp16) → incoming_at b s a k out t e ≡ incoming_at b s c k out t e
    in_same k true t e = refl
    in_same k false t e = form_in k t.form t e

    form_out : (f : Form) (t : Seat) (e : Exp16) → outgoing_at s a true (record { depth = t.depth; form = f; start = t.start; owner = t.owner }) e ≡ outgoing_at s c true (record { depth = t.depth; form = f; start = t.start; owner = t.owner }) e
    form_out (slot_form content) t e = λ i. option_map (λ to. value_out t.start.slot to ∷ []) (target_same e i)
    form_out (header_form type) t e = λ i. option_map (λ to. parts_out (range_of s.layouts (record { depth = t.depth; form = (header_form type); start = t.start; owner = t.owner })) to ∷ []) (option_and_then fixed_range (range_same e i))
    form_out (stack_form type many) t e = λ i. option_map (λ to. parts_out (range_of s.layouts (record { depth = t.depth; form = (stack_form type many); start = t.start; owner = t.owner })) to ∷ []) (option_and_then fixed_range (range_same e i))
    form_out (struct_form type) t e = λ i. option_map (λ to. parts_out (range_of s.layouts (record { depth = t.depth; form = (struct_form type); start = t.start; owner = t.owner })) to ∷ []) (option_and_then fixed_range (range_same e i))
    form_out no_form t e = refl

    out_same : (back : Bool) (t : Seat) (e : Exp16) → outgoing_at s a back t e ≡ outgoing_at s c back t e
    out_same false t e = refl
    out_same true t e = form_out t.form t e

    one_in : (n : ℕ) (p : Param) (e : Exp16) → incoming_of b s a n p e ≡ incoming_of b s c n p e
    one_in n p e = λ i. option_and_then (λ t. in_same (kind_of_type s.names p.of) (is_out p.direction) t e i) (variable_seat b n)

    one_out : (n : ℕ) (p : Param) (e : Exp16) → outgoing_of b s a n p e ≡ outgoing_of b s c n p e
    one_out n p e = λ i. option_and_then (λ t. out_same (is_back p.direction) t e i) (variable_seat b n)

    all_in : (n : ℕ) (parameters : List Param) (es : List Exp16) → all_incoming b s a n parameters es ≡ all_incoming b s c n parameters es
    all_in n [] [] = refl
    all_in n [] (e ∷ es) = refl
    all_in n (p ∷ parameters) [] = refl
    all_in n (p ∷ parameters) (e ∷ es) = λ i. cons_option (one_in n p e i) (all_in (suc n) parameters es i)

    all_out : (n : ℕ) (parameters : List Param) (es : List Exp16) → all_outgoing b s a n parameters es ≡ all_outgoing b s c n parameters es
    all_out n [] [] = refl
    all_out n [] (e ∷ es) = refl
    all_out n (p ∷ parameters) [] = refl
    all_out n (p ∷ parameters) (e ∷ es) = λ i. join_option (one_out n p e i) (all_out (suc n) parameters es i)

    action_same : (es : List Exp16) (f : Found) → action_call b s a es f ≡ action_call b s c es f
    action_same es f = λ i. with_both (call_action f.number (any_applies s es)) (all_in f.place.first f.place.of.parameters es i) (all_out f.place.first f.place.of.parameters es i)

    -- externs and methods

    drop_same : (e : Exp16) → dropping_slot s a e ≡ dropping_slot s c e
    drop_same e = λ i. option_map (λ (t : Target). t.slot) (option_and_then target_of (behind_meant (spot_behind s.layouts (to_member (codes "egress_spec"))) (meant_same e i)))

    verified_same : (payload : Bool) (es : List Exp16) → verified b s a payload es ≡ verified b s c payload es
    verified_same payload es = λ i.
        executes (with_slot (λ algorithm slot. extern.Verify algorithm payload slot) (algorithm_given (given_at es 3)) (standard_slot b (codes "checksum_error")))
        (join_option (given_same (value boolean) (given_at es 0) i) (join_option (list_same (given_at es 1) i) (given_same any_bits (given_at es 2) i)))

    updated_same : (payload : Bool) (es : List Exp16) → updated b s a payload es ≡ updated b s c payload es
    updated_same payload es = λ i.
        executes (with_algorithm (λ algorithm to. extern.Update algorithm payload to) (algorithm_given (given_at es 3)) (target_same (given_at es 2) i))
        (join_option (given_same (value boolean) (given_at es 0) i) (list_same (given_at es 1) i))

    hashes_same : (es : List Exp16) → hashes b s a es ≡ hashes b s c es
    hashes_same es = λ i.
        executes (with_algorithm (λ algorithm to. extern.Hash algorithm to) (algorithm_given (given_at es 1)) (target_same (given_at es 0) i))
        (join_option (given_same any_bits (given_at es 2) i) (join_option (list_same (given_at es 3) i) (given_same any_bits (given_at es 4) i)))

    clones_same : (es : List Exp16) → clones b s a es ≡ clones b s c es
    clones_same es = λ i.
        executes (Some (extern.Clone (cond (bytes_eq (member_word (given_at es 0)) (codes "I2E")) CloneI2E CloneE2E) (number_given (given_at es 2)))) (given_same index_place (given_at es 1) i)

    function_same : (text : Name) (es : List Exp16) → function_deed b s a text es ≡ function_deed b s c text es
    function_same text es = λ i.
        cond (bytes_eq text (codes "mark_to_drop")) (executes (option_map (λ slot. extern.MarkToDrop slot) (drop_same (given_at es 0) i)) (Some []))
        (cond (bytes_eq text (codes "hash")) (hashes_same es i)
        (cond (bytes_eq text (codes "verify_checksum")) (verified_same false es i)
        (cond (bytes_eq text (codes "verify_checksum_with_payload")) (verified_same true es i)
        (cond (bytes_eq text (codes "update_checksum")) (updated_same false es i)
        (cond (bytes_eq text (codes "update_checksum_with_payload")) (updated_same true es i)
        (cond (bytes_eq text (codes "clone_preserving_field_list")) (clones_same es i)
        (cond (bytes_eq text (codes "resubmit_preserving_field_list")) (executes (Some (extern.Request Resubmit (number_given (given_at es 0)))) (Some []))
        (cond (bytes_eq text (codes "recirculate_preserving_field_list")) (executes (Some (extern.Request Recirculate (number_given (given_at es 0)))) (Some [])) None))))))))

    register_same : (word : Name) (number : ℕ) (es : List Exp16) → register_deed b s a word number es ≡ register_deed b s c word number es
    register_same word number es = λ i.
        cond (bytes_eq word (codes "read")) (executes (with_target (λ to. extern.Read number to) (target_same (given_at es 0) i)) (given_same index_place (given_at es 1) i))
        (cond (bytes_eq word (codes "write")) (executes (Some (extern.Write number)) (join_option (given_same index_place (given_at es 0) i) (given_same any_bits (given_at es 1) i))) None)

    object_same : (k : ObjectKind) (word : Name) (number : ℕ) (es : List Exp16) → object_deed b s a k word number es ≡ object_deed b s c k word number es
    object_same counter word number es = λ i. only_called (codes "count") word (executes (option_map (λ length. extern.Count number length) (standard_slot b (codes "packet_length"))) (given_same index_place (given_at es 0) i))
    object_same direct_counter word number es = refl
    object_same register word number es = register_same word number es
    object_same meter word number es = λ i. only_called (codes "execute_meter") word (executes (with_target (λ to. extern.ExecuteMeter number to) (target_same (given_at es 1) i)) (given_same index_place (given_at es 0) i))

    header_same : (e : Exp16) (word : Name) → header_deed b s a e word ≡ header_deed b s c e word
    header_same e word = λ i.
        cond (bytes_eq word (codes "setValid")) (option_map (λ r. set_valid r true) (range_same e i))
        (cond (bytes_eq word (codes "setInvalid")) (option_map (λ r. set_valid r false) (range_same e i))
        (cond (bytes_eq word (codes "isValid")) (option_map let_go (test_same (table_found b) e owner its_validity i)) None))

    stack_same : (e : Exp16) (word : Name) (es : List Exp16) → stack_deed s a e word es ≡ stack_deed s c e word es
    stack_same e word es = λ i.
        option_and_then (λ (r : Range). cond (bytes_eq word (codes "push_front")) (Some (push_front r (number_given (given_at es 0)))) (cond (bytes_eq word (codes "pop_front")) (Some (pop_front r (number_given (given_at es 0)))) None)) (option_and_then fixed_range (range_same e i))

    method_same : (k : Kind) (e : Exp16) (word : Name) (es : List Exp16) → method_deed b s a k e word es ≡ method_deed b s c k e word es
    method_same (bits width) e word es = refl
    method_same unsized e word es = refl
    method_same boolean e word es = refl
    method_same error_code e word es = refl
    method_same (header type) e word es = header_same e word
    method_same (stack type many) e word es = stack_same e word es
    method_same (struct type) e word es = refl
    method_same packet_in e word es = λ i. only_called (codes "extract") word (option_map extract_header (range_same (given_at es 0) i))
    method_same packet_out e word es = λ i. only_called (codes "emit") word (option_map emit_headers (source_same (table_found b) (given_at es 0) its_value i))
    method_same errors e word es = refl
    method_same (enumeration enum) e word es = refl
    method_same (one_of enum) e word es = refl
    method_same table e word es = refl
    method_same applied e word es = refl
    method_same (object obj) e word es = object_same obj word (object_found b e) es
    method_same items e word es = refl
    method_same nothing e word es = refl
    method_same unknown e word es = refl

    named_same : (sort : Sort) (text : Name) (es : List Exp16) → named_statement b s a sort text es ≡ named_statement b s c sort text es
    named_same (a_type k) text es = refl
    named_same (a_value k can) text es = refl
    named_same (an_enumeration enum) text es = refl
    named_same a_function text es = λ i. option_map does (function_same text es i)
    named_same (an_object of) text es = refl
    named_same (an_action plane handed) text es = λ i. option_and_then (λ f. action_same es f i) (action_found b text)
    named_same (a_table acts counters) text es = refl
    named_same a_state text es = refl
    named_same a_block text es = refl
    named_same undeclared text es = refl

    call_same : (e more : Exp16) → call_ready b s a e more ≡ call_ready b s c e more
    call_same (literal n) more = refl
    call_same (truth holds) more = refl
    call_same error more = refl
    call_same (name text) more = named_same (sort_of s text) text (arguments_of more)
    call_same (member e word) more = λ i. option_map does (method_same (kind_of s e) e word (arguments_of more) i)
    call_same (index e at) more = refl
    call_same (slice e high low) more = refl
    call_same (call g others) more = refl
    call_same (lookahead e to others) more = refl
    call_same (cast to e) more = refl
    call_same (unary operator e) more = refl
    call_same (binary operator d f) more = refl
    call_same (choice d f g) more = refl
    call_same (parenthesized e) more = refl
    call_same no_arguments more = refl
    call_same (argument before last) more = refl
    call_same (listed es) more = refl

    expression_same : (e : Exp16) → expression_ready b s a e ≡ expression_ready b s c e
    expression_same (literal n) = λ i. option_map (λ t. does (let_go t)) (test_same (table_found b) (literal n) owner its_value i)
    expression_same (truth holds) = λ i. option_map (λ t. does (let_go t)) (test_same (table_found b) (truth holds) owner its_value i)
    expression_same error = λ i. option_map (λ t. does (let_go t)) (test_same (table_found b) error owner its_value i)
    expression_same (name text) = λ i. option_map (λ t. does (let_go t)) (test_same (table_found b) (name text) owner its_value i)
    expression_same (member e word) = λ i. option_map (λ t. does (let_go t)) (test_same (table_found b) (member e word) owner its_value i)
    expression_same (index e at) = λ i. option_map (λ t. does (let_go t)) (test_same (table_found b) (index e at) owner its_value i)
    expression_same (slice e high low) = λ i. option_map (λ t. does (let_go t)) (test_same (table_found b) (slice e high low) owner its_value i)
    expression_same (call g more) = call_same g more
    expression_same (lookahead e to more) = λ i. option_map (λ t. does (let_go t)) (test_same (table_found b) (lookahead e to more) owner its_value i)
    expression_same (cast to e) = λ i. option_map (λ t. does (let_go t)) (test_same (table_found b) (cast to e) owner its_value i)
    expression_same (unary operator e) = λ i. option_map (λ t. does (let_go t)) (test_same (table_found b) (unary operator e) owner its_value i)
    expression_same (binary operator d f) = λ i. option_map (λ t. does (let_go t)) (test_same (table_found b) (binary operator d f) owner its_value i)
    expression_same (choice d f g) = λ i. option_map (λ t. does (let_go t)) (test_same (table_found b) (choice d f g) owner its_value i)
    expression_same (parenthesized e) = λ i. option_map (λ t. does (let_go t)) (test_same (table_found b) (parenthesized e) owner its_value i)
    expression_same no_arguments = λ i. option_map (λ t. does (let_go t)) (test_same (table_found b) no_arguments owner its_value i)
    expression_same (argument before last) = λ i. option_map (λ t. does (let_go t)) (test_same (table_found b) (argument before last) owner its_value i)
    expression_same (listed es) = λ i. option_map (λ t. does (let_go t)) (test_same (table_found b) (listed es) owner its_value i)

    -- assignments

    form_to : (f : Form) (p : Place) (e : Exp16) (x : Meant) → assigned_to b s a p e (record { spot = record { seat = record { depth = x.spot.seat.depth; form = f; start = x.spot.seat.start; owner = x.spot.seat.owner }; told = x.spot.told }; slice = x.slice }) ≡ assigned_to b s c p e (record { spot = record { seat = record { depth = x.spot.seat.depth; form = f; start = x.spot.seat.start; owner = x.spot.seat.owner }; told = x.spot.told }; slice = x.slice })
    form_to (slot_form content) p e x = λ i. assigns x.slice (slot_place_of (record { seat = record { depth = x.spot.seat.depth; form = (slot_form content); start = x.spot.seat.start; owner = x.spot.seat.owner }; told = x.spot.told })) (test_same (table_found b) e p its_value i)
    form_to (header_form type) p e x = λ i. assigns_parts (parts_meant s.layouts (record { spot = record { seat = record { depth = x.spot.seat.depth; form = (header_form type); start = x.spot.seat.start; owner = x.spot.seat.owner }; told = x.spot.told }; slice = x.slice })) (source_same (table_found b) e its_value i)
    form_to (stack_form type many) p e x = λ i. assigns_parts (parts_meant s.layouts (record { spot = record { seat = record { depth = x.spot.seat.depth; form = (stack_form type many); start = x.spot.seat.start; owner = x.spot.seat.owner }; told = x.spot.told }; slice = x.slice })) (source_same (table_found b) e its_value i)
    form_to (struct_form type) p e x = λ i. assigns_parts (parts_meant s.layouts (record { spot = record { seat = record { depth = x.spot.seat.depth; form = (struct_form type); start = x.spot.seat.start; owner = x.spot.seat.owner }; told = x.spot.told }; slice = x.slice })) (source_same (table_found b) e its_value i)
    form_to no_form p e x = λ i. assigns_parts (parts_meant s.layouts (record { spot = record { seat = record { depth = x.spot.seat.depth; form = no_form; start = x.spot.seat.start; owner = x.spot.seat.owner }; told = x.spot.told }; slice = x.slice })) (source_same (table_found b) e its_value i)

    to_same : (p : Place) (e : Exp16) (x : Meant) → assigned_to b s a p e x ≡ assigned_to b s c p e x
    to_same p e x = form_to x.spot.seat.form p e x

    assignment_same : (target e : Exp16) → assignment_ready b s a target e ≡ assignment_ready b s c target e
    assignment_same target e = λ i. option_map does (option_and_then (λ x. to_same (assigned_place (kind_of s target)) e x i) (meant_same target i))

    initial_same : (n : ℕ) (k : Kind) (e : Exp16) → initial_ready b s a n k e ≡ initial_ready b s c n k e
    initial_same n k e = λ i. option_map does (option_and_then (λ t. to_same (value k) e (whole_seat t) i) (variable_seat b n))

-- statements

declared_alike : (b : Around) (called : Name) (n : ℕ) (a c : List NamedSeat) → Alike a c → Alike (declared_seat b called n a) (declared_seat b called n c)
declared_alike b called n a c alike text = ap (λ (o : Option Seat). cond (bytes_eq called text) (variable_seat b n) o) (alike text)

behind_alike : (b : Around) (x : Stmt16) (s : Scope) (n : ℕ) (a c : List NamedSeat) → Alike a c → Alike (seats_behind b s n x a) (seats_behind b s n x c)
behind_alike b ((then) before last) s n a c alike =
    behind_alike b last (behind before s) (number_behind s before n) (seats_behind b s n before a) (seats_behind b s n before c) (behind_alike b before s n a c alike)
behind_alike b (var t called) s n a c alike = declared_alike b called n a c alike
behind_alike b (var_is t called e) s n a c alike = declared_alike b called n a c alike
behind_alike b no_statements s n a c alike = alike
behind_alike b (block body) s n a c alike = alike
behind_alike b empty s n a c alike = alike
behind_alike b (assign target e) s n a c alike = alike
behind_alike b (expression e) s n a c alike = alike
behind_alike b (if_then d positive) s n a c alike = alike
behind_alike b (if_else d positive negative) s n a c alike = alike
behind_alike b (switch text cases) s n a c alike = alike
behind_alike b no_cases s n a c alike = alike
behind_alike b (case_of before l body) s n a c alike = alike

module _ (b : Around) where
  abbrev Itself : Stmt16 → Type 0
  Itself x = (s : Scope) (a c : List NamedSeat) → Alike a c → (n : ℕ) → ready_in b s a n itself x ≡ ready_in b s c n itself x

  abbrev Labelled : Stmt16 → Type 0
  Labelled x = (s : Scope) (a c : List NamedSeat) → Alike a c → (n : ℕ) (r q : Option Statement) → r ≡ q → ready_in b s a n (labelled_ones r) x ≡ ready_in b s c n (labelled_ones q) x

  abbrev Default : Stmt16 → Type 0
  Default x = (s : Scope) (a c : List NamedSeat) → Alike a c → (n : ℕ) → ready_in b s a n the_default x ≡ ready_in b s c n the_default x

  all_same : (x : Stmt16) → Itself x × Labelled x × Default x
  all_same no_statements = ((λ s a c alike n. refl), (λ s a c alike n r q same. refl), (λ s a c alike n. refl))
  all_same ((then) before last) =
      let f = all_same before in
      let g = all_same last in (
        (λ s a c alike n i. both_ready sequence (f.0 s a c alike n i) (g.0 (behind before s) (seats_behind b s n before a) (seats_behind b s n before c) (behind_alike b before s n a c alike) (number_behind s before n) i)),
        (λ s a c alike n r q same. refl),
        (λ s a c alike n. refl),
      )
  all_same (block body) = let f = all_same body in ((λ s a c alike n. f.0 s a c alike n), (λ s a c alike n r q same. refl), (λ s a c alike n. refl))
  all_same empty = ((λ s a c alike n. refl), (λ s a c alike n r q same. refl), (λ s a c alike n. refl))
  all_same (var t called) = ((λ s a c alike n. refl), (λ s a c alike n r q same. refl), (λ s a c alike n. refl))
  all_same (var_is t called e) = ((λ s a c alike n. initial_same a c alike s b n (kind_of_type s.names t) e), (λ s a c alike n r q same. refl), (λ s a c alike n. refl))
  all_same (assign target e) = ((λ s a c alike n. assignment_same a c alike s b target e), (λ s a c alike n r q same. refl), (λ s a c alike n. refl))
  all_same (expression e) = ((λ s a c alike n. expression_same a c alike s b e), (λ s a c alike n r q same. refl), (λ s a c alike n. refl))
  all_same (if_then d positive) =
      let f = all_same positive in (
        (λ s a c alike n i. branch_ready (test_same a c alike s (table_found b) d (value boolean) its_value i) (f.0 s a c alike n i) (Some ready_nothing)),
        (λ s a c alike n r q same. refl),
        (λ s a c alike n. refl),
      )
  all_same (if_else d positive negative) =
      let f = all_same positive in
      let g = all_same negative in (
        (λ s a c alike n i. branch_ready (test_same a c alike s (table_found b) d (value boolean) its_value i) (f.0 s a c alike n i) (g.0 s a c alike (number_behind s positive n) i)),
        (λ s a c alike n r q same. refl),
        (λ s a c alike n. refl),
      )
  all_same (switch text cases) =
      let f = all_same cases in (
        (λ s a c alike n i. switch_ready (table_found b text) (f.1 s a c alike n (ready_in b s a n the_default cases) (ready_in b s c n the_default cases) (f.2 s a c alike n) i)),
        (λ s a c alike n r q same. refl),
        (λ s a c alike n. refl),
      )
  all_same no_cases = ((λ s a c alike n. refl), (λ s a c alike n r q same. same), (λ s a c alike n. refl))
  all_same (case_of before label.Default body) =
      let f = all_same before in
      let g = all_same body in (
        (λ s a c alike n. refl),
        (λ s a c alike n r q same. f.1 s a c alike n r q same),
        (λ s a c alike n i. default_ready (has_default before) label.Default (f.2 s a c alike n i) (g.0 s a c alike (number_behind s before n) i)),
      )
  all_same (case_of before (label.Action text) body) =
      let f = all_same before in
      let g = all_same body in (
        (λ s a c alike n. refl),
        (λ s a c alike n r q same.
            f.1 s a c alike n (labelled_ready (action_found b text) (ready_in b s a (number_behind s before n) itself body) r) (labelled_ready (action_found b text) (ready_in b s c (number_behind s before n) itself body) q)
            (λ i. labelled_ready (action_found b text) (g.0 s a c alike (number_behind s before n) i) (same i))),
        (λ s a c alike n i. default_ready (has_default before) (label.Action text) (f.2 s a c alike n i) (g.0 s a c alike (number_behind s before n) i)),
      )

  pub statement_same : (s : Scope) (a c : List NamedSeat) → Alike a c → (n : ℕ) (x : Stmt16) → ready_of_statement b s a n x ≡ ready_of_statement b s c n x
  statement_same s a c alike n x = (all_same x).0 s a c alike n
