-- Which rule is the least broken one, of those that are truth values (T1 to T6 and T8 to T10), and what the others
-- compute to.
use Rattle.std.specs.Prelude.{◌≡◌, true, false, [], ◌∷◌, codes, Some, refl}
use Rattle.std.specs.List.{list_any}
use Rattle.p416_syntax.specs.declared.parts.Type16.TheVariants.{Bit, Named}
use Rattle.p416_syntax.specs.declared.parts.Direction.TheVariants.{In}
use Rattle.p416_syntax.specs.declared.parsers.Target.TheVariants as target_of
use Rattle.p416_syntax.specs.declared.parsers.Transition.TheVariants as transition
use Rattle.p416_syntax.specs.declared.controls.ActionName.TheVariants as action_name
use Rattle.p416_syntax.specs.declared.controls.Property.TheVariants as property
use Rattle.p416_syntax.specs.declared.controls.Instance.TheVariants as instance
use Rattle.p416_syntax.specs.declared.controls.Local.TheVariants as local
use Rattle.p416_syntax.specs.declared.node.CastType.TheVariants as cast_to
use Rattle.p416_syntax.specs.declared.parsers.Keyset.TheVariants as keyset
use Rattle.p416_syntax.specs.declared.parsers.Simple.TheVariants as simple
use Rattle.p416_syntax.specs.declared.node.CaseLabel.TheVariants as case_label
use Rattle.p416_syntax.specs.declared.node.BinaryOperator.TheVariants.{Add, ShiftLeft, Equal, Concatenate}
use Rattle.p416_syntax.specs.declared.program.Decl16.TheVariants as decl
use Rattle.p416_syntax.specs.Tree.{literal, error, name, member, index, slice, call, cast, choice, truth, binary, no_arguments, argument, listed, no_statements, then, block, var, var_is, assign, expression, if_then, switch, no_cases, case_of}
use Rattle.p416_syntax.specs.Unknown.{declares_twice, struct_graph}
use Rattle.p416_syntax.specs.ParserStates.{idle_graph, has_no_start}
use Rattle.p416_syntax.specs.Applications.{call_graph}
use Rattle.p416_syntax.specs.Tables.{has_shared_names}
use Rattle.p416_syntax.specs.Main.{is_main}
use Rattle.p416_syntax.specs.Totals.{depth, is_too_deep, has_large_headers, has_bad_cells}
use Rattle.p416_syntax.specs.Breaks.{program_uses, is_no_block, scope_of}
use Rattle.p416_rules_examples.specs.Samples.{number, sized, bit_field, named, one, given, hdr, field, egress_spec, hs_param, parser_of, ingress_of, program, extract, none, sets, least, applies_t, action_of, table_of, lists_x, key_of, calls_x, direct_d, counts_d, in_ingress, two, condition, declares, with_stack, stack_s, with_table, with_action, value_v, selects, value_of, nots, with_table_and}

pub q1_breaks_none : least none ≡ 0
q1_breaks_none = refl

pub q1_main : is_main (program none) ≡ true
q1_main = refl

pub q1_twice : declares_twice (program none).decls ≡ false
q1_twice = refl

pub q1_large : has_large_headers (program none) ≡ false
q1_large = refl

pub q1_deep : list_any is_too_deep (program_uses (program none)) ≡ false
q1_deep = refl

pub q1_shared : has_shared_names (program none).decls ≡ false
q1_shared = refl

pub q1_blocks : list_any (is_no_block (program none)) (program none).main ≡ false
q1_blocks = refl

pub q1_structs : struct_graph (program none).decls ≡ [] ∷ (0 ∷ []) ∷ [] ∷ [] ∷ [] ∷ [] ∷ [] ∷ [] ∷ [] ∷ []
q1_structs = refl

pub two_fields : least (record none { fields = bit_field 48 (codes "a") ∷ bit_field 48 (codes "a") ∷ [] }) ≡ 1
two_fields = refl

pub wide_field : least (record none { fields = bit_field 129 (codes "a") ∷ bit_field 7 (codes "b") ∷ [] }) ≡ 2
wide_field = refl

pub odd_header : least (record none { fields = bit_field 48 (codes "a") ∷ bit_field 48 (codes "b") ∷ bit_field 17 (codes "c") ∷ [] }) ≡ 2
odd_header = refl

pub other_width : least (sets (literal (sized 8 3))) ≡ 3
other_width = refl

pub unsized_fits : least (sets (literal (number 511))) ≡ 0
unsized_fits = refl

pub unsized_over : least (sets (literal (number 512))) ≡ 4
unsized_over = refl

pub sized_over : least (sets (literal (sized 9 600))) ≡ 4
sized_over = refl

pub sum_fits : least (sets (binary Add (literal (number 1)) (literal (number 2)))) ≡ 0
sum_fits = refl

pub shift_unsized : least (sets (binary ShiftLeft (literal (number 1)) (literal (number 2)))) ≡ 3
shift_unsized = refl

pub shift_sized : least (sets (binary ShiftLeft (literal (number 1)) (literal (sized 4 2)))) ≡ 0
shift_sized = refl

pub undeclared_name : least (sets (name (codes "x"))) ≡ 1
undeclared_name = refl

pub unknown_field : least (sets (member hdr (codes "d"))) ≡ 1
unknown_field = refl

pub field_of_bits : least (sets (member egress_spec (codes "d"))) ≡ 3
field_of_bits = refl

pub enumeration_member : least (sets (member (name (codes "HashAlgorithm")) (codes "crc16"))) ≡ 3
enumeration_member = refl

pub slice_fits : least (sets (slice (field (codes "c")) (number 8) (number 0))) ≡ 0
slice_fits = refl

pub slice_over : least (sets (slice (field (codes "c")) (number 16) (number 8))) ≡ 2
slice_over = refl

pub number_as_target : least (record none { ingress = one (assign (literal (number 5)) egress_spec) }) ≡ 5
number_as_target = refl

pub in_written : least (record none { deparser = one (assign (field (codes "a")) (literal (number 5))) }) ≡ 5
in_written = refl

pub in_made_invalid : least (record none { deparser = one (expression (call (member hdr (codes "setInvalid")) no_arguments)) }) ≡ 5
in_made_invalid = refl

pub extract_nothing : least (record none { start = one (expression (call (member (name (codes "p")) (codes "extract")) no_arguments)) }) ≡ 6
extract_nothing = refl

pub is_valid_of_much : least (record none { ingress = one (expression (call (member hdr (codes "isValid")) (given (literal (number 1))))) }) ≡ 6
is_valid_of_much = refl

pub variable_hides : least (record none { ingress = (then) (one (var_is (Bit (number 9)) (codes "sm") (literal (number 5)))) (assign egress_spec (literal (number 5))) }) ≡ 3
variable_hides = refl

pub variable_twice : least (record none { ingress = (then) (one (var_is (Bit (number 9)) (codes "x") (literal (number 5)))) (var_is (Bit (number 9)) (codes "x") (literal (number 5))) }) ≡ 1
variable_twice = refl

pub emit_in_ingress : least (record none { main = codes "P" ∷ codes "V" ∷ codes "I" ∷ codes "E" ∷ codes "C" ∷ [] }) ≡ 9
emit_in_ingress = refl

pub table_applied : least (record none { ingress_locals = action_of (codes "x") [] no_statements ∷ table_of (lists_x ∷ []) ∷ []; ingress = one applies_t }) ≡ 0
table_applied = refl

pub table_in_action : least (record none { ingress_locals = action_of (codes "x") [] (one applies_t) ∷ table_of (lists_x ∷ []) ∷ [] }) ≡ 7
table_in_action = refl

pub table_in_key : least (record none { ingress_locals = action_of (codes "x") [] no_statements ∷ table_of (key_of (member (call (member (name (codes "t")) (codes "apply")) no_arguments) (codes "hit")) (codes "exact") ∷ lists_x ∷ []) ∷ [] }) ≡ 7
table_in_key = refl

pub bad_match_kind : least (record none { ingress_locals = action_of (codes "x") [] no_statements ∷ table_of (key_of (field (codes "c")) (codes "valid") ∷ lists_x ∷ []) ∷ [] }) ≡ 8
bad_match_kind = refl

pub default_outside : least (record none { ingress_locals = action_of (codes "x") [] no_statements ∷ table_of (lists_x ∷ property.DefaultAction action_name.NoAction no_arguments ∷ []) ∷ [] }) ≡ 8
default_outside = refl

pub directed_listed : least (record none { ingress_locals = action_of (codes "x") (hs_param In ∷ []) no_statements ∷ table_of (lists_x ∷ []) ∷ [] }) ≡ 8
directed_listed = refl

pub no_cells : has_bad_cells (program (record none { ingress_locals = local.Instance [] (instance.Register (number 8) (literal (number 0)) (codes "r")) ∷ [] })).decls ≡ true
no_cells = refl

pub q1_idle : idle_graph (parser_of none) ≡ [] ∷ []
q1_idle = refl

pub q1_start : has_no_start (parser_of none) ≡ false
q1_start = refl

pub loop_idle : idle_graph (parser_of (record none { start = no_statements; next = transition.Go (target_of.State (codes "start")) })) ≡ (0 ∷ []) ∷ []
loop_idle = refl

pub loop_extracts : idle_graph (parser_of (record none { next = transition.Go (target_of.State (codes "start")) })) ≡ [] ∷ []
loop_extracts = refl

pub loop_in_block : idle_graph (parser_of (record none { start = one (block (one extract)); next = transition.Go (target_of.State (codes "start")) })) ≡ [] ∷ []
loop_in_block = refl

pub loop_in_if : idle_graph (parser_of (record none { start = one (if_then (call (member hdr (codes "isValid")) no_arguments) extract); next = transition.Go (target_of.State (codes "start")) })) ≡ (0 ∷ []) ∷ []
loop_in_if = refl

pub unknown_state : least (record none { next = transition.Go (target_of.State (codes "x")) }) ≡ 1
unknown_state = refl

pub call_cycle : call_graph (scope_of (program calls_x) (decl.Control (ingress_of calls_x))) (ingress_of calls_x) ≡ (1 ∷ []) ∷ (0 ∷ []) ∷ []
call_cycle = refl

pub calls_fit : least calls_x ≡ 0
calls_fit = refl

pub counted : least (record none { ingress_locals = direct_d ∷ action_of (codes "x") [] (one counts_d) ∷ table_of (lists_x ∷ property.Counters (codes "d") ∷ []) ∷ [] }) ≡ 0
counted = refl

pub counted_outside : least (record none { ingress_locals = direct_d ∷ action_of (codes "x") [] (one counts_d) ∷ table_of (lists_x ∷ []) ∷ [] }) ≡ 8
counted_outside = refl

pub counted_in_apply : least (record none { ingress_locals = direct_d ∷ action_of (codes "x") [] no_statements ∷ table_of (lists_x ∷ property.Counters (codes "d") ∷ []) ∷ []; ingress = one counts_d }) ≡ 9
counted_in_apply = refl

pub dropped_in_verify : least (record none { verify_body = one (expression (call (name (codes "mark_to_drop")) (given (name (codes "hdr"))))) }) ≡ 3
dropped_in_verify = refl

pub hashes : least (record none { ingress = one (expression (call (name (codes "hash")) (argument (argument (argument (argument (argument no_arguments (field (codes "c"))) (member (name (codes "HashAlgorithm")) (codes "crc16"))) (literal (sized 16 0))) (listed (given (field (codes "a"))))) (literal (sized 16 7))))) }) ≡ 0
hashes = refl

pub hashes_unsized : least (record none { ingress = one (expression (call (name (codes "hash")) (argument (argument (argument (argument (argument no_arguments (field (codes "c"))) (member (name (codes "HashAlgorithm")) (codes "crc16"))) (literal (number 0))) (listed (given (field (codes "a"))))) (literal (sized 16 7))))) }) ≡ 3
hashes_unsized = refl

pub clones_late : least (record none { ingress = one (expression (call (name (codes "clone_preserving_field_list")) (argument (argument (argument no_arguments (member (name (codes "CloneType")) (codes "E2E"))) (literal (number 5))) (literal (number 1))))) }) ≡ 9
clones_late = refl

pub clones : least (record none { ingress = one (expression (call (name (codes "clone_preserving_field_list")) (argument (argument (argument no_arguments (member (name (codes "CloneType")) (codes "I2E"))) (literal (number 5))) (literal (number 1))))) }) ≡ 0
clones = refl

pub compares_numbers : least (record none { ingress = one (if_then (binary Equal (literal (number 1)) (literal (number 1))) (assign egress_spec (literal (number 1)))) }) ≡ 3
compares_numbers = refl

pub compares_errors : least (record none { ingress = one (if_then (binary Equal (member (name (codes "sm")) (codes "parser_error")) (member error (codes "NoError"))) (assign egress_spec (literal (number 1)))) }) ≡ 0
compares_errors = refl

pub joined_width : least (sets (slice (binary Concatenate (field (codes "a")) (binary Concatenate (field (codes "b")) (field (codes "a")))) (number 8) (number 0))) ≡ 2
joined_width = refl

pub five_blocks : is_main (record (program none) { main = codes "P" ∷ codes "V" ∷ codes "I" ∷ codes "E" ∷ codes "C" ∷ [] }) ≡ false
five_blocks = refl

pub type_hidden : least (record none { ingress = two (var_is (Bit (number 9)) (codes "h_t") (literal (number 5))) (var (named (codes "h_t")) (codes "x")) }) ≡ 1
type_hidden = refl

pub enumeration_as_type : least (declares (named (codes "HashAlgorithm"))) ≡ 1
enumeration_as_type = refl

pub packet_as_variable : least (declares (named (codes "packet_in"))) ≡ 3
packet_as_variable = refl

pub stack_of_structs : least (declares (Named (codes "hs") (Some (number 2)))) ≡ 3
stack_of_structs = refl

pub large_stack : least (declares (Named (codes "h_t") (Some (number 257)))) ≡ 2
large_stack = refl

pub stack_of_headers : least (declares (Named (codes "h_t") (Some (number 256)))) ≡ 0
stack_of_headers = refl

pub method_not_called : least (sets (member hdr (codes "isValid"))) ≡ 1
method_not_called = refl

pub unknown_error : least (condition (binary Equal (member (name (codes "sm")) (codes "parser_error")) (member error (codes "x")))) ≡ 1
unknown_error = refl

pub error_by_itself : least (condition (binary Equal (member (name (codes "sm")) (codes "parser_error")) error)) ≡ 3
error_by_itself = refl

pub compares_headers : least (condition (binary Equal hdr hdr)) ≡ 3
compares_headers = refl

pub chooses_headers : least (in_ingress (assign hdr (choice (truth true) hdr hdr))) ≡ 0
chooses_headers = refl

pub writes_choice : least (in_ingress (assign (choice (truth true) hdr hdr) hdr)) ≡ 5
writes_choice = refl

pub casts_number : least (in_ingress (assign egress_spec (cast (cast_to.Bit (number 9)) (literal (number 5))))) ≡ 3
casts_number = refl

pub casts_field : least (in_ingress (assign egress_spec (cast (cast_to.Bit (number 9)) (field (codes "c"))))) ≡ 0
casts_field = refl

pub casts_to_bool : least (condition (cast cast_to.Bool (slice (field (codes "c")) (number 0) (number 0)))) ≡ 0
casts_to_bool = refl

pub casts_bool_to_bool : least (condition (cast cast_to.Bool (truth true))) ≡ 3
casts_bool_to_bool = refl

pub casts_bool_to_bits : least (in_ingress (assign egress_spec (cast (cast_to.Bit (number 9)) (truth true)))) ≡ 3
casts_bool_to_bits = refl

pub casts_too_wide : least (condition (binary Equal (cast (cast_to.Bit (number 129)) (field (codes "c"))) (literal (number 1)))) ≡ 2
casts_too_wide = refl

pub next_in_control : least (with_stack (assign hdr (member stack_s (codes "next")))) ≡ 9
next_in_control = refl

pub element : least (with_stack (assign hdr (index stack_s (number 1)))) ≡ 0
element = refl

pub element_outside : least (with_stack (assign hdr (index stack_s (number 2)))) ≡ 2
element_outside = refl

pub element_of_header : least (in_ingress (assign hdr (index hdr (number 0)))) ≡ 3
element_of_header = refl

pub pushes : least (with_stack (expression (call (member stack_s (codes "push_front")) (given (literal (number 1)))))) ≡ 0
pushes = refl

pub pushes_no_literal : least (with_stack (expression (call (member stack_s (codes "push_front")) (given (cast (cast_to.Bit (number 32)) egress_spec))))) ≡ 3
pushes_no_literal = refl

pub extra_argument : least (with_stack (expression (call (member stack_s (codes "push_front")) (argument (given (literal (number 1))) (literal (number 1)))))) ≡ 6
extra_argument = refl

pub writes_given : least (with_action (value_v ∷ []) (one (assign (name (codes "v")) (literal (number 5))))) ≡ 5
writes_given = refl

pub reads_given : least (with_action (value_v ∷ []) (one (assign egress_spec (name (codes "v"))))) ≡ 0
reads_given = refl

pub directed_behind : least (record none { ingress_locals = action_of (codes "x") (value_v ∷ hs_param In ∷ []) no_statements ∷ [] }) ≡ 8
directed_behind = refl

pub direct_call : least (record none { ingress_locals = action_of (codes "x") (hs_param In ∷ value_v ∷ []) no_statements ∷ []; ingress = one (expression (call (name (codes "x")) (argument (given (name (codes "hdr"))) (literal (number 5))))) }) ≡ 0
direct_call = refl

-- what stands within an argument for which there is no parameter is judged
pub boolean_sum_too_much : least (record none { ingress_locals = action_of (codes "x") [] no_statements ∷ []; ingress = one (expression (call (name (codes "x")) (given (binary Add (truth true) (truth true))))) }) ≡ 3
boolean_sum_too_much = refl

pub number_sum_too_much : least (record none { ingress_locals = action_of (codes "x") [] no_statements ∷ []; ingress = one (expression (call (name (codes "x")) (given (binary Add (literal (number 1)) (literal (number 2)))))) }) ≡ 6
number_sum_too_much = refl

-- a label that names no action, and one whose name is hidden by a variable
pub unknown_label : least (with_table_and (one (switch (codes "t") (case_of no_cases (case_label.Action (codes "nosuch")) no_statements)))) ≡ 1
unknown_label = refl

pub hidden_label : least (with_table_and ((then) (one (var (Bit (number 8)) (codes "x"))) (switch (codes "t") (case_of no_cases (case_label.Action (codes "x")) no_statements)))) ≡ 1
hidden_label = refl

pub fit_label : least (with_table_and (one (switch (codes "t") (case_of no_cases (case_label.Action (codes "x")) no_statements)))) ≡ 0
fit_label = refl

pub call_too_short : least (record none { ingress_locals = action_of (codes "x") (hs_param In ∷ value_v ∷ []) no_statements ∷ []; ingress = one (expression (call (name (codes "x")) (given (name (codes "hdr"))))) }) ≡ 6
call_too_short = refl

pub default_given : least (with_table (property.DefaultAction (action_name.Declared (codes "x")) no_arguments ∷ [])) ≡ 0
default_given = refl

pub default_given_much : least (with_table (property.DefaultAction (action_name.Declared (codes "x")) (given (literal (number 5))) ∷ [])) ≡ 6
default_given_much = refl

pub boolean_key : least (with_table (key_of (call (member hdr (codes "isValid")) no_arguments) (codes "exact") ∷ [])) ≡ 0
boolean_key = refl

pub boolean_ternary_key : least (with_table (key_of (call (member hdr (codes "isValid")) no_arguments) (codes "ternary") ∷ [])) ≡ 3
boolean_ternary_key = refl

pub key_without_width : least (with_table (key_of (literal (number 5)) (codes "exact") ∷ [])) ≡ 3
key_without_width = refl

pub selects_number : least (selects (value_of (literal (number 5)) ∷ keyset.One simple.Default ∷ [])) ≡ 0
selects_number = refl

pub selects_over : least (selects (value_of (literal (number 65536)) ∷ [])) ≡ 4
selects_over = refl

pub selects_other_width : least (selects (value_of (literal (sized 8 5)) ∷ [])) ≡ 3
selects_other_width = refl

pub selects_no_literal : least (selects (value_of (field (codes "c")) ∷ [])) ≡ 3
selects_no_literal = refl

pub selects_mask : least (selects (keyset.One (simple.Mask (literal (number 5)) (literal (number 7))) ∷ [])) ≡ 0
selects_mask = refl

pub selects_two : least (selects (keyset.Tuple (simple.Any ∷ simple.Any ∷ []) ∷ [])) ≡ 3
selects_two = refl

pub selects_two_with_a_name : least (selects (keyset.Tuple (simple.Any ∷ simple.Value (name (codes "nosuch")) ∷ []) ∷ [])) ≡ 1
selects_two_with_a_name = refl

pub selects_two_with_a_slice : least (selects (keyset.Tuple (simple.Any ∷ simple.Value (slice (field (codes "c")) (number 99) (number 0)) ∷ []) ∷ [])) ≡ 2
selects_two_with_a_slice = refl

pub selects_one : least (selects (keyset.Tuple (simple.Any ∷ []) ∷ [])) ≡ 0
selects_one = refl

pub selects_nothing : least (selects []) ≡ 0
selects_nothing = refl

pub listed_boolean : least (in_ingress (expression (call (name (codes "hash")) (argument (argument (argument (argument (argument no_arguments (field (codes "c"))) (member (name (codes "HashAlgorithm")) (codes "crc16"))) (literal (sized 16 0))) (listed (given (truth true)))) (literal (sized 16 7)))))) ≡ 3
listed_boolean = refl

pub chosen_algorithm : least (in_ingress (expression (call (name (codes "hash")) (argument (argument (argument (argument (argument no_arguments (field (codes "c"))) (choice (truth true) (member (name (codes "HashAlgorithm")) (codes "crc16")) (member (name (codes "HashAlgorithm")) (codes "crc16")))) (literal (sized 16 0))) (listed no_arguments)) (literal (sized 16 7)))))) ≡ 3
chosen_algorithm = refl

pub shadows_parameter : least (in_ingress (var_is (Bit (number 9)) (codes "hdr") (literal (number 5)))) ≡ 0
shadows_parameter = refl

pub own_initial_value : least (in_ingress (var_is (Bit (number 9)) (codes "x") (name (codes "x")))) ≡ 1
own_initial_value = refl

pub as_deep : depth (nots 511) ≡ 512
as_deep = refl

pub too_deep : list_any is_too_deep (program_uses (program (condition (nots 512)))) ≡ true
too_deep = refl

pub control_twice : is_main (record (program none) { main = codes "P" ∷ codes "V" ∷ codes "I" ∷ codes "E" ∷ codes "C" ∷ codes "V" ∷ [] }) ≡ false
control_twice = refl

pub default_given_no_literal : least (with_table (property.DefaultAction (action_name.Declared (codes "x")) (given egress_spec) ∷ [])) ≡ 3
default_given_no_literal = refl

pub default_given_nowhere : least (with_table (property.DefaultAction (action_name.Declared (codes "x")) (given (name (codes "nosuch"))) ∷ [])) ≡ 1
default_given_nowhere = refl

pub assigned_packet : least (record none { start = two extract (assign (name (codes "p")) (name (codes "p"))) }) ≡ 3
assigned_packet = refl

pub hashes_into_number : least (in_ingress (expression (call (name (codes "hash")) (argument (argument (argument (argument (argument no_arguments (literal (number 5))) (member (name (codes "HashAlgorithm")) (codes "crc16"))) (literal (sized 16 0))) (listed no_arguments)) (literal (sized 16 7)))))) ≡ 5
hashes_into_number = refl

pub concatenates_128 : least (sets (slice (binary Concatenate (binary Concatenate (field (codes "a")) (field (codes "b"))) (cast (cast_to.Bit (number 32)) (field (codes "a")))) (number 8) (number 0))) ≡ 0
concatenates_128 = refl

pub concatenates_144 : least (sets (slice (binary Concatenate (binary Concatenate (field (codes "a")) (field (codes "b"))) (field (codes "a"))) (number 8) (number 0))) ≡ 2
concatenates_144 = refl

pub slices_turned_round : least (sets (slice (field (codes "c")) (number 3) (number 8))) ≡ 2
slices_turned_round = refl

pub switch_in_a_branch : least (with_table_and (one (if_then (truth true) (switch (codes "t") (case_of no_cases (case_label.Action (codes "x")) (one (var_is (Bit (number 9)) (codes "v") egress_spec))))))) ≡ 0
switch_in_a_branch = refl

pub branch_hides : least (in_ingress (if_then (truth true) (var_is (Bit (number 9)) (codes "hdr") (literal (number 5))))) ≡ 0
branch_hides = refl

pub seen_behind_a_branch : least (record none { ingress = two (if_then (truth true) (var_is (Bit (number 9)) (codes "v") (literal (number 5)))) (assign egress_spec (name (codes "v"))) }) ≡ 1
seen_behind_a_branch = refl

pub case_twice : least (with_table_and (one (switch (codes "t") (case_of no_cases (case_label.Action (codes "x")) (two (var (Bit (number 9)) (codes "v")) (var (Bit (number 9)) (codes "v"))))))) ≡ 1
case_twice = refl
