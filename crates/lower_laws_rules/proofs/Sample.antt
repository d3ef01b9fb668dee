-- That a program can be as is asked: its parts keep the rules by the laws of their forms, and the whole breaks none.
use Rattle.std.proofs.Common.{take, drop, ◌≡◌, inl, inr, ℕ, zero, suc, ◌<◌, Bool, true, false, None, Some, List, [], ◌∷◌, length, flat_map, refl, ap, ◌∙◌, arith}
use Rattle.std.specs.Prelude.{codes}
use Rattle.std.specs.List.{AllByRecursion}
use Rattle.digraph.specs.Graphs.{IsEdge}
use Rattle.p414_sem.specs.Slots.{declared}
use Rattle.p414_sem.specs.Operations.{field, parameter}
use Rattle.p416_syntax.specs.declared.parts.Param.{Param}
use Rattle.p416_syntax.specs.declared.parts.CounterType.TheVariants.{Packets}
use Rattle.p416_syntax.specs.declared.parts.MeterType.TheVariants.{Packets as MeterPackets}
use Rattle.p416_syntax.specs.declared.parts.Member.TheVariants as member_of
use Rattle.p416_syntax.specs.declared.parsers.Target.TheVariants as target_of
use Rattle.p416_syntax.specs.declared.parsers.Simple.TheVariants as simple
use Rattle.p416_syntax.specs.declared.parsers.Keyset.TheVariants as keyset
use Rattle.p416_syntax.specs.declared.parsers.SelectCase.{SelectCase}
use Rattle.p416_syntax.specs.declared.parsers.Transition.TheVariants as transition
use Rattle.p416_syntax.specs.declared.parsers.State.{State}
use Rattle.p416_syntax.specs.declared.parsers.Parser16.{Parser16}
use Rattle.p416_syntax.specs.declared.controls.Instance.TheVariants as instance
use Rattle.p416_syntax.specs.declared.controls.Action16.{Action16}
use Rattle.p416_syntax.specs.declared.controls.TableKey.{TableKey}
use Rattle.p416_syntax.specs.declared.controls.Local.TheVariants as local
use Rattle.p416_syntax.specs.declared.controls.Control16.{Control16}
use Rattle.p416_syntax.specs.declared.program.Decl16.{Decl16}
use Rattle.p416_syntax.specs.declared.program.Decl16.TheVariants as decl
use Rattle.p416_syntax.specs.declared.program.Syntax16.{Syntax16}
use Rattle.p416_syntax.specs.declared.node.CaseLabel.TheVariants as label_of
use Rattle.p416_syntax.specs.declared.node.BinaryOperator.TheVariants.{Add, BitAnd, Equal}
use Rattle.p416_syntax.specs.declared.parts.Type16.TheVariants.{Bit}
use Rattle.p416_syntax.specs.Tree.{Exp16, literal, error, name, member, call, binary, no_arguments, argument, Stmt16, no_statements, then, block, var, assign, expression, if_else, switch, no_cases, case_of}
use Rattle.p416_syntax.specs.Names.{Name}
use Rattle.p416_syntax.specs.Kinds.{Kind, hash_algorithm, counter_type, meter_type, clone_type, bits, header, stack, struct, error_code, packet_in, packet_out}
use Rattle.p416_syntax.specs.BuiltIn.{standard_name, functions}
use Rattle.p416_syntax.specs.Scopes.{Scope, Part as ScopePart, in_action, in_key, a_value, sort_of, fields_in}
use Rattle.p416_syntax.specs.Expressions.{field_kind_in}
use Rattle.p416_syntax.specs.Calls.{any_bits, table_key}
use Rattle.p416_syntax.specs.Statements.{with_variable}
use Rattle.p416_syntax.specs.Declarations.{action_uses, key_uses, state_uses, table_uses, declaration_uses, action_scope, control_scope, parser_scope}
use Rattle.p416_syntax.specs.ParserStates.{idle_graph}
use Rattle.p416_syntax.specs.Breaks.{ParserBreaks, HasCallCycle, BreaksNone, program_rules, scope_of}
use Rattle.v1_core.specs.Frames.{Owner, of_headers, of_metadata, of_standard}
use Rattle.agreement_of_meanings.specs.Shown.{NamedField, name_of, fields_of, field_at, owner_of, standard_word}
use Rattle.lower_laws_base.specs.Context.{Lowering, Copies, local_at, words_of, shown_in, Item, a_root, a_copy, an_object, a_function, an_enumeration, the_packet, IsItem, item_name, Declares, Sees, now, entry}
use Rattle.lower_laws_base.specs.Mirror.{plain, sized, slot_exp, part_exp, source_exp, copy_stmt, method_stmt, valid_exp, guarded}
use Rattle.v1_core.specs.Surroundings.{no_table_applies, no_action_runs}
use Rattle.lower_laws_base.proofs.Sample.{each_named, scope, locals, c as any_c, copies as any_copies, sees as any_sees}
use Rattle.lower_laws_rules.specs.Keeping.{Keeps, Sound, Part}
use Rattle.lower_laws_rules.specs.Standing.{HasParameters}
use Rattle.lower_laws_rules.specs.Written.{header16, MarkedField, metadata16, TypedField, struct16, action16, whole_var, named, TableText, table16}
use Rattle.lower_laws_rules.specs.Declared.{Listed, ControlFits, control_held, ParserFits, DeclarationKeeps}
use Rattle.p416_syntax.specs.Spelt.{is_spelt16}
use Rattle.lower_laws_rules.specs.Spelling.{SpeltDecl, SpeltProgram}
use Rattle.lower_laws_rules.specs.Whole.{EachKeeps, RootNames, parser_params, checksum_params, pipeline_params, deparser_params, ProgramKeeps}
use Rattle.lower_laws_rules.proofs.Lists.{none_kept, behind_kept}
use Rattle.lower_laws_rules.proofs.Places.{sits, asks_any}
use Rattle.lower_laws_rules.proofs.Sound.{sound_literal, sound_name, sound_member, sound_pair, sound_no_error}
use Rattle.lower_laws_rules.proofs.Calls.{none_given, more_given, table_hit}
use Rattle.lower_laws_rules.proofs.Parts.{part_none, part_then, part_put, part_if, part_if_else, part_block, part_variable, part_switch, no_branches, branch, branch_default}
use Rattle.lower_laws_rules.proofs.Sources.{sound_root, sound_part, sound_slot, sound_source, part_copied}
use Rattle.lower_laws_rules.proofs.Externs.{sound_valid, sound_next, part_extract, part_emit, part_apply, part_count_entry, part_read, part_push, part_drop, part_verify, checksum_arguments}
use Rattle.lower_laws_rules.proofs.Types.{header_kept, metadata_kept, members_kept, register_kept, meter_kept, direct_counter_kept}
use Rattle.lower_laws_rules.proofs.Tables.{asks_key, key_kept, table_kept, action_kept, in_keys}
use Rattle.lower_laws_rules.proofs.Controls.{parser_params_kept, checksum_params_kept, pipeline_params_kept, deparser_params_kept, whole_var_kept, target_state, target_accept, case_value, case_mask, case_default, transition_go, transition_select, state_kept, parser_kept, falling, control_kept}
use Rattle.lower_laws_rules.proofs.Program.{program_breaks_none}
use Rattle.lower_laws_rules.proofs.Spelt.{program_spelt}

abbrev c : Lowering
c = any_c no_action_runs no_table_applies

copies : Copies c
copies = any_copies no_action_runs no_table_applies

sees : Sees c scope locals
sees = any_sees no_action_runs no_table_applies

-- what is written

abbrev bit_field : Name → ℕ → NamedField
bit_field called width = record { called = called; width = width }

abbrev typed : Name → Name → TypedField
typed called type = record { called = called; type = type; size = None }

abbrev roots : RootNames
roots = record { packet = codes "packet"; headers = codes "hdr"; metadata = codes "meta"; standard = codes "sm" }

abbrev x_field : Exp16
x_field = slot_exp (words_of c) now (declared 0 0 0)

abbrev start_cases : List SelectCase
start_cases =
    record { keyset = keyset.One (simple.Value (literal (sized 8 1))); target = target_of.State (codes "more") }
    ∷ record { keyset = keyset.One (simple.Mask (literal (sized 8 2)) (literal (sized 8 3))); target = target_of.State (codes "more") }
    ∷ record { keyset = keyset.One simple.Default; target = target_of.Accept } ∷ []

abbrev start : State
start = record {
  name = codes "start";
  body = (then) no_statements (expression (call (member (name (codes "packet")) (codes "extract")) (argument no_arguments (part_exp (words_of c) now (record { instance = 0; element = 0 })))));
  transition = transition.Select (x_field ∷ []) start_cases;
}

abbrev more : State
more = record {
  name = codes "more";
  body = (then) no_statements (expression (call (member (name (codes "packet")) (codes "extract")) (argument no_arguments (member (member (name (codes "hdr")) (codes "t")) (codes "next")))));
  transition = transition.Go target_of.Accept;
}

abbrev the_parser : Parser16
the_parser = record { name = codes "P"; parameters = parser_params (codes "H") (codes "M") roots; vars = []; states = start ∷ more ∷ [] }

abbrev items : Exp16
items = argument (argument no_arguments x_field) (literal (sized 4 9))

abbrev verify : Control16
verify = record {
  name = codes "V";
  parameters = checksum_params (codes "H") (codes "M") roots;
  locals = [];
  body = (then) no_statements (expression (call (name (codes "verify_checksum")) (checksum_arguments (valid_exp (member (name (codes "hdr")) (codes "h"))) items (slot_exp (words_of c) now (declared 0 0 1)) (codes "csum16"))));
}

-- an action that counts, copies the headers and adds its parameter to a field where the header was valid
abbrev adding : Stmt16
adding = assign x_field (binary Add (source_exp (words_of c) entry 8 (field (declared 0 0 0))) (source_exp (words_of c) entry 8 (parameter 0)))

abbrev a_body : Stmt16
a_body = (then) ((then) ((then) no_statements (method_stmt (name (codes "d")) (codes "count"))) (copy_stmt (words_of c) of_headers)) (guarded (words_of c) entry (declared 0 0 0) adding)

-- an action that reads a register, and pushes
abbrev b_body : Stmt16
b_body = (then) ((then) ((then) no_statements (var (Bit (plain 32)) (codes "v0_"))) (expression (call (member (name (codes "r")) (codes "read")) (argument (argument no_arguments (name (codes "v0_"))) (literal (sized 32 1))))))
    (expression (call (member (member (name (codes "hdr")) (codes "t")) (codes "push_front")) (argument no_arguments (literal (plain 1)))))

abbrev parameters : List NamedField
parameters = bit_field (codes "p") 8 ∷ []

abbrev action_a : Action16
action_a = action16 (codes "a") (codes "a") parameters a_body

abbrev action_b : Action16
action_b = action16 (codes "b") (codes "b_c0_") parameters b_body

abbrev key_q : TableKey
key_q = record { exp = slot_exp (words_of c) now (declared 2 0 0); kind = codes "exact"; notes = [] }

abbrev key_x : TableKey
key_x = record { exp = binary BitAnd x_field (literal (sized 8 15)); kind = codes "ternary"; notes = named (codes "x") }

abbrev table_t : TableText
table_t = record { plane = codes "t"; called = codes "t"; keys = key_q ∷ key_x ∷ []; actions = codes "a" ∷ codes "b_c0_" ∷ []; size = Some 16; counters = Some (codes "d"); default = Some (record { action = codes "b_c0_"; widths = 8 ∷ []; values = 5 ∷ [] }) }

abbrev table_u : TableText
table_u = record { plane = codes "u"; called = codes "u"; keys = []; actions = codes "b_c0_" ∷ []; size = None; counters = None; default = None }

abbrev cases : Stmt16
cases = case_of (case_of no_cases (label_of.Action (codes "a")) ((then) no_statements (method_stmt (name (codes "u")) (codes "apply")))) label_of.Default no_statements

abbrev dropping : Stmt16
dropping = (then) no_statements (expression (call (name (codes "mark_to_drop")) (argument no_arguments (name (codes "sm")))))

abbrev no_error : Exp16
no_error = binary Equal (member (name (codes "sm")) (codes "parser_error")) (member error (codes "NoError"))

abbrev ingress : Control16
ingress = record {
  name = codes "I";
  parameters = pipeline_params (codes "H") (codes "M") roots;
  locals =
      local.Var (whole_var (codes "H") (codes "old_hdr")) ∷ local.Var (whole_var (codes "M") (codes "old_meta")) ∷ local.Var (whole_var standard_name (codes "old_sm"))
      ∷ local.Action action_a ∷ local.Action action_b ∷ local.Table (table16 table_t) ∷ local.Table (table16 table_u) ∷ [];
  body = (then) no_statements (if_else no_error (block ((then) no_statements (switch (codes "t") cases))) (if_else (member (call (member (name (codes "u")) (codes "apply")) no_arguments) (codes "hit")) (block no_statements) (block dropping)));
}

abbrev empty_control : Name → List Param → Control16
empty_control called parameters = record { name = called; parameters = parameters; locals = []; body = no_statements }

abbrev egress : Control16
egress = empty_control (codes "E") (pipeline_params (codes "H") (codes "M") roots)

abbrev compute : Control16
compute = empty_control (codes "C") (checksum_params (codes "H") (codes "M") roots)

abbrev deparser : Control16
deparser = record {
  name = codes "D";
  parameters = deparser_params (codes "H") roots;
  locals = [];
  body = (then) no_statements (expression (call (member (name (codes "packet")) (codes "emit")) (argument no_arguments (member (name (codes "hdr")) (codes "t")))));
}

abbrev fields_h : List NamedField
fields_h = bit_field (codes "x") 8 ∷ bit_field (codes "y") 16 ∷ []

abbrev fields_t : List NamedField
fields_t = bit_field (codes "z") 8 ∷ []

abbrev fields_m : List MarkedField
fields_m = record { field = bit_field (codes "q") 4; marks = 1 ∷ 2 ∷ [] } ∷ []

abbrev members_H : List TypedField
members_H = typed (codes "h") (codes "h_t") ∷ record { called = codes "t"; type = codes "t_t"; size = Some 2 } ∷ []

abbrev members_M : List TypedField
members_M = typed (codes "m") (codes "m_t") ∷ []

abbrev decl_h_t : Decl16
decl_h_t = decl.Header (header16 (codes "h_t") fields_h)

abbrev decl_t_t : Decl16
decl_t_t = decl.Header (header16 (codes "t_t") fields_t)

abbrev decl_m_t : Decl16
decl_m_t = decl.Struct (metadata16 (codes "m_t") fields_m)

abbrev decl_H : Decl16
decl_H = decl.Struct (struct16 (codes "H") members_H)

abbrev decl_M : Decl16
decl_M = decl.Struct (struct16 (codes "M") members_M)

abbrev decl_r : Decl16
decl_r = decl.Instance (named (codes "r")) (instance.Register (plain 32) (literal (sized 32 4)) (codes "r"))

abbrev decl_d : Decl16
decl_d = decl.Instance (named (codes "d")) (instance.DirectCounter (member_of.CounterType Packets) (codes "d"))

abbrev decl_v : Decl16
decl_v = decl.Instance (named (codes "v")) (instance.Meter (literal (sized 32 2)) (member_of.MeterType MeterPackets) (codes "v"))

abbrev decls : List Decl16
decls = decl_h_t ∷ decl_t_t ∷ decl_m_t ∷ decl_H ∷ decl_M ∷ decl_r ∷ decl_d ∷ decl_v ∷ decl.Parser the_parser ∷ decl.Control verify ∷ decl.Control ingress ∷ decl.Control egress ∷ decl.Control compute ∷ decl.Control deparser ∷ []

abbrev pub program : Syntax16
program = record { decls = decls; main = codes "P" ∷ codes "V" ∷ codes "I" ∷ codes "E" ∷ codes "C" ∷ codes "D" ∷ [] }

-- scopes

abbrev at_top : Decl16 → Scope
at_top d = scope_of program d

abbrev in_control : Scope
in_control = control_scope (at_top (decl.Control ingress)) ingress

abbrev in_its_action : Action16 → Scope
in_its_action a = action_scope in_control a

-- all that the sample of names sees is seen here too
module _ (s : Scope) (layouts : s.layouts ≡ in_control.layouts) (same_root : (o : Owner) → sort_of s (c.root o) ≡ sort_of scope (c.root o)) (same_copy : (o : Owner) → sort_of s (c.copy o) ≡ sort_of scope (c.copy o)) (same_object : sort_of s (codes "r") ≡ sort_of scope (codes "r")) (same_meter : sort_of s (codes "v") ≡ sort_of scope (codes "v")) (same_functions : AllByRecursion (λ (t : Name). sort_of s t ≡ sort_of scope t) functions) (same_enumerations : AllByRecursion (λ (t : Name). sort_of s t ≡ sort_of scope t) (codes "HashAlgorithm" ∷ codes "CounterType" ∷ codes "MeterType" ∷ codes "CloneType" ∷ [])) where
  same_named : (x : Item) → IsItem c x → sort_of s (item_name c x) ≡ sort_of scope (item_name c x)
  same_named (a_root o) is = same_root o
  same_named (a_copy o) is = same_copy o
  same_named (an_object zero) is = same_object
  same_named (an_object (suc zero)) is = same_meter
  same_named (an_object (suc (suc j))) is = absurd (omega (arith, is))
  same_named (a_function text) is = each_named functions (λ (t : Name). sort_of s t ≡ sort_of scope t) same_functions text is
  same_named (an_enumeration hash_algorithm) is = same_enumerations.0
  same_named (an_enumeration counter_type) is = same_enumerations.1.0
  same_named (an_enumeration meter_type) is = same_enumerations.1.1.0
  same_named (an_enumeration clone_type) is = same_enumerations.1.1.1.0
  same_named the_packet is = absurd (cc is)

  root_fields : (o : Owner) → fields_in s.layouts (c.root_type o) ≡ fields_in scope.layouts (c.root_type o)
  root_fields o = ap (λ ls. fields_in ls (c.root_type o)) layouts ∙ by o where
    by : (z : Owner) → fields_in in_control.layouts (c.root_type z) ≡ fields_in scope.layouts (c.root_type z)
    by of_headers = refl
    by of_metadata = refl
    by z = refl

  type_fields : (i : ℕ) → fields_in s.layouts (c.type_of i) ≡ fields_in scope.layouts (c.type_of i)
  type_fields i = ap (λ ls. fields_in ls (c.type_of i)) layouts ∙ by i where
    by : (j : ℕ) → fields_in in_control.layouts (c.type_of j) ≡ fields_in scope.layouts (c.type_of j)
    by zero = refl
    by (suc zero) = refl
    by (suc (suc j)) = refl

  declares_here : Declares c s
  declares_here =
      let d = sees.declares in
      record {
        differ = d.differ;
        apart = d.apart;
        rooted = d.rooted;
        copied = d.copied;
        numbered = d.numbered;
        stored = d.stored;
        shape = d.shape;
        named = λ x is. same_named x is ∙ d.named x is;
        instance = λ i lt is. ap (λ fs. field_kind_in fs (name_of (shown_in c i))) (root_fields (owner_of (shown_in c i))) ∙ d.instance i lt is;
        field = λ i k lt is at. ap (λ fs. field_kind_in fs (field_at (fields_of (shown_in c i)) k).called) (type_fields i) ∙ d.field i k lt is at;
        standard_is = d.standard_is;
        standard = λ which is. ap (λ fs. field_kind_in fs (standard_word which)) (root_fields of_standard) ∙ d.standard which is;
        error = λ is. ap (λ fs. field_kind_in fs (codes "parser_error")) (root_fields of_standard) ∙ d.error is;
        checksum = λ is. ap (λ fs. field_kind_in fs (codes "checksum_error")) (root_fields of_standard) ∙ d.checksum is;
      }

  sees_control : Sees c s []
  sees_control = record { declares = declares_here; locals = λ j lt. absurd (omega (arith, lt)); distinct = λ j k lt. absurd (omega (arith, lt)); apart = λ x is j lt. absurd (omega (arith, lt)) }

  sees_action : sort_of s (codes "p") ≡ a_value (bits 8) false → Sees c s locals
  sees_action is = record { declares = declares_here; locals = there; distinct = sees.distinct; apart = sees.apart } where
    there : (j : ℕ) → j < length locals → (can : Bool) × (sort_of s (local_at locals j).called ≡ a_value (local_at locals j).kind can)
    there zero lt = (false, is)
    there (suc j) lt = absurd (omega (arith, lt))

roots_here : (o : Owner) → sort_of in_control (c.root o) ≡ sort_of scope (c.root o)
roots_here of_headers = refl
roots_here of_metadata = refl
roots_here o = refl

copies_here : (o : Owner) → sort_of in_control (c.copy o) ≡ sort_of scope (c.copy o)
copies_here of_headers = refl
copies_here of_metadata = refl
copies_here o = refl

control_sees : Sees c in_control []
control_sees = sees_control in_control refl roots_here copies_here refl refl (refl, (refl, (refl, (refl, (refl, (refl, (refl, (refl, (refl, tt))))))))) (refl, (refl, (refl, (refl, tt))))

module _ (part : ScopePart) where
  abbrev of_part : Scope
  of_part = record (in_its_action action_a) { part = part }

  roots_in : (o : Owner) → sort_of of_part (c.root o) ≡ sort_of scope (c.root o)
  roots_in of_headers = refl
  roots_in of_metadata = refl
  roots_in o = refl

  copies_in : (o : Owner) → sort_of of_part (c.copy o) ≡ sort_of scope (c.copy o)
  copies_in of_headers = refl
  copies_in of_metadata = refl
  copies_in o = refl

  action_sees : Sees c of_part locals
  action_sees = sees_action of_part refl roots_in copies_in refl refl (refl, (refl, (refl, (refl, (refl, (refl, (refl, (refl, (refl, tt))))))))) (refl, (refl, (refl, (refl, tt)))) refl

-- parts

given : HasParameters c locals
given zero lt = record { place = 0; within = omega arith; stands = refl }
given (suc j) lt = absurd (omega (arith, lt))

abbrev scope_a : Scope
scope_a = in_its_action action_a

sees_a : Sees c scope_a locals
sees_a = action_sees (in_action (codes "a"))

a_part : Part scope_a scope_a [] 0 a_body
a_part =
    part_then (part_then (part_then part_none (part_count_entry (codes "a") refl refl refl refl)) (part_copied c scope_a locals sees_a of_headers refl copies))
    (part_if (sound_valid {type = codes "h_t"} (sound_part c scope_a locals sees_a entry copies (record { instance = 0; element = 0 }) (omega arith, omega arith, refl))) (omega arith)
    (part_put (sound_slot c scope_a locals sees_a now tt (declared 0 0 0) (omega arith, omega arith, refl, omega arith))
    (sound_pair Add refl
    (sound_source c scope_a locals sees_a entry copies given 8 (field (declared 0 0 0)) (omega arith) (omega arith) (omega arith, omega arith, refl, omega arith))
    (sound_source c scope_a locals sees_a entry copies given 8 (parameter 0) (omega arith) (omega arith) (omega arith))) (omega arith) (omega arith)))

a_kept : Keeps (action_uses in_control action_a) []
a_kept = action_kept in_control (codes "a") (codes "a") parameters a_body refl ((omega arith, omega arith), tt) a_part refl (omega arith)

abbrev scope_b : Scope
scope_b = in_its_action action_b

abbrev behind_v : Scope
behind_v = with_variable (Bit (plain 32)) (codes "v0_") scope_b

b_part : Part scope_b behind_v (codes "v0_" ∷ []) 0 b_body
b_part =
    part_then (part_then (part_then part_none (part_variable scope_b 32 (codes "v0_") (omega arith) (omega arith)))
    (part_read refl refl (sound_name behind_v (codes "v0_") (bits 32) true refl) (sound_literal behind_v 32 1 (omega arith)) (omega arith) (omega arith)))
    (part_push (sound_member behind_v (name (codes "hdr")) (struct (codes "H")) true 1 (codes "t") (stack (codes "t_t") 2) (sound_name behind_v (codes "hdr") (struct (codes "H")) true refl) refl refl refl) (omega arith) (omega arith))

b_kept : Keeps (action_uses in_control action_b) []
b_kept = action_kept in_control (codes "b") (codes "b_c0_") parameters b_body refl ((omega arith, omega arith), tt) b_part refl (omega arith)

abbrev in_a_key : Scope
in_a_key = record in_control { part = in_key }

keys_see : Sees c in_a_key []
keys_see = in_keys c in_control [] control_sees

t_keys : Keeps (flat_map (key_uses in_control) (key_q ∷ key_x ∷ [])) []
t_keys =
    behind_kept (key_kept in_control key_q 4 (sits (sound_slot c in_a_key [] keys_see now tt (declared 2 0 0) (omega arith, omega arith, refl, omega arith)) (table_key true) (asks_key 4 true true)) (omega arith) refl)
    (behind_kept (key_kept in_control key_x 5 (sits (sound_pair BitAnd refl (sound_slot c in_a_key [] keys_see now tt (declared 0 0 0) (omega arith, omega arith, refl, omega arith)) (sound_literal in_a_key 8 15 (omega arith))) (table_key false) (asks_key 8 false false)) (omega arith) refl) none_kept)

abbrev listed_a : Listed
listed_a = record { plane = codes "a"; widths = 8 ∷ [] }

abbrev listed_b : Listed
listed_b = record { plane = codes "b"; widths = 8 ∷ [] }

t_kept : Keeps (table_uses in_control (table16 table_t)) []
t_kept = table_kept in_control table_t (listed_a ∷ listed_b ∷ []) (record { keys = t_keys; good = refl; actions = (refl, (refl, tt)); apart = refl; counters = refl; default = record { among = refl; plane = codes "b"; known = refl; values = (omega arith, tt) } })

u_kept : Keeps (table_uses in_control (table16 table_u)) []
u_kept = table_kept in_control table_u (listed_b ∷ []) (record { keys = none_kept; good = refl; actions = (refl, tt); apart = refl; counters = tt; default = tt })

ingress_part : Part in_control in_control [] 2 ingress.body
ingress_part =
    part_then part_none
    (part_if_else (sound_no_error (sound_member in_control (name (codes "sm")) (struct standard_name) true 1 (codes "parser_error") error_code (sound_root c in_control [] control_sees now tt of_standard refl) (control_sees.declares.error refl) refl refl)) (omega arith)
    (part_block (part_then part_none (part_switch refl refl (branch_default (branch refl refl no_branches (part_then part_none (part_apply refl refl)) refl) part_none refl))) refl)
    (part_if_else (table_hit refl refl) (omega arith) (part_block part_none refl) (part_block (part_then part_none (part_drop refl refl (sound_root c in_control [] control_sees now tt of_standard refl) (omega arith))) refl)))

ingress_fits : ControlFits (at_top (decl.Control ingress)) ingress
ingress_fits = record {
  names = refl;
  counters = refl;
  parameters = pipeline_params_kept (at_top (decl.Control ingress)) (codes "H") (codes "M") roots refl refl refl;
  locals = (whole_var_kept in_control (codes "H") (codes "old_hdr") refl, (whole_var_kept in_control (codes "M") (codes "old_meta") refl, (whole_var_kept in_control standard_name (codes "old_sm") refl, (a_kept, (b_kept, (t_kept, (u_kept, tt)))))));
  deep = 2;
  few = omega arith;
  body = ingress_part;
}

-- the parser

abbrev in_states : Scope
in_states = parser_scope (at_top (decl.Parser the_parser)) the_parser

in_headers : Sound in_states (name (codes "hdr")) (struct (codes "H")) true 1
in_headers = sound_name in_states (codes "hdr") (struct (codes "H")) true refl

in_h : Sound in_states (member (name (codes "hdr")) (codes "h")) (header (codes "h_t")) true 2
in_h = sound_member in_states (name (codes "hdr")) (struct (codes "H")) true 1 (codes "h") (header (codes "h_t")) in_headers refl refl refl

in_packet : Sound in_states (name (codes "packet")) packet_in false 1
in_packet = sound_name in_states (codes "packet") packet_in false refl

start_kept : Keeps (state_uses in_states start) []
start_kept =
    state_kept in_states start (part_then part_none (part_extract in_packet in_h refl (omega arith) (omega arith))) (omega arith)
    (transition_select in_states start_cases (sound_member in_states (member (name (codes "hdr")) (codes "h")) (header (codes "h_t")) true 2 (codes "x") (bits 8) in_h refl refl refl) (omega arith)
    (case_value in_states 8 1 (target_of.State (codes "more")) (omega arith) (target_state in_states (codes "more") refl), (case_mask in_states 8 2 3 (target_of.State (codes "more")) (omega arith) (omega arith) (target_state in_states (codes "more") refl), (case_default in_states 8 target_of.Accept (target_accept in_states), tt))))

more_kept : Keeps (state_uses in_states more) []
more_kept =
    state_kept in_states more (part_then part_none (part_extract in_packet (sound_next {size = 2} (sound_member in_states (name (codes "hdr")) (struct (codes "H")) true 1 (codes "t") (stack (codes "t_t") 2) in_headers refl refl refl) refl) refl (omega arith) (omega arith))) (omega arith)
    (transition_go in_states target_of.Accept (target_accept in_states))

no_edges : (a b : ℕ) → IsEdge (idle_graph the_parser) a b → ⊥
no_edges zero b e = e
no_edges (suc zero) b e = e
no_edges (suc (suc zero)) b e = e
no_edges (suc (suc (suc a))) b e = e

parser_fits : ParserFits (at_top (decl.Parser the_parser)) the_parser
parser_fits = record {
  names = refl;
  parameters = parser_params_kept (at_top (decl.Parser the_parser)) (codes "H") (codes "M") roots refl refl refl refl;
  bare = refl;
  states = (start_kept, (more_kept, tt));
  start = refl;
  acyclic = falling (idle_graph the_parser) (λ a b e. absurd (no_edges a b e));
}

-- the other controls

abbrev in_verify : Scope
in_verify = control_scope (at_top (decl.Control verify)) verify

verify_fits : ControlFits (at_top (decl.Control verify)) verify
verify_fits =
    let h = sound_member in_verify (name (codes "hdr")) (struct (codes "H")) true 1 (codes "h") (header (codes "h_t")) (sound_name in_verify (codes "hdr") (struct (codes "H")) true refl) refl refl refl in
    record {
      names = refl;
      counters = refl;
      parameters = checksum_params_kept (at_top (decl.Control verify)) (codes "H") (codes "M") roots refl refl;
      locals = tt;
      deep = 0;
      few = omega arith;
      body = part_then part_none (part_verify refl refl refl refl refl (sound_valid h)
          (more_given (more_given none_given refl (sits (sound_member in_verify _ (header (codes "h_t")) true 2 (codes "x") (bits 8) h refl refl refl) any_bits (asks_any 8 true))) refl (sits (sound_literal in_verify 4 9 (omega arith)) any_bits (asks_any 4 false)))
          (sound_member in_verify _ (header (codes "h_t")) true 2 (codes "y") (bits 16) h refl refl refl) (omega arith) (omega arith) (omega arith));
    }

egress_fits : ControlFits (at_top (decl.Control egress)) egress
egress_fits = record { names = refl; counters = refl; parameters = pipeline_params_kept (at_top (decl.Control egress)) (codes "H") (codes "M") roots refl refl refl; locals = tt; deep = 0; few = omega arith; body = part_none }

compute_fits : ControlFits (at_top (decl.Control compute)) compute
compute_fits = record { names = refl; counters = refl; parameters = checksum_params_kept (at_top (decl.Control compute)) (codes "H") (codes "M") roots refl refl; locals = tt; deep = 0; few = omega arith; body = part_none }

abbrev in_deparser : Scope
in_deparser = control_scope (at_top (decl.Control deparser)) deparser

deparser_fits : ControlFits (at_top (decl.Control deparser)) deparser
deparser_fits = record {
  names = refl;
  counters = refl;
  parameters = deparser_params_kept (at_top (decl.Control deparser)) (codes "H") roots refl refl;
  locals = tt;
  deep = 0;
  few = omega arith;
  body = part_then part_none (part_emit (sound_name in_deparser (codes "packet") packet_out false refl) (record { opens = refl; takes_it = refl; writes = refl }) (sound_member in_deparser (name (codes "hdr")) (struct (codes "H")) false 1 (codes "t") (stack (codes "t_t") 2) (sound_name in_deparser (codes "hdr") (struct (codes "H")) false refl) refl refl refl) refl (omega arith) (omega arith));
}

-- the whole

abbrev held : Decl16 → List Kind
held (decl.Control x) = control_held x
held d = []

bare : (d : Decl16) → Keeps (declaration_uses (at_top d) d) [] → (ParserBreaks d → ⊥) → (HasCallCycle (at_top d) d → ⊥) → DeclarationKeeps (at_top d) d []
bare d k states calls = record { keeps = k; states = states; calls = calls }

h_t_keeps : DeclarationKeeps (at_top decl_h_t) decl_h_t []
h_t_keeps = bare decl_h_t (header_kept (codes "h_t") fields_h (record { differ = refl; widths = ((omega arith, omega arith), ((omega arith, omega arith), tt)); some = omega arith; octets = refl })) (λ x. x) (λ x. x)

t_t_keeps : DeclarationKeeps (at_top decl_t_t) decl_t_t []
t_t_keeps = bare decl_t_t (header_kept (codes "t_t") fields_t (record { differ = refl; widths = ((omega arith, omega arith), tt); some = omega arith; octets = refl })) (λ x. x) (λ x. x)

m_t_keeps : DeclarationKeeps (at_top decl_m_t) decl_m_t []
m_t_keeps = bare decl_m_t (metadata_kept (at_top decl_m_t) (codes "m_t") fields_m refl ((omega arith, omega arith), tt)) (λ x. x) (λ x. x)

H_keeps : DeclarationKeeps (at_top decl_H) decl_H []
H_keeps = bare decl_H (members_kept (at_top decl_H) (codes "H") members_H refl (inl refl, ((refl, omega arith, omega arith), tt))) (λ x. x) (λ x. x)

M_keeps : DeclarationKeeps (at_top decl_M) decl_M []
M_keeps = bare decl_M (members_kept (at_top decl_M) (codes "M") members_M refl (inr refl, tt)) (λ x. x) (λ x. x)

r_keeps : DeclarationKeeps (at_top decl_r) decl_r []
r_keeps = bare decl_r (register_kept (at_top decl_r) (named (codes "r")) 32 4 (codes "r") none_kept (omega arith) (omega arith) (omega arith)) (λ x. x) (λ x. x)

v_keeps : DeclarationKeeps (at_top decl_v) decl_v []
v_keeps = bare decl_v (meter_kept (at_top decl_v) (named (codes "v")) MeterPackets 2 (codes "v") none_kept (omega arith)) (λ x. x) (λ x. x)

d_keeps : DeclarationKeeps (at_top decl_d) decl_d []
d_keeps = bare decl_d (direct_counter_kept (at_top decl_d) (named (codes "d")) Packets (codes "d") none_kept) (λ x. x) (λ x. x)

all_keep : AllByRecursion (EachKeeps program held) decls
all_keep = (h_t_keeps, (t_t_keeps, (m_t_keeps, (H_keeps, (M_keeps, (r_keeps, (d_keeps, (v_keeps, (parser_kept (at_top (decl.Parser the_parser)) the_parser parser_fits, (control_kept (at_top (decl.Control verify)) verify verify_fits, (control_kept (at_top (decl.Control ingress)) ingress ingress_fits, (control_kept (at_top (decl.Control egress)) egress egress_fits, (control_kept (at_top (decl.Control compute)) compute compute_fits, (control_kept (at_top (decl.Control deparser)) deparser deparser_fits, tt))))))))))))))

keeps : ProgramKeeps program (codes "H") (codes "M") held
keeps = record {
  each = all_keep;
  names = refl;
  ordered = (refl, (refl, (refl, (refl, (refl, (refl, (refl, (refl, (refl, (refl, (refl, (refl, (refl, (refl, tt))))))))))))));
  tables = refl;
  objects = refl;
  counters = refl;
  main = record {
    roots = roots;
    parser = the_parser;
    in_it = record { before = take 8 decls; after = drop 9 decls; is = refl };
    handed = refl;
    verify = codes "V";
    ingress = codes "I";
    egress = codes "E";
    compute = codes "C";
    deparser = codes "D";
    main = refl;
    verifies = record { control = verify; in_it = record { before = take 9 decls; after = drop 10 decls; is = refl }; named = refl; handed = refl };
    ingresses = record { control = ingress; in_it = record { before = take 10 decls; after = drop 11 decls; is = refl }; named = refl; handed = refl };
    egresses = record { control = egress; in_it = record { before = take 11 decls; after = drop 12 decls; is = refl }; named = refl; handed = refl };
    computes = record { control = compute; in_it = record { before = take 12 decls; after = drop 13 decls; is = refl }; named = refl; handed = refl };
    deparses = record { control = deparser; in_it = record { before = take 13 decls; after = drop 14 decls; is = refl }; named = refl; handed = refl };
    headers = refl;
    metadata = refl;
    of_headers = refl;
    of_bits = refl;
  };
  fields = omega arith;
  octets = omega arith;
  held_fields = omega arith;
  held_octets = omega arith;
  cells = ((omega arith, omega arith), ((omega arith, omega arith), tt));
  all_cells = omega arith;
}

pub sample_breaks_none : BreaksNone program program_rules
sample_breaks_none = program_breaks_none program (codes "H") (codes "M") held keeps

-- each name and number is as is asked

h_t_spelt : SpeltDecl decl_h_t
h_t_spelt = (refl, ((refl, refl), ((refl, refl), tt)))

t_t_spelt : SpeltDecl decl_t_t
t_t_spelt = (refl, ((refl, refl), tt))

m_t_spelt : SpeltDecl decl_m_t
m_t_spelt = (refl, (((((refl, (refl, (refl, tt))), tt), refl), refl, refl), tt))

H_spelt : SpeltDecl decl_H
H_spelt = (refl, (((tt, refl), refl, refl), (((tt, refl), (refl, refl), refl), tt)))

M_spelt : SpeltDecl decl_M
M_spelt = (refl, (((tt, refl), refl, refl), tt))

r_spelt : SpeltDecl decl_r
r_spelt = (((refl, tt), refl), (refl, refl, refl))

v_spelt : SpeltDecl decl_v
v_spelt = (((refl, tt), refl), (refl, refl))

d_spelt : SpeltDecl decl_d
d_spelt = (((refl, tt), refl), refl)

the_parser_spelt : SpeltDecl (decl.Parser the_parser)
the_parser_spelt = (refl, refl, ((refl, refl), ((refl, refl), ((refl, refl), ((refl, refl), tt)))), tt, ((refl, (tt, (((refl, refl), (tt, (refl, refl))), refl)), (refl, (((refl, refl), refl), tt), ((refl, refl), (((refl, refl), refl), ((tt, tt), tt))))), ((refl, (tt, (((refl, refl), (tt, ((refl, refl), refl))), refl)), tt), tt)))

verify_spelt : SpeltDecl (decl.Control verify)
verify_spelt = (refl, refl, ((refl, refl), ((refl, refl), tt)), tt, (tt, ((refl, ((((tt, (((refl, refl), refl), tt)), (refl, ((tt, ((refl, refl), refl)), refl))), ((refl, refl), refl)), (refl, refl))), refl)))

ingress_spelt : SpeltDecl (decl.Control ingress)
ingress_spelt = (refl, refl, ((refl, refl), ((refl, refl), ((refl, refl), tt))), ((refl, refl, refl), ((refl, refl, refl), ((refl, refl, refl), ((((refl, tt), refl), refl, ((refl, refl), tt), (((tt, (((refl, refl), tt), refl)), (refl, refl)), ((((refl, refl), refl), tt), (((refl, refl), refl), (((refl, refl), refl), refl))))), ((((refl, tt), refl), refl, ((refl, refl), tt), (((tt, (refl, refl)), (((refl, refl), ((tt, refl), refl)), refl)), ((((refl, refl), refl), (tt, refl)), refl))), ((((refl, tt), refl), refl, (((((refl, refl), refl), refl, (tt, refl)), (((((refl, refl), refl), refl), refl, ((refl, tt), refl)), tt)), ((refl, (refl, (refl, tt))), (refl, (refl, ((refl, (tt, refl)), tt))))), refl), ((((refl, tt), refl), refl, ((refl, (refl, tt)), tt), refl), tt))))))), (tt, (((refl, refl), (tt, refl)), (tt, (refl, ((tt, refl, (tt, (((refl, refl), tt), refl))), tt, tt))), refl, ((((refl, refl), tt), refl), tt, refl, (tt, ((refl, (tt, refl)), refl))))))

egress_spelt : SpeltDecl (decl.Control egress)
egress_spelt = (refl, refl, ((refl, refl), ((refl, refl), ((refl, refl), tt))), tt, tt)

compute_spelt : SpeltDecl (decl.Control compute)
compute_spelt = (refl, refl, ((refl, refl), ((refl, refl), tt)), tt, tt)

deparser_spelt : SpeltDecl (decl.Control deparser)
deparser_spelt = (refl, refl, ((refl, refl), ((refl, refl), tt)), tt, (tt, (((refl, refl), (tt, (refl, refl))), refl)))

spelt : SpeltProgram program
spelt = record { decls = (h_t_spelt, (t_t_spelt, (m_t_spelt, (H_spelt, (M_spelt, (r_spelt, (d_spelt, (v_spelt, (the_parser_spelt, (verify_spelt, (ingress_spelt, (egress_spelt, (compute_spelt, (deparser_spelt, tt)))))))))))))); some = refl; main = (refl, (refl, (refl, (refl, (refl, (refl, tt)))))) }

pub sample_spelt : is_spelt16 program ≡ true
sample_spelt = program_spelt program spelt
