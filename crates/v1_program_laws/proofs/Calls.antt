-- Calls in a parser.
use Rattle.std.proofs.Common.{◌≡◌, ℕ, ◌&&◌, not, nat_eq, Bool, true, false, cond, Option, Some, None, IfSome, List, [], ◌∷◌, length, refl, sym, ap, ◌∙◌, subst}
use Rattle.std.specs.Prelude.{option_map, option_and_then, codes}
use Rattle.std.specs.List.{list_any}
use Rattle.std.specs.Option.{option_map_or}
use Rattle.std.specs.Str.{bytes_eq}
use Rattle.p416_syntax.specs.Tree.{Exp16, literal, truth, error, name, member, index, slice, call, lookahead, cast, unary, binary, choice, parenthesized, no_arguments, argument, listed, expression}
use Rattle.p416_syntax.specs.Names.{Name}
use Rattle.p416_syntax.specs.Kinds.{ObjectKind, counter, direct_counter, register, meter, Kind, bits, unsized, boolean, error_code, header, stack, struct, packet_in, packet_out, errors, enumeration, one_of, table, applied, object, items, nothing, unknown, is_header}
use Rattle.p416_syntax.specs.Scopes.{Sort, a_type, a_value, an_enumeration, a_function, an_object, an_action, a_table, a_state, a_block, undeclared, Scope, sort_of}
use Rattle.p416_syntax.specs.Calls.{Place, literal_of, parser_position, verify_position, ingress_position, egress_position, compute_position, deparser_position, index_place, in_pipelines, written_bits, any_bits, emitted, written_header, statement, callee, owner, unasked, Signature, extern_at, counts_by_entry, method, function_signature, method_signature}
use Rattle.p416_syntax.specs.Expressions.{kind_of, sort_signature, signature_of, argument_count}
use Rattle.p416_syntax.specs.Uses.{Use, an_expression, owner_by, wanted_by, uses_at, uses, many, arguments_of}
use Rattle.p416_syntax.specs.Types.{is_mistyped}
use Rattle.p416_syntax.specs.Literals.{overflows}
use Rattle.p416_syntax.specs.Arguments.{takes_other_count, is_miscounted}
use Rattle.p416_syntax.specs.Externs.{may_stand, stands_elsewhere, is_some_position, is_outside_block}
use Rattle.p416_syntax.specs.Breaks.{BreaksNone, program_rules}
use Rattle.v1_core.specs.Frames as sem
use Rattle.v1_core.specs.Slots.{variable_kinds}
use Rattle.v1_core.specs.Surroundings as meaning
use Rattle.v1_core.specs.Numbered.{InScope}
use Rattle.v1_core.specs.Expressions.{name_in, value_of}
use Rattle.v1_core.specs.Calls.{call_statement}
use Rattle.v1_core.specs.Cells.{Cells}
use Rattle.v1_core.specs.Scopes.{IsScope}
use Rattle.v1_ready_forms.specs.Named.{NamedSeat, seats_in}
use Rattle.v1_ready_forms.specs.Ways.{its_value}
use Rattle.v1_ready_forms.specs.Expressions.{asked_ready}
use Rattle.v1_ready_laws.specs.Rules.{Keeps}
use Rattle.v1_ready_blocks.specs.declared.places.Range.{Range}
use Rattle.v1_ready_blocks.specs.Moments as blocks
use Rattle.v1_ready_blocks.specs.Moments.{Moment}
use Rattle.v1_ready_blocks.specs.Tests.{World, Test}
use Rattle.v1_ready_blocks.specs.Statements as ready
use Rattle.v1_ready_blocks.specs.Statements.{Deed, let_go, Statement, does}
use Rattle.v1_block_laws.proofs.Tests.{not_false, at_end}
use Rattle.v1_block_laws.proofs.Apart.{body_scope}
use Rattle.v1_block_laws.proofs.Calling.{owner_kept}
use Rattle.v1_ready_statements.specs.Around.{Around, ActionPlace, found_from, action_found, table_found, object_found}
use Rattle.v1_ready_statements.specs.Given.{given_at}
use Rattle.v1_ready_statements.specs.Targets.{fixed_range, range_given}
use Rattle.v1_ready_statements.specs.Tested.{asked_test}
use Rattle.v1_ready_statements.specs.Called.{action_call, number_given, function_deed, register_deed, only_called, method_deed, named_statement, expression_ready}
use Rattle.v1_value_laws.proofs.Taken.{taken}
use Rattle.v1_statement_laws.specs.Behind.{Shown, InContext}
use Rattle.v1_statement_laws.specs.Leaves.{RunsAlike}
use Rattle.v1_statement_laws.proofs.Closing.{ticked_shown, running_is}
use Rattle.v1_statement_laws.proofs.Plain.{let_gone}
use Rattle.v1_statement_laws.proofs.Quiet.{IsPlain, only_plain, no_tables}
use Rattle.v1_statement_laws.proofs.Calls.{header_does}
use Rattle.v1_statement_laws.proofs.Extracts.{extract_does}
use Rattle.v1_program_laws.proofs.Pushing.{stack_called}
use Rattle.v1_program_laws.specs.Rules.{InParser, KeptInParser}
use Rattle.v1_program_laws.proofs.Targets.{own_use}
use Rattle.v1_program_laws.proofs.Arguments.{only_judged, one_given, bits_literal, literal_kind, literal_fits, not_allowed, no_action_part, clones_elsewhere}
use Rattle.v1_program_laws.proofs.Assigns.{keeps}

-- what stands nowhere in a parser isn't called there

abbrev Elsewhere : Scope → Exp16 → Option Signature → Type 0
Elsewhere s given signature = option_map_or (stands_elsewhere s given) signature false ≡ true

not_there : (s : Scope) (given : Exp16) (signature : Signature) → may_stand s given signature.stands ≡ false → stands_elsewhere s given signature ≡ true
not_there s given signature is = ap not is

-- of a choice between signatures by the word, and between deeds by it
flagged : {A : Type 0} (Q : A → Type 0) (s : Scope) (given : Exp16) (t : Bool) (signature : Signature) (rest : Option Signature) (d more : Option A) → may_stand s given signature.stands ≡ false → option_map_or (stands_elsewhere s given) (cond t (Some signature) rest) false ≡ false → (option_map_or (stands_elsewhere s given) rest false ≡ false → IfSome more Q) → IfSome (cond t d more) Q
flagged Q s given true signature rest d more is none further = absurd (cc (sym (not_there s given signature is) ∙ none))
flagged Q s given false signature rest d more is none further = further none

abbrev no_deed : Option Deed
no_deed = None

mapped : (d : Option Deed) (Q : Statement → Type 0) → IfSome d (λ x. Q (does x)) → IfSome (option_map does d) Q
mapped None Q h = tt
mapped (Some x) Q h = h

-- one kind of header
header_kind : (k : Kind) → is_header k ≡ true → (type : Name) × (k ≡ header type)
header_kind (bits width) e = absurd (cc e)
header_kind unsized e = absurd (cc e)
header_kind boolean e = absurd (cc e)
header_kind error_code e = absurd (cc e)
header_kind (header type) e = (type, refl)
header_kind (stack type size) e = absurd (cc e)
header_kind (struct type) e = absurd (cc e)
header_kind packet_in e = absurd (cc e)
header_kind packet_out e = absurd (cc e)
header_kind errors e = absurd (cc e)
header_kind (enumeration enum) e = absurd (cc e)
header_kind (one_of enum) e = absurd (cc e)
header_kind table e = absurd (cc e)
header_kind applied e = absurd (cc e)
header_kind (object obj) e = absurd (cc e)
header_kind items e = absurd (cc e)
header_kind nothing e = absurd (cc e)
header_kind unknown e = absurd (cc e)

module _ (P : Cells → Type 0) (b : Around) (w : meaning.World) (z : World) (from to n : ℕ) (s : Scope) (who : InScope) (accepted : BreaksNone b.syntax program_rules) (at : InContext b.syntax w.around.roots from to n s who) (none : b.locals ≡ []) (no_actions : b.actions ≡ []) where
  abbrev seats : List NamedSeat
  seats = seats_in b.syntax w.around.roots who

  scope : IsScope (length (variable_kinds b.syntax)) who
  scope = body_scope (length (variable_kinds b.syntax)) from to n who at.body

  -- a value that is let go
  let_alike : (e : Exp16) → ((m : sem.Moment) → call_statement w s e m ≡ (value_of w s owner e m).moment) → Keeps s statement e → IfSome (option_map (λ t. does (let_go t)) (asked_test s seats (table_found b) owner its_value e)) (RunsAlike P b w z s who [] (expression e))
  let_alike e leaves kept = by (asked_test s seats (table_found b) owner its_value e) (only_plain s seats (table_found b) (no_tables b none) e owner its_value) where
    gone : (t : Test) → IsPlain (asked_ready s seats owner its_value e) t → RunsAlike P b w z s who [] (expression e) (does (let_go t))
    gone t h ran m k shown runs = record {
      some = [];
      shown =
          subst (λ (y : sem.Moment). Shown P b.syntax who y (ready.run z ran (does (let_go t)) k)) (sym (running_is m.stopped m (call_statement w s e (sem.ticked m)) runs ∙ leaves (sem.ticked m)))
          (subst (λ (y : Moment). Shown P b.syntax who (value_of w s owner e (sem.ticked m)).moment y) (sym (running_is k.stopped k (ready.done z.apply (let_go t) (blocks.ticked k)) (sym shown.shows.stopped ∙ runs)))
          (subst (λ (u : Test). Shown P b.syntax who (value_of w s owner e (sem.ticked m)).moment (ready.done z.apply (let_go u) (blocks.ticked k))) (sym h.1.0)
          (let_gone P b w z s who accepted at.layouts at.seated owner statement its_value e h.0 (λ v. (v, refl)) kept h.1.1 (sem.ticked m) (blocks.ticked k) (ticked_shown P b.syntax who m k shown) runs)));
      all = λ no. refl;
    }

    by : (o : Option Test) → IfSome o (IsPlain (asked_ready s seats owner its_value e)) → IfSome (option_map (λ t. does (let_go t)) o) (RunsAlike P b w z s who [] (expression e))
    by None h = tt
    by (Some t) h = gone t h

  -- a call, of which this is judged
  module _ (given : Exp16) where
    abbrev Alike : Exp16 → Statement → Type 0
    Alike f = RunsAlike P b w z s who [] (expression (call f given))

    -- actions and functions
    no_action : (es : List Exp16) (text : Name) (Q : Statement → Type 0) → IfSome (option_and_then (action_call b s seats es) (action_found b text)) Q
    no_action es text Q = subst (λ (l : List ActionPlace). IfSome (option_and_then (action_call b s seats es) (found_from 0 l text)) Q) (sym no_actions) tt

    no_function : (text : Name) (es : List Exp16) (Q : Deed → Type 0) → InParser s → option_map_or (stands_elsewhere s given) (function_signature text) false ≡ false → IfSome (function_deed b s seats text es) Q
    no_function text es Q within judged =
        flagged Q s given (bytes_eq text (codes "mark_to_drop")) _ _ _ _ (not_allowed s (ingress_position ∷ egress_position ∷ []) within refl) judged (λ j1.
        flagged Q s given (bytes_eq text (codes "hash")) _ _ _ _ (not_allowed s (ingress_position ∷ egress_position ∷ []) within refl) j1 (λ j2.
        flagged Q s given (bytes_eq text (codes "verify_checksum")) _ _ _ _ (not_allowed s (verify_position ∷ []) within refl) j2 (λ j3.
        flagged Q s given (bytes_eq text (codes "verify_checksum_with_payload")) _ _ _ _ (not_allowed s (verify_position ∷ []) within refl) j3 (λ j4.
        flagged Q s given (bytes_eq text (codes "update_checksum")) _ _ _ _ (not_allowed s (compute_position ∷ []) within refl) j4 (λ j5.
        flagged Q s given (bytes_eq text (codes "update_checksum_with_payload")) _ _ _ _ (not_allowed s (compute_position ∷ []) within refl) j5 (λ j6.
        flagged Q s given (bytes_eq text (codes "clone_preserving_field_list")) _ _ _ _ (not_allowed s _ within (clones_elsewhere (arguments_of given))) j6 (λ j7.
        flagged Q s given (bytes_eq text (codes "resubmit_preserving_field_list")) _ _ _ _ (not_allowed s (ingress_position ∷ []) within refl) j7 (λ j8.
        flagged Q s given (bytes_eq text (codes "recirculate_preserving_field_list")) _ _ _ _ (not_allowed s (egress_position ∷ []) within refl) j8 (λ j9.
        tt)))))))))

    named_call : (text : Name) → KeptInParser s statement (call (name text) given) → IfSome (named_statement b s seats (sort_of s text) text (arguments_of given)) (Alike (name text))
    named_call text kept = by (sort_of s text) refl where
      judged : option_map_or (stands_elsewhere s given) (sort_signature (sort_of s text) text) false ≡ false
      judged = own_use is_outside_block s statement (call (name text) given) kept.judged.1.1.1.1.1.1.0

      by : (sort : Sort) → sort_of s text ≡ sort → IfSome (named_statement b s seats sort text (arguments_of given)) (Alike (name text))
      by (an_action plane handed) is = no_action (arguments_of given) text (Alike (name text))
      by a_function is =
          mapped (function_deed b s seats text (arguments_of given)) (Alike (name text))
          (no_function text (arguments_of given) (λ x. Alike (name text) (does x)) kept.within (subst (λ (sort : Sort). option_map_or (stands_elsewhere s given) (sort_signature sort text) false ≡ false) is judged))
      by (a_type k) is = tt
      by (a_value k can) is = tt
      by (an_enumeration of) is = tt
      by (an_object of) is = tt
      by (a_table actions counters) is = tt
      by a_state is = tt
      by a_block is = tt
      by undeclared is = tt

    -- methods
    module _ (e : Exp16) (word : Name) (kept : KeptInParser s statement (call (member e word) given)) where
      whole_call : Exp16
      whole_call = call (member e word) given

      -- T10 of it, T6 of it, and what is judged of its arguments
      stands_here : (k : Kind) → kind_of s e ≡ k → option_map_or (stands_elsewhere s given) (method_signature k word) false ≡ false
      stands_here k is = subst (λ (j : Kind). option_map_or (stands_elsewhere s given) (method_signature j word) false ≡ false) is (own_use is_outside_block s statement (call (member e word) given) kept.judged.1.1.1.1.1.1.0)

      counts : (k : Kind) → kind_of s e ≡ k → option_map_or (takes_other_count (argument_count given)) (method_signature k word) false ≡ false
      counts k is = subst (λ (j : Kind). option_map_or (takes_other_count (argument_count given)) (method_signature j word) false ≡ false) is (own_use is_miscounted s statement (call (member e word) given) kept.judged.1.1.1.1.1.0)

      arguments_judged : (test : Use → Bool) (k : Kind) → kind_of s e ≡ k → list_any test (uses s statement (call (member e word) given)) ≡ false → list_any test (uses_at s (many (wanted_by (method_signature k word)) unasked) given) ≡ false
      arguments_judged test k is judged =
          subst (λ (j : Kind). list_any test (uses_at s (many (wanted_by (method_signature j word)) unasked) given) ≡ false) is
          (at_end test (an_expression s statement (call (member e word) given) ∷ uses s callee (member e word)) (uses_at s (many (wanted_by (signature_of s (member e word))) unasked) given) judged)

      -- a signature that wants one argument
      one_wanted : (p : Place) (signature : Signature) → signature.wanted ≡ p ∷ [] → option_map_or (takes_other_count (argument_count given)) (Some signature) false ≡ false → (f : Exp16) × (arguments_of given ≡ f ∷ [])
      one_wanted p signature wants judged = one_given given (not_false (nat_eq 1 (argument_count given)) (ap (λ (l : List Place). not (nat_eq (length l) (argument_count given))) (sym wants) ∙ judged))

      deed_none : (k : Kind) → IfSome (option_map does (method_deed b s seats k e word (arguments_of given))) (Alike (member e word)) → kind_of s e ≡ k → IfSome (expression_ready b s seats (call (member e word) given)) (Alike (member e word))
      deed_none k h is = subst (λ (j : Kind). IfSome (option_map does (method_deed b s seats j e word (arguments_of given))) (Alike (member e word))) (sym is) h

      only_none : (known : Name) (d : Option Deed) → bytes_eq word known ≡ false → IfSome (option_map does (only_called known word d)) (Alike (member e word))
      only_none known d is = subst (λ (t : Bool). IfSome (option_map does (cond t d None)) (Alike (member e word))) (sym is) tt

      -- what stands at other places of `main` alone
      only_elsewhere : (known : Name) (signature : Signature) (d : Option Deed) → may_stand s given signature.stands ≡ false → option_map_or (stands_elsewhere s given) (cond (bytes_eq word known) (Some signature) None) false ≡ false → IfSome (option_map does (only_called known word d)) (Alike (member e word))
      only_elsewhere known signature d is judged =
          mapped (only_called known word d) (Alike (member e word))
          (flagged (λ x. Alike (member e word) (does x)) s given (bytes_eq word known) signature None d None is judged (λ j. tt))

      stacks : (type : Name) (size : ℕ) → kind_of s e ≡ stack type size → IfSome (expression_ready b s seats (call (member e word) given)) (Alike (member e word))
      stacks type size is = by (bytes_eq word (codes "push_front")) (bytes_eq word (codes "pop_front")) refl refl where
        wants_literal : Signature
        wants_literal = method true (literal_of (bits 32) ∷ []) nothing

        with_one : method_signature (stack type size) word ≡ Some (method true (literal_of (bits 32) ∷ []) nothing) → IfSome (expression_ready b s seats (call (member e word) given)) (Alike (member e word))
        with_one signature =
            let f = one_wanted (literal_of (bits 32)) (method true (literal_of (bits 32) ∷ []) nothing) refl (subst (λ (o : Option Signature). option_map_or (takes_other_count (argument_count given)) o false ≡ false) signature (counts (stack type size) is)) in
            let types : list_any is_mistyped (uses s (literal_of (bits 32)) f.0) ≡ false =
            only_judged is_mistyped s (literal_of (bits 32)) [] given f.0 f.1 (subst (λ (o : Option Signature). list_any is_mistyped (uses_at s (many (wanted_by o) unasked) given) ≡ false) signature (arguments_judged is_mistyped (stack type size) is kept.judged.1.1.0)) in
            let sizes : list_any overflows (uses s (literal_of (bits 32)) f.0) ≡ false =
            only_judged overflows s (literal_of (bits 32)) [] given f.0 f.1 (subst (λ (o : Option Signature). list_any overflows (uses_at s (many (wanted_by o) unasked) given) ≡ false) signature (arguments_judged overflows (stack type size) is kept.judged.1.1.1.0)) in
            let n = bits_literal f.0 (kind_of s f.0) 32 (taken s (literal_of (bits 32)) f.0 types) (literal_kind s f.0) in
            let fits = literal_fits n.0 (own_use overflows s (literal_of (bits 32)) (literal n.0) (subst (λ (x : Exp16). list_any overflows (uses s (literal_of (bits 32)) x) ≡ false) n.1 sizes)) in
            stack_called P b w z s who accepted at.layouts at.seated at.fine scope e given type word size n.0 is (f.1 ∙ ap (λ (x : Exp16). x ∷ []) n.1) fits

        no_word : bytes_eq word (codes "push_front") ≡ false → bytes_eq word (codes "pop_front") ≡ false → (o : Option Range) → IfSome (option_map does (option_and_then (λ r. cond (bytes_eq word (codes "push_front")) (Some (ready.push_front r (number_given (given_at (arguments_of given) 0)))) (cond (bytes_eq word (codes "pop_front")) (Some (ready.pop_front r (number_given (given_at (arguments_of given) 0)))) None)) o)) (Alike (member e word))
        no_word x y None = tt
        no_word x y (Some r) =
            subst (λ (t : Bool). IfSome (option_map does (cond t (Some (ready.push_front r (number_given (given_at (arguments_of given) 0)))) (cond (bytes_eq word (codes "pop_front")) (Some (ready.pop_front r (number_given (given_at (arguments_of given) 0)))) None))) (Alike (member e word))) (sym x)
            (subst (λ (t : Bool). IfSome (option_map does (cond t (Some (ready.pop_front r (number_given (given_at (arguments_of given) 0)))) None)) (Alike (member e word))) (sym y) tt)

        by : (t u : Bool) → bytes_eq word (codes "push_front") ≡ t → bytes_eq word (codes "pop_front") ≡ u → IfSome (expression_ready b s seats (call (member e word) given)) (Alike (member e word))
        by true u x y = with_one (ap (λ (p : Bool). cond p (Some (method true (literal_of (bits 32) ∷ []) nothing)) (cond (bytes_eq word (codes "pop_front")) (Some (method true (literal_of (bits 32) ∷ []) nothing)) None)) x)
        by false true x y = with_one (ap (λ (p : Bool). cond p (Some (method true (literal_of (bits 32) ∷ []) nothing)) (cond (bytes_eq word (codes "pop_front")) (Some (method true (literal_of (bits 32) ∷ []) nothing)) None)) x ∙ ap (λ (p : Bool). cond p (Some (method true (literal_of (bits 32) ∷ []) nothing)) None) y)
        by false false x y = deed_none (stack type size) (no_word x y (option_and_then fixed_range (range_given s seats e))) is

      extracts : kind_of s e ≡ packet_in → IfSome (expression_ready b s seats (call (member e word) given)) (Alike (member e word))
      extracts is = by (bytes_eq word (codes "extract")) refl where
        by : (t : Bool) → bytes_eq word (codes "extract") ≡ t → IfSome (expression_ready b s seats (call (member e word) given)) (Alike (member e word))
        by false x = deed_none packet_in (only_none (codes "extract") (option_map ready.extract_header (range_given s seats (given_at (arguments_of given) 0))) x) is
        by true x =
            let signature : method_signature packet_in word ≡ Some (extern_at (parser_position ∷ []) (written_header ∷ [])) = ap (λ (p : Bool). cond p (Some (extern_at (parser_position ∷ []) (written_header ∷ []))) None) x in
            let f = one_wanted written_header (extern_at (parser_position ∷ []) (written_header ∷ [])) refl (subst (λ (o : Option Signature). option_map_or (takes_other_count (argument_count given)) o false ≡ false) signature (counts packet_in is)) in
            let types : list_any is_mistyped (uses s written_header f.0) ≡ false =
            only_judged is_mistyped s written_header [] given f.0 f.1 (subst (λ (o : Option Signature). list_any is_mistyped (uses_at s (many (wanted_by o) unasked) given) ≡ false) signature (arguments_judged is_mistyped packet_in is kept.judged.1.1.0)) in
            let headed = header_kind (kind_of s f.0) (taken s written_header f.0 types) in
            extract_does P b w z s who accepted at.layouts at.seated at.fine scope e given f.0 headed.0 word is f.1 headed.1

      objects : (k : ObjectKind) → kind_of s e ≡ object k → IfSome (expression_ready b s seats (call (member e word) given)) (Alike (member e word))
      objects k is = deed_none (object k) (by k (stands_here (object k) is)) is where
        by : (k : ObjectKind) → option_map_or (stands_elsewhere s given) (method_signature (object k) word) false ≡ false → IfSome (option_map does (method_deed b s seats (object k) e word (arguments_of given))) (Alike (member e word))
        by counter judged = only_elsewhere (codes "count") (in_pipelines (index_place ∷ [])) _ (not_allowed s (ingress_position ∷ egress_position ∷ []) kept.within refl) judged
        by direct_counter judged = only_elsewhere (codes "count") counts_by_entry _ (ap (λ (t : Bool). is_some_position s.positions && t) (no_action_part s.part kept.within.part) ∙ never (is_some_position s.positions)) judged where
          never : (t : Bool) → (t && false) ≡ false
          never true = refl
          never false = refl
        by register judged =
            mapped (register_deed b s seats word (object_found b e) (arguments_of given)) (Alike (member e word))
            (flagged (λ x. Alike (member e word) (does x)) s given (bytes_eq word (codes "read")) (in_pipelines (written_bits ∷ index_place ∷ [])) _ _ _ (not_allowed s (ingress_position ∷ egress_position ∷ []) kept.within refl) judged (λ j.
            flagged (λ x. Alike (member e word) (does x)) s given (bytes_eq word (codes "write")) (in_pipelines (index_place ∷ any_bits ∷ [])) None _ None (not_allowed s (ingress_position ∷ egress_position ∷ []) kept.within refl) j (λ i. tt)))
        by meter judged = only_elsewhere (codes "execute_meter") (in_pipelines (index_place ∷ written_bits ∷ [])) _ (not_allowed s (ingress_position ∷ egress_position ∷ []) kept.within refl) judged

      no_table : kind_of s e ≡ table → IfSome (expression_ready b s seats (call (member e word) given)) (Alike (member e word))
      no_table is =
          deed_none table
          (subst (λ (o : Option ℕ). IfSome (option_map does (only_called (codes "apply") word (option_map ready.apply o))) (Alike (member e word))) (sym (no_tables b none (name_in e)))
          (by (bytes_eq word (codes "apply")))) is where
            by : (t : Bool) → IfSome (option_map does (cond t no_deed no_deed)) (Alike (member e word))
            by true = tt
            by false = tt

      method_call : (k : Kind) → kind_of s e ≡ k → IfSome (expression_ready b s seats (call (member e word) given)) (Alike (member e word))
      method_call (bits width) is = deed_none (bits width) tt is
      method_call unsized is = deed_none unsized tt is
      method_call boolean is = deed_none boolean tt is
      method_call error_code is = deed_none error_code tt is
      method_call (header type) is = header_does P b w z s who accepted at.layouts at.seated at.fine scope e given type word (owner_by (method_signature (kind_of s e) word)) is (owner_kept s statement e given word (keeps s statement (call (member e word) given) kept)) (no_tables b none)
      method_call (stack type size) is = stacks type size is
      method_call (struct type) is = deed_none (struct type) tt is
      method_call packet_in is = extracts is
      method_call packet_out is = deed_none packet_out (only_elsewhere (codes "emit") (extern_at (deparser_position ∷ []) (emitted ∷ [])) _ (not_allowed s (deparser_position ∷ []) kept.within refl) (stands_here packet_out is)) is
      method_call errors is = deed_none errors tt is
      method_call (enumeration enum) is = deed_none (enumeration enum) tt is
      method_call (one_of enum) is = deed_none (one_of enum) tt is
      method_call table is = no_table is
      method_call applied is = deed_none applied tt is
      method_call (object obj) is = objects obj is
      method_call items is = deed_none items tt is
      method_call nothing is = deed_none nothing tt is
      method_call unknown is = deed_none unknown tt is

    called : (f : Exp16) → KeptInParser s statement (call f given) → IfSome (expression_ready b s seats (call f given)) (Alike f)
    called (name text) kept = named_call text kept
    called (member e word) kept = method_call e word kept (kind_of s e) refl
    called (literal n) kept = tt
    called (truth holds) kept = tt
    called error kept = tt
    called (index e at_literal) kept = tt
    called (slice e high low) kept = tt
    called (call e more) kept = tt
    called (lookahead e to more) kept = tt
    called (cast to e) kept = tt
    called (unary operator e) kept = tt
    called (binary operator a d) kept = tt
    called (choice c a d) kept = tt
    called (parenthesized e) kept = tt
    called no_arguments kept = tt
    called (argument before last) kept = tt
    called (listed es) kept = tt

  pub calls : (e : Exp16) → KeptInParser s statement e → IfSome (expression_ready b s seats e) (RunsAlike P b w z s who [] (expression e))
  calls (call f given) kept = called given f kept
  calls (literal n) kept = let_alike (literal n) (λ m. refl) (keeps s statement (literal n) kept)
  calls (truth holds) kept = let_alike (truth holds) (λ m. refl) (keeps s statement (truth holds) kept)
  calls error kept = let_alike error (λ m. refl) (keeps s statement error kept)
  calls (name text) kept = let_alike (name text) (λ m. refl) (keeps s statement (name text) kept)
  calls (member e word) kept = let_alike (member e word) (λ m. refl) (keeps s statement (member e word) kept)
  calls (index e at_literal) kept = let_alike (index e at_literal) (λ m. refl) (keeps s statement (index e at_literal) kept)
  calls (slice e high low) kept = let_alike (slice e high low) (λ m. refl) (keeps s statement (slice e high low) kept)
  calls (lookahead e to more) kept = let_alike (lookahead e to more) (λ m. refl) (keeps s statement (lookahead e to more) kept)
  calls (cast to e) kept = let_alike (cast to e) (λ m. refl) (keeps s statement (cast to e) kept)
  calls (unary operator e) kept = let_alike (unary operator e) (λ m. refl) (keeps s statement (unary operator e) kept)
  calls (binary operator a d) kept = let_alike (binary operator a d) (λ m. refl) (keeps s statement (binary operator a d) kept)
  calls (choice c a d) kept = let_alike (choice c a d) (λ m. refl) (keeps s statement (choice c a d) kept)
  calls (parenthesized e) kept = let_alike (parenthesized e) (λ m. refl) (keeps s statement (parenthesized e) kept)
  calls no_arguments kept = let_alike no_arguments (λ m. refl) (keeps s statement no_arguments kept)
  calls (argument before last) kept = let_alike (argument before last) (λ m. refl) (keeps s statement (argument before last) kept)
  calls (listed es) kept = let_alike (listed es) (λ m. refl) (keeps s statement (listed es) kept)
