-- Scopes within controls.
use Rattle.std.proofs.Common.{◌≡◌, ℕ, ◌&&◌, not, Bool, true, false, cond, is_some, is_none, Option, Some, None, List, [], ◌∷◌, ◌++◌, map, refl, sym, ap, ◌∙◌, subst, append_assoc}
use Rattle.std.specs.Prelude.{codes}
use Rattle.std.specs.List.{list_any}
use Rattle.std.specs.Str.{bytes_eq}
use Rattle.std.proofs.lemmas.Slice.Eq.{bytes_eq-Decides}
use Rattle.p416_syntax.specs.declared.controls.Instance.{Instance}
use Rattle.p416_syntax.specs.declared.controls.Instance.TheVariants as instance
use Rattle.p416_syntax.specs.declared.parts.Param.{Param}
use Rattle.p416_syntax.specs.declared.controls.Local.{Local}
use Rattle.p416_syntax.specs.declared.controls.Local.TheVariants as local
use Rattle.p416_syntax.specs.declared.controls.Control16.{Control16}
use Rattle.p416_syntax.specs.declared.program.Decl16.{Decl16}
use Rattle.p416_syntax.specs.declared.program.Decl16.TheVariants as decl
use Rattle.p416_syntax.specs.Tree.{Exp16, literal, truth, error, name, member, index, slice, call, lookahead, cast, unary, binary, choice, parenthesized, no_arguments, argument, listed, Stmt16, no_statements, then, block as block_of, empty, var, var_is, assign, expression, if_then, if_else, switch, no_cases, case_of}
use Rattle.p416_syntax.specs.Names.{Name}
use Rattle.p416_syntax.specs.Kinds.{Kind, packet_in, packet_out, hash_algorithm, counter_type, meter_type, clone_type, is_plain}
use Rattle.p416_syntax.specs.Scopes.{Sort, a_type, a_value, an_enumeration, a_function, an_object, an_action, a_table, a_state, a_block, undeclared, Known, known, sort_in, Scope, sort_of, kind_of_type, known_parameter}
use Rattle.p416_syntax.specs.BuiltIn.{functions, standard, standard_name, built_in}
use Rattle.p416_syntax.specs.Calls.{Place, owner, written_owner, callee, statement, unasked, Signature, function_signature, method_signature}
use Rattle.p416_syntax.specs.Expressions.{sort_signature, kind_of, signature_of}
use Rattle.p416_syntax.specs.Uses.{Use, an_expression, many, owner_place, wanted_by, uses, uses_at}
use Rattle.p416_syntax.specs.Types.{takes, is_named_callee, is_mistyped}
use Rattle.p416_syntax.specs.Unknown.{is_callee_sort, is_misnamed}
use Rattle.p416_syntax.specs.Statements.{behind}
use Rattle.p416_syntax.specs.Declarations.{instance_sort, top_name, top_names, known_local, top_scope, control_scope, action_scope}
use Rattle.v1_ready_laws.proofs.Rules.{front_none, rest_none}
use Rattle.v1_call_laws.specs.Declared.{IsValue, AreValues, IsWithin}
use Rattle.v1_call_laws.specs.Ruled.{Ruled, OutsideParsers, Signed}
use Rattle.v1_call_laws.specs.Standing.{ControlStands, ActionsStand, StatementsStand, CallsToldNone}
use Rattle.v1_call_laws.proofs.Plain.{top_is_plain, control_is_plain, action_is_plain, behind_is_plain}
use Rattle.v1_call_laws.proofs.Declared.{scopes_within}
use Rattle.v1_call_laws.proofs.Told.{call_told, head_of}

-- functions are those of `v1model.p4`

abbrev NoFunction : Sort → Type 0
NoFunction a_function = ⊥
NoFunction sort = Unit {0}

abbrev NoFunctions : List Known → Type 0
NoFunctions [] = Unit {0}
NoFunctions (k ∷ ks) = NoFunction k.sort × NoFunctions ks

no_function : (x : Sort) → NoFunction x → x ≡ a_function → ⊥
no_function (a_type k) free is = cc is
no_function (a_value k can) free is = cc is
no_function (an_enumeration enum) free is = cc is
no_function a_function free is = free
no_function (an_object obj) free is = cc is
no_function (an_action p qs) free is = cc is
no_function (a_table actions counters) free is = cc is
no_function a_state free is = cc is
no_function a_block free is = cc is
no_function undeclared free is = cc is

value_no_function : (x : Sort) → IsValue x → NoFunction x
value_no_function (a_type k) h = tt
value_no_function (a_value k can) h = tt
value_no_function (an_enumeration enum) h = tt
value_no_function a_function h = absurd h
value_no_function (an_object obj) h = tt
value_no_function (an_action p qs) h = tt
value_no_function (a_table actions counters) h = tt
value_no_function a_state h = tt
value_no_function a_block h = tt
value_no_function undeclared h = tt

values_no_functions : (ks : List Known) → AreValues ks → NoFunctions ks
values_no_functions [] h = tt
values_no_functions (k ∷ ks) h = (value_no_function k.sort h.0, values_no_functions ks h.1)

past : (ks names : List Known) (text : Name) → NoFunctions ks → sort_in (ks ++ names) text ≡ a_function → sort_in names text ≡ a_function
past [] names text h is = is
past (k ∷ ks) names text h is = by (bytes_eq k.called text) is (past ks names text h.1) where
  by : (t : Bool) → cond t k.sort (sort_in (ks ++ names) text) ≡ a_function → (sort_in (ks ++ names) text ≡ a_function → sort_in names text ≡ a_function) → sort_in names text ≡ a_function
  by true e f = absurd (no_function k.sort h.0 e)
  by false e f = f e

instance_no_function : (i : Instance) → NoFunction (instance_sort i)
instance_no_function (instance.Counter size m called) = tt
instance_no_function (instance.DirectCounter m called) = tt
instance_no_function (instance.Register width size called) = tt
instance_no_function (instance.Meter size m called) = tt

tops_no_functions : (ds : List Decl16) → NoFunctions (map top_name ds)
tops_no_functions [] = tt
tops_no_functions ((decl.Header h) ∷ ds) = (tt, tops_no_functions ds)
tops_no_functions ((decl.Struct x) ∷ ds) = (tt, tops_no_functions ds)
tops_no_functions ((decl.Instance notes i) ∷ ds) = (instance_no_function i, tops_no_functions ds)
tops_no_functions ((decl.Parser p) ∷ ds) = (tt, tops_no_functions ds)
tops_no_functions ((decl.Control c) ∷ ds) = (tt, tops_no_functions ds)

parameters_no_functions : (names : List Known) (ps : List Param) → NoFunctions (map (known_parameter names) ps)
parameters_no_functions names [] = tt
parameters_no_functions names (p ∷ ps) = (tt, parameters_no_functions names ps)

locals_no_functions : (names : List Known) (locals : List Local) → NoFunctions (map (known_local names) locals)
locals_no_functions names [] = tt
locals_no_functions names ((local.Instance notes i) ∷ locals) = (instance_no_function i, locals_no_functions names locals)
locals_no_functions names ((local.Var v) ∷ locals) = (tt, locals_no_functions names locals)
locals_no_functions names ((local.Action a) ∷ locals) = (tt, locals_no_functions names locals)
locals_no_functions names ((local.Table y) ∷ locals) = (tt, locals_no_functions names locals)

abbrev AllSome : List Name → Type 0
AllSome [] = Unit {0}
AllSome (f ∷ fs) = (is_some (function_signature f) ≡ true) × AllSome fs

known_function : (fs : List Name) (text : Name) → AllSome fs → sort_in (map (known a_function) fs) text ≡ a_function → is_some (function_signature text) ≡ true
known_function [] text all is = absurd (cc is)
known_function (f ∷ fs) text all is = by (bytes_eq f text) refl is (known_function fs text all.1) where
  by : (t : Bool) → bytes_eq f text ≡ t → cond t a_function (sort_in (map (known a_function) fs) text) ≡ a_function → (sort_in (map (known a_function) fs) text ≡ a_function → is_some (function_signature text) ≡ true) → is_some (function_signature text) ≡ true
  by true same e g = subst (λ (n : Name). is_some (function_signature n) ≡ true) ((bytes_eq-Decides f text).0 same) all.0
  by false same e g = g e

abbrev front_known : List Known
front_known =
    known (a_type packet_in) (codes "packet_in") ∷ known (a_type packet_out) (codes "packet_out") ∷ known (a_type standard) standard_name
    ∷ known (an_enumeration hash_algorithm) (codes "HashAlgorithm") ∷ known (an_enumeration counter_type) (codes "CounterType")
    ∷ known (an_enumeration meter_type) (codes "MeterType") ∷ known (an_enumeration clone_type) (codes "CloneType") ∷ []

built_functions : (text : Name) → sort_in built_in text ≡ a_function → is_some (function_signature text) ≡ true
built_functions text is = known_function functions text (refl, (refl, (refl, (refl, (refl, (refl, (refl, (refl, (refl, tt))))))))) (past (front_known) (map (known a_function) functions) text (tt, (tt, (tt, (tt, (tt, (tt, (tt, tt))))))) is)

control_functions : (ds : List Decl16) (positions : List ℕ) (c : Control16) (text : Name) → sort_of (control_scope (top_scope ds positions) c) text ≡ a_function → is_some (function_signature text) ≡ true
control_functions ds positions c text is =
    let tops : List Known = top_names ds in
    let parameters : List Known = map (known_parameter tops) c.parameters in
    let locals : List Known = map (known_local tops) c.locals in
    built_functions text (past (map top_name ds) built_in text (tops_no_functions ds)
    (past locals tops text (locals_no_functions tops c.locals)
    (past parameters (locals ++ tops) text (parameters_no_functions tops c.parameters)
    (ap (λ (ks : List Known). sort_in ks text) (sym (append_assoc parameters locals tops)) ∙ is))))

within_functions : (block s : Scope) → IsWithin block s → ((text : Name) → sort_of block text ≡ a_function → is_some (function_signature text) ≡ true) → (text : Name) → sort_of s text ≡ a_function → is_some (function_signature text) ≡ true
within_functions block s h own text is = own text (past h.front block.names text (values_no_functions h.front h.values) (ap (λ (ks : List Known). sort_in ks text) (sym h.names) ∙ is))

-- scopes

pub control_stands : ControlStands
control_stands ds positions c out = record {
  within = (scopes_within (control_scope (top_scope ds positions) c)).0;
  plain = control_is_plain (top_scope ds positions) c (top_is_plain ds positions);
  out = record { part = refl; positions = out };
  functions = control_functions ds positions c;
}

pub actions_stand : ActionsStand
actions_stand block a h =
    let inside : IsWithin block (action_scope block a) = (scopes_within block).1 a in
    record {
      within = inside;
      plain = action_is_plain block a h.plain;
      out = record { part = refl; positions = h.out.positions };
      functions = within_functions block (action_scope block a) inside h.functions;
    }

behind_out : (s : Scope) (x : Stmt16) → OutsideParsers s → OutsideParsers (behind x s)
behind_out s no_statements h = h
behind_out s ((then) before last) h = behind_out (behind before s) last (behind_out s before h)
behind_out s (block_of body) h = h
behind_out s empty h = h
behind_out s (var t called) h = record { part = h.part; positions = h.positions }
behind_out s (var_is t called e) h = record { part = h.part; positions = h.positions }
behind_out s (assign target e) h = h
behind_out s (expression e) h = h
behind_out s (if_then c positive) h = h
behind_out s (if_else c positive negative) h = h
behind_out s (switch named cases) h = h
behind_out s no_cases h = h
behind_out s (case_of before l body) h = h

-- what stands behind has its names in front of others: functions among them are among those
behind_functions : (s : Scope) (x : Stmt16) → ((text : Name) → sort_of s text ≡ a_function → is_some (function_signature text) ≡ true) → (text : Name) → sort_of (behind x s) text ≡ a_function → is_some (function_signature text) ≡ true
behind_functions s no_statements own = own
behind_functions s ((then) before last) own = behind_functions (behind before s) last (behind_functions s before own)
behind_functions s (block_of body) own = own
behind_functions s empty own = own
behind_functions s (var t called) own = λ text is. own text (past (known (a_value (kind_of_type s.names t) true) called ∷ []) s.names text (tt, tt) is)
behind_functions s (var_is t called e) own = λ text is. own text (past (known (a_value (kind_of_type s.names t) true) called ∷ []) s.names text (tt, tt) is)
behind_functions s (assign target e) own = own
behind_functions s (expression e) own = own
behind_functions s (if_then c positive) own = own
behind_functions s (if_else c positive negative) own = own
behind_functions s (switch named cases) own = own
behind_functions s no_cases own = own
behind_functions s (case_of before l body) own = own

pub statements_stand : StatementsStand
statements_stand block s x h = record {
  within = (scopes_within block).2 s x h.within;
  plain = behind_is_plain s x h.plain;
  out = behind_out s x h.out;
  functions = behind_functions s x h.functions;
}

-- what is called is known

sort_signed : (x : Sort) (text : Name) → (x ≡ a_function → is_some (function_signature text) ≡ true) → not (is_callee_sort x) ≡ false → is_some (sort_signature x text) ≡ true
sort_signed (a_type k) text known is = absurd (cc is)
sort_signed (a_value k can) text known is = absurd (cc is)
sort_signed (an_enumeration enum) text known is = absurd (cc is)
sort_signed a_function text known is = known refl
sort_signed (an_object obj) text known is = absurd (cc is)
sort_signed (an_action p qs) text known is = refl
sort_signed (a_table actions counters) text known is = absurd (cc is)
sort_signed a_state text known is = absurd (cc is)
sort_signed a_block text known is = absurd (cc is)
sort_signed undeclared text known is = absurd (cc is)

some_there : (o : Option Signature) (t : Bool) → (is_none o && not t) ≡ false → t ≡ false → is_some o ≡ true
some_there None true h is = absurd (cc is)
some_there None false h is = absurd (cc h)
some_there (Some g) t h is = refl

-- an owner isn't plain
owner_not : (k : Kind) (e : Exp16) (o : Option Signature) → not (takes (owner_place callee o) e k) ≡ false → is_plain k ≡ false
owner_not k e None h = twice (is_plain k) h where
  twice : (t : Bool) → not (not t) ≡ false → t ≡ false
  twice true h = absurd (cc h)
  twice false h = refl
owner_not k e (Some g) h = by g.writes_owner h where
  twice : (t : Bool) → not (not t) ≡ false → t ≡ false
  twice true h = absurd (cc h)
  twice false h = refl

  by : (t : Bool) → not (takes (cond t written_owner owner) e k) ≡ false → is_plain k ≡ false
  by true h = twice (is_plain k) h
  by false h = twice (is_plain k) h

module _ (s : Scope) (out : OutsideParsers s) (known_ones : (text : Name) → sort_of s text ≡ a_function → is_some (function_signature text) ≡ true) where
  callee_known : (g more : Exp16) → Ruled (uses s statement (call g more)) → (list_any is_misnamed (uses s callee g) ≡ false) × (list_any is_mistyped (uses s callee g) ≡ false)
  callee_known g more h =
      let own : Use = an_expression s statement (call g more) in
      let args : List Use = uses_at s (many (wanted_by (signature_of s g)) unasked) more in (
        rest_none is_misnamed (own ∷ []) (uses s callee g) (front_none is_misnamed (own ∷ uses s callee g) args h.known),
        rest_none is_mistyped (own ∷ []) (uses s callee g) (front_none is_mistyped (own ∷ uses s callee g) args h.typed),
      )

  never : (g : Exp16) → is_named_callee g ≡ false → list_any is_mistyped (uses s callee g) ≡ false → ⊥
  never g other typed = cc (sym (head_of s out callee g is_mistyped typed) ∙ ap not other)

  signed : (g : Exp16) → list_any is_misnamed (uses s callee g) ≡ false → list_any is_mistyped (uses s callee g) ≡ false → is_some (signature_of s g) ≡ true
  signed (literal n) known typed = absurd (never (literal n) refl typed)
  signed (truth holds) known typed = absurd (never (truth holds) refl typed)
  signed error known typed = absurd (never error refl typed)
  signed (name text) known typed = sort_signed (sort_of s text) text (known_ones text) (head_of s out callee (name text) is_misnamed known)
  signed (member e word) known typed =
      let q : Place = owner_place callee (method_signature (kind_of s e) word) in
      some_there (method_signature (kind_of s e) word) (is_plain (kind_of s e)) (head_of s out callee (member e word) is_misnamed known)
      (owner_not (kind_of s e) e (method_signature (kind_of s e) word) (head_of s out q e is_mistyped (rest_none is_mistyped (an_expression s callee (member e word) ∷ []) (uses s q e) typed)))
  signed (index e i) known typed = absurd (never (index e i) refl typed)
  signed (slice e high low) known typed = absurd (never (slice e high low) refl typed)
  signed (call f again) known typed = absurd (never (call f again) refl typed)
  signed (lookahead e to again) known typed = absurd (never (lookahead e to again) refl typed)
  signed (cast to e) known typed = absurd (never (cast to e) refl typed)
  signed (unary operator e) known typed = absurd (never (unary operator e) refl typed)
  signed (binary operator a d) known typed = absurd (never (binary operator a d) refl typed)
  signed (choice c a d) known typed = absurd (never (choice c a d) refl typed)
  signed (parenthesized e) known typed = absurd (never (parenthesized e) refl typed)
  signed no_arguments known typed = absurd (never no_arguments refl typed)
  signed (argument before last) known typed = absurd (never (argument before last) refl typed)
  signed (listed es) known typed = absurd (never (listed es) refl typed)

  call_signed : (e : Exp16) → Ruled (uses s statement e) → Signed s e
  call_signed (literal n) h = tt
  call_signed (truth holds) h = tt
  call_signed error h = tt
  call_signed (name text) h = tt
  call_signed (member e word) h = tt
  call_signed (index e i) h = tt
  call_signed (slice e high low) h = tt
  call_signed (call f again) h = let own = callee_known f again h in signed f own.0 own.1
  call_signed (lookahead e to again) h = tt
  call_signed (cast to e) h = tt
  call_signed (unary operator e) h = tt
  call_signed (binary operator a d) h = tt
  call_signed (choice c a d) h = tt
  call_signed (parenthesized e) h = tt
  call_signed no_arguments h = tt
  call_signed (argument before last) h = tt
  call_signed (listed es) h = tt

pub calls_told_none : CallsToldNone
calls_told_none block s e at h count = call_told s at.out e h count (call_signed s at.out at.functions e h)
