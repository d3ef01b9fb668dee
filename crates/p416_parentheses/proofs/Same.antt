-- A syntax with its parentheses is the syntax again without them.
use Rattle.std.proofs.Common.{◌≡◌, Bool, true, not, ◌&&◌, List, [], ◌∷◌, map, Option, Some, None, refl, ap}
use Rattle.std.specs.List.{list_all}
use Rattle.std.specs.Option.{option_map}
use Rattle.p416_syntax.specs.declared.parsers.Var.{Var}
use Rattle.p416_syntax.specs.declared.parsers.Simple.{Simple}
use Rattle.p416_syntax.specs.declared.parsers.Simple.TheVariants as simple
use Rattle.p416_syntax.specs.declared.parsers.Keyset.{Keyset}
use Rattle.p416_syntax.specs.declared.parsers.Keyset.TheVariants as keyset
use Rattle.p416_syntax.specs.declared.parsers.SelectCase.{SelectCase}
use Rattle.p416_syntax.specs.declared.parsers.Transition.{Transition}
use Rattle.p416_syntax.specs.declared.parsers.Transition.TheVariants as transition
use Rattle.p416_syntax.specs.declared.parsers.State.{State}
use Rattle.p416_syntax.specs.declared.parsers.Parser16.{Parser16}
use Rattle.p416_syntax.specs.declared.controls.Instance.{Instance}
use Rattle.p416_syntax.specs.declared.controls.Instance.TheVariants as instance
use Rattle.p416_syntax.specs.declared.controls.Action16.{Action16}
use Rattle.p416_syntax.specs.declared.controls.TableKey.{TableKey}
use Rattle.p416_syntax.specs.declared.controls.Property.{Property}
use Rattle.p416_syntax.specs.declared.controls.Property.TheVariants as property
use Rattle.p416_syntax.specs.declared.controls.Table16.{Table16}
use Rattle.p416_syntax.specs.declared.controls.Local.{Local}
use Rattle.p416_syntax.specs.declared.controls.Local.TheVariants as local
use Rattle.p416_syntax.specs.declared.controls.Control16.{Control16}
use Rattle.p416_syntax.specs.declared.program.Decl16.{Decl16}
use Rattle.p416_syntax.specs.declared.program.Decl16.TheVariants as decl
use Rattle.p416_syntax.specs.declared.program.Syntax16.{Syntax16}
use Rattle.p416_syntax.specs.Tree.{Stmt16, no_statements, then, block, empty, var, var_is, assign, expression, if_then, if_else, switch, no_cases, case_of}
use Rattle.p416_parentheses.specs.Expressions.{full}
use Rattle.p416_parentheses.specs.Syntax.{full_stmt, full_var, full_simple, full_one, full_keyset, full_case, full_transition, full_state, full_parser, full_instance, full_action, full_key, full_property, full_table, full_local, full_control, full_decl, full_syntax}
use Rattle.p416_syntax.specs.Parentheses.{bare_exp, bare_stmt, bare_var, bare_simple, bare_keyset, bare_case, bare_transition, bare_state, bare_parser, bare_instance, bare_action, bare_key, bare_property, bare_table, bare_local, bare_control, bare_decl, bare}
use Rattle.p416_parentheses.proofs.Expressions.{same_full, same_within, same_arguments}
use Rattle.std.proofs.lemmas.Bool.{and_parts}
use Rattle.p416_syntax.specs.Conditions.{without_parentheses, is_some_listed, is_option, are_notes, is_exp, is_call, ends_in_if, StmtPlace, statements, statement, cases, is_stmt, is_var, is_simple, is_parenthesized_value, is_keyset, is_case, is_transition, is_state, is_parser, is_instance, is_key, is_property, are_properties, is_table, is_local, is_control, is_decl, is_syntax}

same_all : {A : Type 0} (test : A → Bool) (f g : A → A) → ((x : A) → test x ≡ true → g (f x) ≡ x) → (xs : List A) → list_all test xs ≡ true → map g (map f xs) ≡ xs
same_all test f g each [] h = refl
same_all test f g each (x ∷ xs) h = let parts = and_parts (test x) (list_all test xs) h in (λ i. each x parts.0 i ∷ same_all test f g each xs parts.1 i)

same_option : {A : Type 0} (test : A → Bool) (f g : A → A) → ((x : A) → test x ≡ true → g (f x) ≡ x) → (o : Option A) → is_option test o ≡ true → option_map g (option_map f o) ≡ o
same_option test f g each None h = refl
same_option test f g each (Some x) h = ap Some (each x h)

-- statements
same_stmt : (p : StmtPlace) (s : Stmt16) → is_stmt without_parentheses p s ≡ true → bare_stmt (full_stmt s) ≡ s
same_stmt statements no_statements h = refl
same_stmt statements (then before last) h = let parts = and_parts (is_stmt without_parentheses statements before) (is_stmt without_parentheses statement last) h in (λ i. then (same_stmt statements before parts.0 i) (same_stmt statement last parts.1 i))
same_stmt statements (block ss) h = absurd (cc)
same_stmt statements empty h = absurd (cc)
same_stmt statements (var of text) h = absurd (cc)
same_stmt statements (var_is of text value) h = absurd (cc)
same_stmt statements (assign target value) h = absurd (cc)
same_stmt statements (expression e) h = absurd (cc)
same_stmt statements (if_then c holds) h = absurd (cc)
same_stmt statements (if_else c holds other) h = absurd (cc)
same_stmt statements (switch table cs) h = absurd (cc)
same_stmt statements no_cases h = absurd (cc)
same_stmt statements (case_of before label ss) h = absurd (cc)
same_stmt statement no_statements h = absurd (cc)
same_stmt statement (then before last) h = absurd (cc)
same_stmt statement (block ss) h = ap block (same_stmt statements ss h)
same_stmt statement empty h = refl
same_stmt statement (var of text) h = refl
same_stmt statement (var_is of text value) h = ap (var_is of text) (same_full value h)
same_stmt statement (assign target value) h = let parts = and_parts (is_exp without_parentheses target) (is_exp without_parentheses value) h in (λ i. assign (same_full target parts.0 i) (same_full value parts.1 i))
same_stmt statement (expression e) h = ap expression (same_full e (and_parts (is_exp without_parentheses e) (is_call e) h).0)
same_stmt statement (if_then c holds) h = let parts = and_parts (is_exp without_parentheses c) (is_stmt without_parentheses statement holds) h in (λ i. if_then (same_within c parts.0 i) (same_stmt statement holds parts.1 i))
same_stmt statement (if_else c holds other) h = let parts = and_parts (is_exp without_parentheses c) ((is_stmt without_parentheses statement holds && not (ends_in_if holds)) && is_stmt without_parentheses statement other) h in let more = and_parts (is_stmt without_parentheses statement holds && not (ends_in_if holds)) (is_stmt without_parentheses statement other) parts.1 in (λ i. if_else (same_within c parts.0 i) (same_stmt statement holds (and_parts (is_stmt without_parentheses statement holds) (not (ends_in_if holds)) more.0).0 i) (same_stmt statement other more.1 i))
same_stmt statement (switch table cs) h = ap (switch table) (same_stmt cases cs h)
same_stmt statement no_cases h = absurd (cc)
same_stmt statement (case_of before label ss) h = absurd (cc)
same_stmt cases no_statements h = absurd (cc)
same_stmt cases (then before last) h = absurd (cc)
same_stmt cases (block ss) h = absurd (cc)
same_stmt cases empty h = absurd (cc)
same_stmt cases (var of text) h = absurd (cc)
same_stmt cases (var_is of text value) h = absurd (cc)
same_stmt cases (assign target value) h = absurd (cc)
same_stmt cases (expression e) h = absurd (cc)
same_stmt cases (if_then c holds) h = absurd (cc)
same_stmt cases (if_else c holds other) h = absurd (cc)
same_stmt cases (switch table cs) h = absurd (cc)
same_stmt cases no_cases h = refl
same_stmt cases (case_of before label ss) h = let parts = and_parts (is_stmt without_parentheses cases before) (is_stmt without_parentheses statements ss) h in (λ i. case_of (same_stmt cases before parts.0 i) label (same_stmt statements ss parts.1 i))

same_var : (v : Var) → is_var without_parentheses v ≡ true → bare_var (full_var v) ≡ v
same_var v h = (λ i. record { of = v.of; name = v.name; initial = same_option (is_exp without_parentheses) full bare_exp same_full v.initial h i })

same_simple : (s : Simple) → is_simple without_parentheses s ≡ true → bare_simple (full_simple s) ≡ s
same_simple simple.Default h = refl
same_simple simple.Any h = refl
same_simple (simple.Mask a b) h = let parts = and_parts (is_exp without_parentheses a) (is_exp without_parentheses b) h in (λ i. simple.Mask (same_full a parts.0 i) (same_full b parts.1 i))
same_simple (simple.Range a b) h = let parts = and_parts (is_exp without_parentheses a) (is_exp without_parentheses b) h in (λ i. simple.Range (same_full a parts.0 i) (same_full b parts.1 i))
same_simple (simple.Value e) h = ap simple.Value (same_full e h)

same_single : (s : Simple) → is_simple without_parentheses s ≡ true → bare_simple (full_one s) ≡ s
same_single simple.Default h = refl
same_single simple.Any h = refl
same_single (simple.Mask a b) h = same_simple (simple.Mask a b) h
same_single (simple.Range a b) h = same_simple (simple.Range a b) h
same_single (simple.Value e) h = ap simple.Value (same_within e h)

same_keyset : (k : Keyset) → is_keyset without_parentheses k ≡ true → bare_keyset (full_keyset k) ≡ k
same_keyset (keyset.Tuple ss) h = ap keyset.Tuple (same_all (is_simple without_parentheses) full_simple bare_simple same_simple ss (and_parts (is_some_listed ss) (list_all (is_simple without_parentheses) ss) h).1)
same_keyset (keyset.One s) h = ap keyset.One (same_single s (and_parts (is_simple without_parentheses s) (not (is_parenthesized_value s)) h).0)

same_case : (c : SelectCase) → is_case without_parentheses c ≡ true → bare_case (full_case c) ≡ c
same_case c h = (λ i. record { keyset = same_keyset c.keyset h i; target = c.target })

same_transition : (t : Transition) → is_transition without_parentheses t ≡ true → bare_transition (full_transition t) ≡ t
same_transition (transition.Go t) h = refl
same_transition (transition.Select es cs) h =
    let parts = and_parts (is_some_listed es && list_all (is_exp without_parentheses) es) (list_all (is_case without_parentheses) cs) h in
    let keys = and_parts (is_some_listed es) (list_all (is_exp without_parentheses) es) parts.0 in
    (λ i. transition.Select (same_all (is_exp without_parentheses) full bare_exp same_full es keys.1 i) (same_all (is_case without_parentheses) full_case bare_case same_case cs parts.1 i))

same_state : (s : State) → is_state without_parentheses s ≡ true → bare_state (full_state s) ≡ s
same_state s h =
    let parts = and_parts (is_stmt without_parentheses statements s.body) (is_transition without_parentheses s.transition) h in
    (λ i. record { name = s.name; body = same_stmt statements s.body parts.0 i; transition = same_transition s.transition parts.1 i })

same_parser : (p : Parser16) → is_parser without_parentheses p ≡ true → bare_parser (full_parser p) ≡ p
same_parser p h =
    let parts = and_parts (list_all (is_var without_parentheses) p.vars) (list_all (is_state without_parentheses) p.states) (and_parts (is_some_listed p.parameters) (list_all (is_var without_parentheses) p.vars && list_all (is_state without_parentheses) p.states) h).1 in
    (λ i. record { name = p.name; parameters = p.parameters; vars = same_all (is_var without_parentheses) full_var bare_var same_var p.vars parts.0 i; states = same_all (is_state without_parentheses) full_state bare_state same_state p.states parts.1 i })

same_instance : (i : Instance) → is_instance without_parentheses i ≡ true → bare_instance (full_instance i) ≡ i
same_instance (instance.Counter size m text) h = ap (λ e. instance.Counter e m text) (same_full size h)
same_instance (instance.DirectCounter m text) h = refl
same_instance (instance.Register width size text) h = ap (λ e. instance.Register width e text) (same_full size h)
same_instance (instance.Meter size m text) h = ap (λ e. instance.Meter e m text) (same_full size h)

same_action : (a : Action16) → is_stmt without_parentheses statements a.body ≡ true → bare_action (full_action a) ≡ a
same_action a h = (λ i. record { notes = a.notes; name = a.name; parameters = a.parameters; body = same_stmt statements a.body h i })

same_key : (k : TableKey) → is_key without_parentheses k ≡ true → bare_key (full_key k) ≡ k
same_key k h = let parts = and_parts (is_exp without_parentheses k.exp) (are_notes k.notes) h in (λ i. record { exp = same_full k.exp parts.0 i; kind = k.kind; notes = k.notes })

same_property : (p : Property) → is_property without_parentheses p ≡ true → bare_property (full_property p) ≡ p
same_property (property.Key ks) h = ap property.Key (same_all (is_key without_parentheses) full_key bare_key same_key ks h)
same_property (property.Actions names) h = refl
same_property (property.Size n) h = refl
same_property (property.Counters text) h = refl
same_property (property.DefaultAction a given) h = ap (property.DefaultAction a) (same_arguments given h)

same_table : (t : Table16) → is_table without_parentheses t ≡ true → bare_table (full_table t) ≡ t
same_table t h =
    let all = and_parts (list_all (is_property without_parentheses) t.properties) _ (and_parts (are_notes t.notes) (are_properties without_parentheses t.properties) h).1 in
    (λ i. record { notes = t.notes; name = t.name; properties = same_all (is_property without_parentheses) full_property bare_property same_property t.properties all.0 i })

same_local : (l : Local) → is_local without_parentheses l ≡ true → bare_local (full_local l) ≡ l
same_local (local.Instance notes i) h = ap (local.Instance notes) (same_instance i (and_parts (are_notes notes) (is_instance without_parentheses i) h).1)
same_local (local.Var v) h = ap local.Var (same_var v h)
same_local (local.Action a) h = ap local.Action (same_action a (and_parts (are_notes a.notes) (is_stmt without_parentheses statements a.body) h).1)
same_local (local.Table t) h = ap local.Table (same_table t h)

same_control : (c : Control16) → is_control without_parentheses c ≡ true → bare_control (full_control c) ≡ c
same_control c h =
    let parts = and_parts (list_all (is_local without_parentheses) c.locals) (is_stmt without_parentheses statements c.body) (and_parts (is_some_listed c.parameters) (list_all (is_local without_parentheses) c.locals && is_stmt without_parentheses statements c.body) h).1 in
    (λ i. record { name = c.name; parameters = c.parameters; locals = same_all (is_local without_parentheses) full_local bare_local same_local c.locals parts.0 i; body = same_stmt statements c.body parts.1 i })

same_decl : (d : Decl16) → is_decl without_parentheses d ≡ true → bare_decl (full_decl d) ≡ d
same_decl (decl.Header header) h = refl
same_decl (decl.Struct s) h = refl
same_decl (decl.Instance notes i) h = ap (decl.Instance notes) (same_instance i (and_parts (are_notes notes) (is_instance without_parentheses i) h).1)
same_decl (decl.Parser p) h = ap decl.Parser (same_parser p h)
same_decl (decl.Control c) h = ap decl.Control (same_control c h)

pub same_syntax : (s : Syntax16) → is_syntax without_parentheses s ≡ true → bare (full_syntax s) ≡ s
same_syntax s h =
    let parts = and_parts (list_all (is_decl without_parentheses) s.decls) (is_some_listed s.main) h in
    (λ i. record { decls = same_all (is_decl without_parentheses) full_decl bare_decl same_decl s.decls parts.0 i; main = s.main })
