-- What is written without parentheses has no token that isn't written with them, but commas: where each token with them is
-- one that a text can have, each without them is.
use Rattle.std.proofs.Common.{◌≡◌, true, List, [], ◌∷◌, ◌++◌, map, Option, Some, None, refl}
use Rattle.std.specs.List.{flat_map, list_all}
use Rattle.std.specs.Option.{option_map}
use Rattle.p416_syntax.specs.declared.keyword.Keyword16.TheVariants as key
use Rattle.p416_syntax.specs.declared.parts.Note.{Note}
use Rattle.p416_syntax.specs.declared.parsers.Var.{Var}
use Rattle.p416_syntax.specs.declared.parsers.Simple.{Simple}
use Rattle.p416_syntax.specs.declared.parsers.Simple.TheVariants as simple
use Rattle.p416_syntax.specs.declared.parsers.Keyset.{Keyset}
use Rattle.p416_syntax.specs.declared.parsers.Keyset.TheVariants as keyset
use Rattle.p416_syntax.specs.declared.parsers.SelectCase.{SelectCase}
use Rattle.p416_syntax.specs.declared.parsers.Transition.{Transition}
use Rattle.p416_syntax.specs.declared.parsers.Transition.TheVariants as transition
use Rattle.p416_syntax.specs.declared.parsers.State.{State}
use Rattle.p416_syntax.specs.declared.parsers.Parser16.{Parser16}
use Rattle.p416_syntax.specs.declared.controls.Instance.{Instance}
use Rattle.p416_syntax.specs.declared.controls.Instance.TheVariants as instance
use Rattle.p416_syntax.specs.declared.controls.Action16.{Action16}
use Rattle.p416_syntax.specs.declared.controls.TableKey.{TableKey}
use Rattle.p416_syntax.specs.declared.controls.Property.{Property}
use Rattle.p416_syntax.specs.declared.controls.Property.TheVariants as property
use Rattle.p416_syntax.specs.declared.controls.Table16.{Table16}
use Rattle.p416_syntax.specs.declared.controls.Local.{Local}
use Rattle.p416_syntax.specs.declared.controls.Local.TheVariants as local
use Rattle.p416_syntax.specs.declared.controls.Control16.{Control16}
use Rattle.p416_syntax.specs.declared.program.Decl16.{Decl16}
use Rattle.p416_syntax.specs.declared.program.Decl16.TheVariants as decl
use Rattle.p416_syntax.specs.declared.program.Syntax16.{Syntax16}
use Rattle.p416_syntax.specs.Tree.{Exp16, literal, truth, error, name, member, index, slice, call, lookahead, cast, unary, binary, choice, parenthesized, no_arguments, argument, listed, Stmt16, no_statements, then, block, empty, var, var_is, assign, expression, if_then, if_else, switch, no_cases, case_of}
use Rattle.p416_syntax.specs.Tokens.{Seen16, id, quoted, number, is_spelt_seen, seen_word, lookahead_text, opens, dot, dots, comma, colon, semicolon, equals, mask, question, greater, paren_close, brace_close, bracket_open, bracket_close, in_parens, in_braces}
use Rattle.p416_syntax.specs.Operators.{unary_token, binary_tokens}
use Rattle.p416_syntax.specs.Written.{written_option, after_commas, by_commas, written_notes, written_type, written_params, written_member, written_cast, written_bit, comma_behind, written_exp, written_initial, written_label, written_run, written_stmt, written_block, written_var, written_target, written_simple, written_keyset, written_case, written_transition, written_state, written_instance, written_object, written_action, written_action_name, written_key, written_property, written_table, written_local, written_decl, written_main, written}
use Rattle.p416_syntax.specs.Parentheses.{bare_exp, bare_stmt, bare_var, bare_simple, bare_keyset, bare_case, bare_transition, bare_state, bare_parser, bare_instance, bare_action, bare_key, bare_property, bare_table, bare_local, bare_control, bare_decl, bare}
use Rattle.p416_reader.proofs.Lists.{both, left_true, right_true}

-- each token is one that a text can have
abbrev pub Spelt : List Seen16 → Type 0
Spelt tokens = list_all is_spelt_seen tokens ≡ true

-- where the one can be written, the other can
abbrev Keeps : List Seen16 → List Seen16 → Type 0
Keeps us vs = Spelt us → Spelt vs

join : (us vs : List Seen16) → Spelt us → Spelt vs → Spelt (us ++ vs)
join [] vs h k = k
join (u ∷ us) vs h k = both (is_spelt_seen u) (list_all is_spelt_seen (us ++ vs)) (left_true (is_spelt_seen u) (list_all is_spelt_seen us) h) (join us vs (right_true (is_spelt_seen u) (list_all is_spelt_seen us) h) k)

front : (us vs : List Seen16) → Spelt (us ++ vs) → Spelt us
front [] vs h = refl
front (u ∷ us) vs h = both (is_spelt_seen u) (list_all is_spelt_seen us) (left_true (is_spelt_seen u) (list_all is_spelt_seen (us ++ vs)) h) (front us vs (right_true (is_spelt_seen u) (list_all is_spelt_seen (us ++ vs)) h))

back : (us vs : List Seen16) → Spelt (us ++ vs) → Spelt vs
back [] vs h = h
back (u ∷ us) vs h = back us vs (right_true (is_spelt_seen u) (list_all is_spelt_seen (us ++ vs)) h)

-- one part and another, one behind the other
pair : (us us2 vs vs2 : List Seen16) → Keeps us us2 → Keeps vs vs2 → Keeps (us ++ vs) (us2 ++ vs2)
pair us us2 vs vs2 f g h = join us2 vs2 (f (front us vs h)) (g (back us vs h))

-- the same behind and before what stays
behind : (us vs vs2 : List Seen16) → Keeps vs vs2 → Keeps (us ++ vs) (us ++ vs2)
behind us vs vs2 g = pair us us vs vs2 (λ h. h) g

before : (us us2 vs : List Seen16) → Keeps us us2 → Keeps (us ++ vs) (us2 ++ vs)
before us us2 vs f = pair us us2 vs vs f (λ h. h)

-- lists

flat : {A : Type 0} (write : A → List Seen16) (f : A → A) → ((x : A) → Keeps (write x) (write (f x))) → (xs : List A) → Keeps (flat_map write xs) (flat_map write (map f xs))
flat write f each [] = λ h. h
flat write f each (x ∷ xs) = pair (write x) (write (f x)) (flat_map write xs) (flat_map write (map f xs)) (each x) (flat write f each xs)

commas : {A : Type 0} (write : A → List Seen16) (f : A → A) → ((x : A) → Keeps (write x) (write (f x))) → (xs : List A) → Keeps (after_commas write xs) (after_commas write (map f xs))
commas write f each [] = λ h. h
commas write f each (x ∷ xs) = pair (comma ∷ write x) (comma ∷ write (f x)) (after_commas write xs) (after_commas write (map f xs)) (each x) (commas write f each xs)

listed_by : {A : Type 0} (write : A → List Seen16) (f : A → A) → ((x : A) → Keeps (write x) (write (f x))) → (xs : List A) → Keeps (by_commas write xs) (by_commas write (map f xs))
listed_by write f each [] = λ h. h
listed_by write f each (x ∷ xs) = pair (write x) (write (f x)) (after_commas write xs) (after_commas write (map f xs)) (each x) (commas write f each xs)

-- expressions

comma_spelt : (e : Exp16) → Spelt (comma_behind e)
comma_spelt (literal n) = refl
comma_spelt (truth v) = refl
comma_spelt error = refl
comma_spelt (name text) = refl
comma_spelt (member e text) = refl
comma_spelt (index e at) = refl
comma_spelt (slice e high low) = refl
comma_spelt (call e es) = refl
comma_spelt (lookahead e of es) = refl
comma_spelt (cast to e) = refl
comma_spelt (unary operator e) = refl
comma_spelt (binary operator a b) = refl
comma_spelt (choice c a b) = refl
comma_spelt (parenthesized e) = refl
comma_spelt no_arguments = refl
comma_spelt (argument first last) = refl
comma_spelt (listed items) = refl

pub bare_exps : (e : Exp16) → Keeps (written_exp e) (written_exp (bare_exp e))
bare_exps (literal n) = λ h. h
bare_exps (truth v) = λ h. h
bare_exps error = λ h. h
bare_exps (name text) = λ h. h
bare_exps (member e text) = before (written_exp e) (written_exp (bare_exp e)) (dot ∷ seen_word text ∷ []) (bare_exps e)
bare_exps (index e at) = before (written_exp e) (written_exp (bare_exp e)) (bracket_open ∷ number at ∷ bracket_close ∷ []) (bare_exps e)
bare_exps (slice e high low) = before (written_exp e) (written_exp (bare_exp e)) (bracket_open ∷ number high ∷ colon ∷ number low ∷ bracket_close ∷ []) (bare_exps e)
bare_exps (call e es) = pair (written_exp e) (written_exp (bare_exp e)) (in_parens (written_exp es)) (in_parens (written_exp (bare_exp es))) (bare_exps e) (before (written_exp es) (written_exp (bare_exp es)) (paren_close ∷ []) (bare_exps es))
bare_exps (lookahead e of es) =
    pair (written_exp e) (written_exp (bare_exp e)) (dot ∷ id lookahead_text ∷ opens ∷ (written_type of ++ greater ∷ in_parens (written_exp es))) (dot ∷ id lookahead_text ∷ opens ∷ (written_type of ++ greater ∷ in_parens (written_exp (bare_exp es))))
    (bare_exps e) (behind (written_type of) (greater ∷ in_parens (written_exp es)) (greater ∷ in_parens (written_exp (bare_exp es))) (before (written_exp es) (written_exp (bare_exp es)) (paren_close ∷ []) (bare_exps es)))
bare_exps (cast to e) = behind (in_parens (written_cast to)) (written_exp e) (written_exp (bare_exp e)) (bare_exps e)
bare_exps (unary operator e) = behind (unary_token operator ∷ []) (written_exp e) (written_exp (bare_exp e)) (bare_exps e)
bare_exps (binary operator a b) =
    pair (written_exp a) (written_exp (bare_exp a)) (binary_tokens operator ++ (written_exp b)) (binary_tokens operator ++ (written_exp (bare_exp b))) (bare_exps a)
    (behind (binary_tokens operator) (written_exp b) (written_exp (bare_exp b)) (bare_exps b))
bare_exps (choice c a b) =
    pair (written_exp c) (written_exp (bare_exp c)) (question ∷ ((written_exp a) ++ colon ∷ (written_exp b))) (question ∷ ((written_exp (bare_exp a)) ++ colon ∷ (written_exp (bare_exp b)))) (bare_exps c)
    (pair (written_exp a) (written_exp (bare_exp a)) (colon ∷ (written_exp b)) (colon ∷ (written_exp (bare_exp b))) (bare_exps a) (bare_exps b))
bare_exps (parenthesized e) = λ h. bare_exps e (front (written_exp e) (paren_close ∷ []) h)
bare_exps no_arguments = λ h. h
bare_exps (argument first last) =
    pair (written_exp first) (written_exp (bare_exp first)) (comma_behind first ++ (written_exp last)) (comma_behind (bare_exp first) ++ (written_exp (bare_exp last))) (bare_exps first)
    (λ h. join (comma_behind (bare_exp first)) (written_exp (bare_exp last)) (comma_spelt (bare_exp first)) (bare_exps last (back (comma_behind first) (written_exp last) h)))
bare_exps (listed items) = before (written_exp items) (written_exp (bare_exp items)) (brace_close ∷ []) (bare_exps items)

-- statements

pub bare_stmts : (s : Stmt16) → Keeps (written_stmt s) (written_stmt (bare_stmt s))
bare_stmts no_statements = λ h. h
bare_stmts (then first last) = pair (written_stmt first) (written_stmt (bare_stmt first)) (written_stmt last) (written_stmt (bare_stmt last)) (bare_stmts first) (bare_stmts last)
bare_stmts (block ss) = before (written_stmt ss) (written_stmt (bare_stmt ss)) (brace_close ∷ []) (bare_stmts ss)
bare_stmts empty = λ h. h
bare_stmts (var of text) = λ h. h
bare_stmts (var_is of text value) =
    behind (written_type of) (id text ∷ ((equals ∷ (written_exp value)) ++ semicolon ∷ [])) (id text ∷ ((equals ∷ (written_exp (bare_exp value))) ++ semicolon ∷ []))
    (behind (id text ∷ []) ((equals ∷ (written_exp value)) ++ semicolon ∷ []) ((equals ∷ (written_exp (bare_exp value))) ++ semicolon ∷ []) (before (written_exp value) (written_exp (bare_exp value)) (semicolon ∷ []) (bare_exps value)))
bare_stmts (assign target value) =
    pair (written_exp target) (written_exp (bare_exp target)) (equals ∷ ((written_exp value) ++ semicolon ∷ [])) (equals ∷ ((written_exp (bare_exp value)) ++ semicolon ∷ [])) (bare_exps target)
    (before (written_exp value) (written_exp (bare_exp value)) (semicolon ∷ []) (bare_exps value))
bare_stmts (expression e) = before (written_exp e) (written_exp (bare_exp e)) (semicolon ∷ []) (bare_exps e)
bare_stmts (if_then c holds) =
    pair (in_parens (written_exp c)) (in_parens (written_exp (bare_exp c))) (written_stmt holds) (written_stmt (bare_stmt holds)) (before (written_exp c) (written_exp (bare_exp c)) (paren_close ∷ []) (bare_exps c)) (bare_stmts holds)
bare_stmts (if_else c holds other) =
    pair (in_parens (written_exp c)) (in_parens (written_exp (bare_exp c))) ((written_stmt holds) ++ quoted key.Else ∷ (written_stmt other)) ((written_stmt (bare_stmt holds)) ++ quoted key.Else ∷ (written_stmt (bare_stmt other))) (before (written_exp c) (written_exp (bare_exp c)) (paren_close ∷ []) (bare_exps c))
    (pair (written_stmt holds) (written_stmt (bare_stmt holds)) (quoted key.Else ∷ (written_stmt other)) (quoted key.Else ∷ (written_stmt (bare_stmt other))) (bare_stmts holds) (bare_stmts other))
bare_stmts (switch table cs) =
    behind (in_parens (written_run table)) (in_braces (written_stmt cs)) (in_braces (written_stmt (bare_stmt cs))) (before (written_stmt cs) (written_stmt (bare_stmt cs)) (brace_close ∷ []) (bare_stmts cs))
bare_stmts no_cases = λ h. h
bare_stmts (case_of first label ss) =
    pair (written_stmt first) (written_stmt (bare_stmt first)) (written_label label ++ colon ∷ in_braces (written_stmt ss)) (written_label label ++ colon ∷ in_braces (written_stmt (bare_stmt ss))) (bare_stmts first)
    (behind (written_label label) (colon ∷ in_braces (written_stmt ss)) (colon ∷ in_braces (written_stmt (bare_stmt ss))) (before (written_stmt ss) (written_stmt (bare_stmt ss)) (brace_close ∷ []) (bare_stmts ss)))

initials : (o : Option Exp16) → Keeps (written_option written_initial o) (written_option written_initial (option_map bare_exp o))
initials None = λ h. h
initials (Some value) = bare_exps value

bare_vars : (v : Var) → Keeps (written_var v) (written_var (bare_var v))
bare_vars v =
    let old = written_option written_initial v.initial ++ semicolon ∷ [] in
    let new = written_option written_initial (option_map bare_exp v.initial) ++ semicolon ∷ [] in
    behind (written_type v.of) (id v.name ∷ old) (id v.name ∷ new)
    (behind (id v.name ∷ []) old new (before (written_option written_initial v.initial) (written_option written_initial (option_map bare_exp v.initial)) (semicolon ∷ []) (initials v.initial)))

-- parsers

bare_simples : (s : Simple) → Keeps (written_simple s) (written_simple (bare_simple s))
bare_simples simple.Default = λ h. h
bare_simples simple.Any = λ h. h
bare_simples (simple.Mask a b) = pair (written_exp a) (written_exp (bare_exp a)) (mask ∷ written_exp b) (mask ∷ written_exp (bare_exp b)) (bare_exps a) (bare_exps b)
bare_simples (simple.Range a b) = pair (written_exp a) (written_exp (bare_exp a)) (dots ∷ written_exp b) (dots ∷ written_exp (bare_exp b)) (bare_exps a) (bare_exps b)
bare_simples (simple.Value e) = bare_exps e

bare_keysets : (k : Keyset) → Keeps (written_keyset k) (written_keyset (bare_keyset k))
bare_keysets (keyset.Tuple ss) = before (by_commas written_simple ss) (by_commas written_simple (map bare_simple ss)) (paren_close ∷ []) (listed_by written_simple bare_simple bare_simples ss)
bare_keysets (keyset.One s) = bare_simples s

bare_cases : (c : SelectCase) → Keeps (written_case c) (written_case (bare_case c))
bare_cases c = before (written_keyset c.keyset) (written_keyset (bare_keyset c.keyset)) (colon ∷ (written_target c.target ++ semicolon ∷ [])) (bare_keysets c.keyset)

bare_transitions : (t : Transition) → Keeps (written_transition t) (written_transition (bare_transition t))
bare_transitions (transition.Go t) = λ h. h
bare_transitions (transition.Select es cs) =
    pair (in_parens (by_commas written_exp es)) (in_parens (by_commas written_exp (map bare_exp es))) (in_braces (flat_map written_case cs)) (in_braces (flat_map written_case (map bare_case cs)))
    (before (by_commas written_exp es) (by_commas written_exp (map bare_exp es)) (paren_close ∷ []) (listed_by written_exp bare_exp bare_exps es))
    (before (flat_map written_case cs) (flat_map written_case (map bare_case cs)) (brace_close ∷ []) (flat written_case bare_case bare_cases cs))

bare_states : (s : State) → Keeps (written_state s) (written_state (bare_state s))
bare_states s =
    let old = written_stmt s.body ++ written_transition s.transition in
    let new = written_stmt (bare_stmt s.body) ++ written_transition (bare_transition s.transition) in
    behind (quoted key.State ∷ id s.name ∷ []) (in_braces old) (in_braces new)
    (before old new (brace_close ∷ [])
    (pair (written_stmt s.body) (written_stmt (bare_stmt s.body)) (written_transition s.transition) (written_transition (bare_transition s.transition)) (bare_stmts s.body) (bare_transitions s.transition)))

bare_parsers : (p : Parser16) → Keeps (written_decl (decl.Parser p)) (written_decl (decl.Parser (bare_parser p)))
bare_parsers p =
    let old = flat_map written_var p.vars ++ flat_map written_state p.states in
    let new = flat_map written_var (map bare_var p.vars) ++ flat_map written_state (map bare_state p.states) in
    behind (quoted key.Parser ∷ id p.name ∷ written_params p.parameters) (in_braces old) (in_braces new)
    (before old new (brace_close ∷ [])
    (pair (flat_map written_var p.vars) (flat_map written_var (map bare_var p.vars)) (flat_map written_state p.states) (flat_map written_state (map bare_state p.states)) (flat written_var bare_var bare_vars p.vars) (flat written_state bare_state bare_states p.states)))

-- controls

bare_instances : (i : Instance) → Keeps (written_instance i) (written_instance (bare_instance i))
bare_instances (instance.Counter size m text) =
    let old = written_exp size ++ comma ∷ written_member m in
    let new = written_exp (bare_exp size) ++ comma ∷ written_member m in
    before (in_parens old) (in_parens new) (id text ∷ []) (before old new (paren_close ∷ []) (before (written_exp size) (written_exp (bare_exp size)) (comma ∷ written_member m) (bare_exps size)))
bare_instances (instance.DirectCounter m text) = λ h. h
bare_instances (instance.Register width size text) =
    let old = in_parens (written_exp size) ++ id text ∷ [] in
    let new = in_parens (written_exp (bare_exp size)) ++ id text ∷ [] in
    behind (written_bit width) (greater ∷ old) (greater ∷ new)
    (before (in_parens (written_exp size)) (in_parens (written_exp (bare_exp size))) (id text ∷ []) (before (written_exp size) (written_exp (bare_exp size)) (paren_close ∷ []) (bare_exps size)))
bare_instances (instance.Meter size m text) =
    let old = written_exp size ++ comma ∷ written_member m in
    let new = written_exp (bare_exp size) ++ comma ∷ written_member m in
    before (in_parens old) (in_parens new) (id text ∷ []) (before old new (paren_close ∷ []) (before (written_exp size) (written_exp (bare_exp size)) (comma ∷ written_member m) (bare_exps size)))

bare_keyed : (k : TableKey) → Keeps (written_key k) (written_key (bare_key k))
bare_keyed k = before (written_exp k.exp) (written_exp (bare_exp k.exp)) (colon ∷ id k.kind ∷ (written_notes k.notes ++ semicolon ∷ [])) (bare_exps k.exp)

bare_properties : (p : Property) → Keeps (written_property p) (written_property (bare_property p))
bare_properties (property.Key ks) = before (flat_map written_key ks) (flat_map written_key (map bare_key ks)) (brace_close ∷ []) (flat written_key bare_key bare_keyed ks)
bare_properties (property.Actions names) = λ h. h
bare_properties (property.Size n) = λ h. h
bare_properties (property.Counters text) = λ h. h
bare_properties (property.DefaultAction a arguments) =
    let old = in_parens (written_exp arguments) ++ semicolon ∷ [] in
    let new = in_parens (written_exp (bare_exp arguments)) ++ semicolon ∷ [] in
    behind (written_action_name a) old new
    (before (in_parens (written_exp arguments)) (in_parens (written_exp (bare_exp arguments))) (semicolon ∷ []) (before (written_exp arguments) (written_exp (bare_exp arguments)) (paren_close ∷ []) (bare_exps arguments)))

bare_objects : (notes : List Note) (i : Instance) → Keeps (written_object notes i) (written_object notes (bare_instance i))
bare_objects notes i = behind (written_notes notes) (written_instance i ++ semicolon ∷ []) (written_instance (bare_instance i) ++ semicolon ∷ []) (before (written_instance i) (written_instance (bare_instance i)) (semicolon ∷ []) (bare_instances i))

bare_blocks : (s : Stmt16) → Keeps (written_block s) (written_block (bare_stmt s))
bare_blocks s = before (written_stmt s) (written_stmt (bare_stmt s)) (brace_close ∷ []) (bare_stmts s)

bare_actions : (a : Action16) → Keeps (written_action a) (written_action (bare_action a))
bare_actions a =
    let old = written_params a.parameters ++ written_block a.body in
    let new = written_params a.parameters ++ written_block (bare_stmt a.body) in
    behind (written_notes a.notes) (quoted key.Action ∷ id a.name ∷ old) (quoted key.Action ∷ id a.name ∷ new)
    (behind (id a.name ∷ []) old new (behind (written_params a.parameters) (written_block a.body) (written_block (bare_stmt a.body)) (bare_blocks a.body)))

bare_tables : (t : Table16) → Keeps (written_table t) (written_table (bare_table t))
bare_tables t =
    let old = in_braces (flat_map written_property t.properties) in
    let new = in_braces (flat_map written_property (map bare_property t.properties)) in
    behind (written_notes t.notes) (quoted key.Table ∷ id t.name ∷ old) (quoted key.Table ∷ id t.name ∷ new)
    (behind (id t.name ∷ []) old new (before (flat_map written_property t.properties) (flat_map written_property (map bare_property t.properties)) (brace_close ∷ []) (flat written_property bare_property bare_properties t.properties)))

bare_locals : (l : Local) → Keeps (written_local l) (written_local (bare_local l))
bare_locals (local.Instance notes i) = bare_objects notes i
bare_locals (local.Var v) = bare_vars v
bare_locals (local.Action a) = bare_actions a
bare_locals (local.Table t) = bare_tables t

bare_controls : (c : Control16) → Keeps (written_decl (decl.Control c)) (written_decl (decl.Control (bare_control c)))
bare_controls c =
    let old = flat_map written_local c.locals ++ quoted key.Apply ∷ written_block c.body in
    let new = flat_map written_local (map bare_local c.locals) ++ quoted key.Apply ∷ written_block (bare_stmt c.body) in
    behind (quoted key.Control ∷ id c.name ∷ written_params c.parameters) (in_braces old) (in_braces new)
    (before old new (brace_close ∷ [])
    (pair (flat_map written_local c.locals) (flat_map written_local (map bare_local c.locals)) (quoted key.Apply ∷ written_block c.body) (quoted key.Apply ∷ written_block (bare_stmt c.body)) (flat written_local bare_local bare_locals c.locals) (bare_blocks c.body)))

bare_decls : (d : Decl16) → Keeps (written_decl d) (written_decl (bare_decl d))
bare_decls (decl.Header h) = λ k. k
bare_decls (decl.Struct s) = λ k. k
bare_decls (decl.Instance notes i) = bare_objects notes i
bare_decls (decl.Parser p) = bare_parsers p
bare_decls (decl.Control c) = bare_controls c

pub bare_spelt : (s : Syntax16) → Spelt (written s) → Spelt (written (bare s))
bare_spelt s = before (flat_map written_decl s.decls) (flat_map written_decl (map bare_decl s.decls)) (written_main s.main) (flat written_decl bare_decl bare_decls s.decls)
