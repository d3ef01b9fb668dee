-- The tokens of a syntax with its parentheses are told apart.
use Rattle.std.proofs.Common.{◌≡◌, ℕ, Bool, true, not, ◌&&◌, List, [], ◌∷◌, ◌++◌, map, Option, Some, None, refl}
use Rattle.std.specs.List.{flat_map}
use Rattle.std.proofs.lemmas.Bool.{and_parts}
use Rattle.std.specs.List.{list_all}
use Rattle.p416_syntax.specs.declared.parts.Note.{Note}
use Rattle.p416_syntax.specs.declared.parsers.Var.{Var}
use Rattle.p416_syntax.specs.declared.parsers.Simple.{Simple}
use Rattle.p416_syntax.specs.declared.parsers.Simple.TheVariants as simple
use Rattle.p416_syntax.specs.declared.parsers.Keyset.{Keyset}
use Rattle.p416_syntax.specs.declared.parsers.Keyset.TheVariants as keyset
use Rattle.p416_syntax.specs.declared.parsers.SelectCase.{SelectCase}
use Rattle.p416_syntax.specs.declared.parsers.Transition.{Transition}
use Rattle.p416_syntax.specs.declared.parsers.Transition.TheVariants as transition
use Rattle.p416_syntax.specs.declared.parsers.State.{State}
use Rattle.p416_syntax.specs.declared.parsers.Parser16.{Parser16}
use Rattle.p416_syntax.specs.declared.controls.Instance.{Instance}
use Rattle.p416_syntax.specs.declared.controls.Instance.TheVariants as instance
use Rattle.p416_syntax.specs.declared.controls.Action16.{Action16}
use Rattle.p416_syntax.specs.declared.controls.TableKey.{TableKey}
use Rattle.p416_syntax.specs.declared.controls.Property.{Property}
use Rattle.p416_syntax.specs.declared.controls.Property.TheVariants as property
use Rattle.p416_syntax.specs.declared.controls.Table16.{Table16}
use Rattle.p416_syntax.specs.declared.controls.Local.{Local}
use Rattle.p416_syntax.specs.declared.controls.Local.TheVariants as local
use Rattle.p416_syntax.specs.declared.controls.Control16.{Control16}
use Rattle.p416_syntax.specs.declared.program.Decl16.{Decl16}
use Rattle.p416_syntax.specs.declared.program.Decl16.TheVariants as decl
use Rattle.p416_syntax.specs.declared.program.Syntax16.{Syntax16}
use Rattle.p416_syntax.specs.declared.keyword.Keyword16.{Keyword16}
use Rattle.p416_syntax.specs.declared.keyword.Keyword16.TheVariants as key
use Rattle.p416_syntax.specs.declared.lexeme.Include16.{Include16}
use Rattle.std.specs.Option.{option_map}
use Rattle.p416_syntax.specs.declared.parts.Type16.{Type16}
use Rattle.p416_spelling.specs.Words.{word16}
use Rattle.p416_syntax.specs.declared.lexeme.Annotation16.TheVariants as annotation_of
use Rattle.p416_syntax.specs.declared.lexeme.Include16.TheVariants as include
use Rattle.p416_syntax.specs.declared.lexeme.Literal16.{Literal16}
use Rattle.p416_syntax.specs.declared.parts.Note.TheVariants as note
use Rattle.p416_syntax.specs.declared.parts.Direction.{Direction}
use Rattle.p416_syntax.specs.declared.parts.Direction.TheVariants as direction
use Rattle.p416_syntax.specs.declared.parts.Param.{Param}
use Rattle.p416_syntax.specs.declared.parts.BitField.{BitField}
use Rattle.p416_syntax.specs.declared.parts.StructField.{StructField}
use Rattle.p416_syntax.specs.declared.parts.Member.{Member}
use Rattle.p416_syntax.specs.declared.node.CaseLabel.{CaseLabel}
use Rattle.p416_syntax.specs.declared.node.CaseLabel.TheVariants as label
use Rattle.p416_syntax.specs.declared.parsers.Target.{Target}
use Rattle.p416_syntax.specs.declared.parsers.Target.TheVariants as target
use Rattle.p416_syntax.specs.declared.controls.ActionName.{ActionName}
use Rattle.p416_syntax.specs.declared.controls.ActionName.TheVariants as action_name
use Rattle.p416_syntax.specs.Tree.{Exp16, Stmt16, no_statements, then, block, empty, var, var_is, assign, expression, if_then, if_else, switch, no_cases, case_of}
use Rattle.p416_syntax.specs.Tokens.{Seen16, id, quoted, number, string, annotation, include_line, semicolon, colon, comma, dots, equals, less, greater, mask, bracket_open, paren_open, paren_close, in_parens, in_braces}
use Rattle.p416_syntax.specs.Written.{written_option, after_commas, by_commas, written_number, written_block_name, written_note, written_notes, written_bit, written_type, written_direction, written_param, written_member, written_exp, written_var_of, written_initial, written_label, written_run, written_stmt, written_block, written_var, written_target, written_simple, written_keyset, written_case, written_transition, written_state, written_parser, written_instance, written_object, written_action, written_action_name, written_listed_action, written_key, property_word, written_property_value, written_property, written_table, written_local, written_control, written_bit_field, written_struct_field, written_decl, written_main, written}
use Rattle.p416_syntax.specs.Conditions.{without_parentheses, is_some_listed, is_option, are_notes, is_exp, is_call, ends_in_if, StmtPlace, statements, statement, cases, is_stmt, is_var, is_simple, is_parenthesized_value, is_keyset, is_case, is_transition, is_state, is_parser, is_instance, is_key, is_property, are_properties, is_table, is_local, is_control, is_decl, is_syntax}
use Rattle.p416_parentheses.specs.Expressions.{within, full}
use Rattle.p416_parentheses.specs.Syntax.{full_stmt, full_var, full_simple, full_one, full_keyset, full_case, full_transition, full_state, full_parser, full_instance, full_action, full_key, full_property, full_table, full_local, full_control, full_decl, full_syntax}
use Rattle.p416_read_back.proofs.Told.{Good, IsPlain, good_nothing, good_append, good_cons, good_one}
use Rattle.p416_read_back.proofs.Expressions.{plain_id, plain_word, plain_number, plain_paren_open, plain_paren_close, plain_colon, plain_comma, good_parens, good_braces, good_type, good_full, good_within, good_arguments}

-- further tokens that aren't told by their neighbours
plain_semicolon : IsPlain semicolon
plain_semicolon = record { fits_always = λ p behind. tt; safe = λ p. (refl, refl) }

plain_equals : IsPlain equals
plain_equals = record { fits_always = λ p behind. tt; safe = λ p. (refl, refl) }

plain_mask : IsPlain mask
plain_mask = record { fits_always = λ p behind. tt; safe = λ p. (refl, refl) }

plain_dots : IsPlain dots
plain_dots = record { fits_always = λ p behind. tt; safe = λ p. (refl, refl) }

plain_bracket_open : IsPlain bracket_open
plain_bracket_open = record { fits_always = λ p behind. tt; safe = λ p. (refl, refl) }

plain_greater : IsPlain greater
plain_greater = record { fits_always = λ p behind. tt; safe = λ p. (refl, refl) }

plain_string : (text : List ℕ) → IsPlain (string text)
plain_string text = record { fits_always = λ p behind. tt; safe = λ p. (refl, refl) }

plain_name : IsPlain (annotation annotation_of.Name)
plain_name = record { fits_always = λ p behind. tt; safe = λ p. (refl, refl) }

plain_lists : IsPlain (annotation annotation_of.FieldList)
plain_lists = record { fits_always = λ p behind. tt; safe = λ p. (refl, refl) }

good_semicolon : Good (semicolon ∷ [])
good_semicolon = good_one semicolon plain_semicolon

-- a word, and more behind it
word_good : (w : Keyword16) (xs : List Seen16) → Good xs → Good (quoted w ∷ xs)
word_good w xs h = good_cons (quoted w) xs (plain_word w) h

name_good : (text : List ℕ) (xs : List Seen16) → Good xs → Good (id text ∷ xs)
name_good text xs h = good_cons (id text) xs (plain_id text) h

-- lists
good_all : {A : Type 0} (f : A → List Seen16) → ((x : A) → Good (f x)) → (xs : List A) → Good (flat_map f xs)
good_all f h [] = good_nothing
good_all f h (x ∷ xs) = good_append (f x) (flat_map f xs) (h x) (good_all f h xs)

good_commas : {A : Type 0} (f : A → List Seen16) → ((x : A) → Good (f x)) → (xs : List A) → Good (by_commas f xs)
good_commas f h [] = good_nothing
good_commas f h (x ∷ xs) = good_append (f x) (after_commas f xs) (h x) (good_all (λ y. comma ∷ f y) (λ y. good_cons comma (f y) plain_comma (h y)) xs)

good_option : {A : Type 0} (f : A → List Seen16) → ((x : A) → Good (f x)) → (o : Option A) → Good (written_option f o)
good_option f h None = good_nothing
good_option f h (Some x) = h x

-- of what passes a test, with its parentheses
good_tested : {A : Type 0} (test : A → Bool) (g : A → A) (f : A → List Seen16) → ((x : A) → test x ≡ true → Good (f (g x))) → (xs : List A) → list_all test xs ≡ true → Good (flat_map f (map g xs))
good_tested test g f h [] k = good_nothing
good_tested test g f h (x ∷ xs) k = let parts = and_parts (test x) (list_all test xs) k in good_append (f (g x)) (flat_map f (map g xs)) (h x parts.0) (good_tested test g f h xs parts.1)

commas_tested : {A : Type 0} (test : A → Bool) (g : A → A) (f : A → List Seen16) → ((x : A) → test x ≡ true → Good (f (g x))) → (xs : List A) → list_all test xs ≡ true → Good (by_commas f (map g xs))
commas_tested test g f h [] k = good_nothing
commas_tested test g f h (x ∷ xs) k =
    let parts = and_parts (test x) (list_all test xs) k in
    good_append (f (g x)) (after_commas f (map g xs)) (h x parts.0) (good_tested test g (λ y. comma ∷ f y) (λ y t. good_cons comma (f (g y)) plain_comma (h y t)) xs parts.1)

-- annotations, types and parameters
good_number : (n : Literal16) → Good (written_number n)
good_number n = good_one (number n) (plain_number n)

good_note : (n : Note) → Good (written_note n)
good_note (note.Name text) = good_cons (annotation annotation_of.Name) (in_parens (string text ∷ [])) plain_name (good_parens (string text ∷ []) (good_one (string text) (plain_string text)))
good_note (note.FieldList lists) = good_cons (annotation annotation_of.FieldList) (in_parens (by_commas written_number lists)) plain_lists (good_parens (by_commas written_number lists) (good_commas written_number good_number lists))

good_notes : (notes : List Note) → Good (written_notes notes)
good_notes notes = good_all written_note good_note notes

good_bit : (width : Literal16) → Good (written_bit width)
good_bit width = record { goes = λ p rest s t. (tt, (refl, (tt, (tt, t)))); ends = λ p s. (refl, refl) }

good_direction : (d : Direction) → Good (written_direction d)
good_direction direction.In = good_one (quoted key.In) (plain_word key.In)
good_direction direction.Out = good_one (quoted key.Out) (plain_word key.Out)
good_direction direction.InOut = good_one (quoted key.InOut) (plain_word key.InOut)

good_param : (p : Param) → Good (written_param p)
good_param p = good_append (written_option written_direction p.direction) (written_type p.of ++ id p.name ∷ []) (good_option written_direction good_direction p.direction) (good_append (written_type p.of) (id p.name ∷ []) (good_type p.of) (good_one (id p.name) (plain_id p.name)))

good_params : (ps : List Param) → Good (in_parens (by_commas written_param ps))
good_params ps = good_parens (by_commas written_param ps) (good_commas written_param good_param ps)

good_member : (m : Member) → Good (written_member m)
good_member m = record { goes = λ p rest s t. (tt, (tt, (tt, t))); ends = λ p s. (refl, refl) }

-- statements
good_var_of : (of : Type16) (text : List ℕ) (initial : Option Exp16) → Good (written_option written_initial initial) → Good (written_var_of of text initial)
good_var_of of text initial h = good_append (written_type of) (id text ∷ (written_option written_initial initial ++ semicolon ∷ [])) (good_type of) (name_good text (written_option written_initial initial ++ semicolon ∷ []) (good_append (written_option written_initial initial) (semicolon ∷ []) h good_semicolon))

good_initial : (e : Exp16) → is_exp without_parentheses e ≡ true → Good (written_initial (full e))
good_initial e h = good_cons equals (written_exp (full e)) plain_equals (good_full e h)

good_label : (l : CaseLabel) → Good (written_label l)
good_label label.Default = good_one (quoted key.Default) (plain_word key.Default)
good_label (label.Action text) = good_one (id text) (plain_id text)

good_run : (table : List ℕ) → Good (written_run table)
good_run table = record { goes = λ p rest s t. (tt, (tt, (tt, (tt, (tt, (tt, (tt, t))))))); ends = λ p s. (refl, refl) }

good_condition : (c : Exp16) → is_exp without_parentheses c ≡ true → Good (in_parens (written_exp (within c)))
good_condition c h = good_parens (written_exp (within c)) (good_within c h)

good_stmt : (p : StmtPlace) (s : Stmt16) → is_stmt without_parentheses p s ≡ true → Good (written_stmt (full_stmt s))
good_stmt statements no_statements h = good_nothing
good_stmt statements (then before last) h = let parts = and_parts (is_stmt without_parentheses statements before) (is_stmt without_parentheses statement last) h in good_append (written_stmt (full_stmt before)) (written_stmt (full_stmt last)) (good_stmt statements before parts.0) (good_stmt statement last parts.1)
good_stmt statements (block ss) h = absurd (cc)
good_stmt statements empty h = absurd (cc)
good_stmt statements (var of text) h = absurd (cc)
good_stmt statements (var_is of text value) h = absurd (cc)
good_stmt statements (assign target value) h = absurd (cc)
good_stmt statements (expression e) h = absurd (cc)
good_stmt statements (if_then c holds) h = absurd (cc)
good_stmt statements (if_else c holds other) h = absurd (cc)
good_stmt statements (switch table cs) h = absurd (cc)
good_stmt statements no_cases h = absurd (cc)
good_stmt statements (case_of before l ss) h = absurd (cc)
good_stmt statement no_statements h = absurd (cc)
good_stmt statement (then before last) h = absurd (cc)
good_stmt statement (block ss) h = good_braces (written_stmt (full_stmt ss)) (good_stmt statements ss h)
good_stmt statement empty h = good_semicolon
good_stmt statement (var of text) h = good_var_of of text None good_nothing
good_stmt statement (var_is of text value) h = good_var_of of text (Some (full value)) (good_initial value h)
good_stmt statement (assign target value) h = let parts = and_parts (is_exp without_parentheses target) (is_exp without_parentheses value) h in good_append (written_exp (full target)) (equals ∷ (written_exp (full value) ++ semicolon ∷ [])) (good_full target parts.0) (good_cons equals (written_exp (full value) ++ semicolon ∷ []) plain_equals (good_append (written_exp (full value)) (semicolon ∷ []) (good_full value parts.1) good_semicolon))
good_stmt statement (expression e) h = good_append (written_exp (full e)) (semicolon ∷ []) (good_full e (and_parts (is_exp without_parentheses e) (is_call e) h).0) good_semicolon
good_stmt statement (if_then c holds) h = let parts = and_parts (is_exp without_parentheses c) (is_stmt without_parentheses statement holds) h in word_good key.If (in_parens (written_exp (within c)) ++ written_stmt (full_stmt holds)) (good_append (in_parens (written_exp (within c))) (written_stmt (full_stmt holds)) (good_condition c parts.0) (good_stmt statement holds parts.1))
good_stmt statement (if_else c holds other) h = let parts = and_parts (is_exp without_parentheses c) ((is_stmt without_parentheses statement holds && not (ends_in_if holds)) && is_stmt without_parentheses statement other) h in let more = and_parts (is_stmt without_parentheses statement holds && not (ends_in_if holds)) (is_stmt without_parentheses statement other) parts.1 in word_good key.If (in_parens (written_exp (within c)) ++ (written_stmt (full_stmt holds) ++ quoted key.Else ∷ written_stmt (full_stmt other))) (good_append (in_parens (written_exp (within c))) (written_stmt (full_stmt holds) ++ quoted key.Else ∷ written_stmt (full_stmt other)) (good_condition c parts.0) (good_append (written_stmt (full_stmt holds)) (quoted key.Else ∷ written_stmt (full_stmt other)) (good_stmt statement holds (and_parts (is_stmt without_parentheses statement holds) (not (ends_in_if holds)) more.0).0) (word_good key.Else (written_stmt (full_stmt other)) (good_stmt statement other more.1))))
good_stmt statement (switch table cs) h = word_good key.Switch (in_parens (written_run table) ++ in_braces (written_stmt (full_stmt cs))) (good_append (in_parens (written_run table)) (in_braces (written_stmt (full_stmt cs))) (good_parens (written_run table) (good_run table)) (good_braces (written_stmt (full_stmt cs)) (good_stmt cases cs h)))
good_stmt statement no_cases h = absurd (cc)
good_stmt statement (case_of before l ss) h = absurd (cc)
good_stmt cases no_statements h = absurd (cc)
good_stmt cases (then before last) h = absurd (cc)
good_stmt cases (block ss) h = absurd (cc)
good_stmt cases empty h = absurd (cc)
good_stmt cases (var of text) h = absurd (cc)
good_stmt cases (var_is of text value) h = absurd (cc)
good_stmt cases (assign target value) h = absurd (cc)
good_stmt cases (expression e) h = absurd (cc)
good_stmt cases (if_then c holds) h = absurd (cc)
good_stmt cases (if_else c holds other) h = absurd (cc)
good_stmt cases (switch table cs) h = absurd (cc)
good_stmt cases no_cases h = good_nothing
good_stmt cases (case_of before l ss) h = let parts = and_parts (is_stmt without_parentheses cases before) (is_stmt without_parentheses statements ss) h in good_append (written_stmt (full_stmt before)) (written_label l ++ colon ∷ in_braces (written_stmt (full_stmt ss))) (good_stmt cases before parts.0) (good_append (written_label l) (colon ∷ in_braces (written_stmt (full_stmt ss))) (good_label l) (good_cons colon (in_braces (written_stmt (full_stmt ss))) plain_colon (good_braces (written_stmt (full_stmt ss)) (good_stmt statements ss parts.1))))

good_block : (s : Stmt16) → is_stmt without_parentheses statements s ≡ true → Good (written_block (full_stmt s))
good_block s h = good_braces (written_stmt (full_stmt s)) (good_stmt statements s h)

good_var : (v : Var) → is_var without_parentheses v ≡ true → Good (written_var (full_var v))
good_var v h = by v.initial h
  where
    by : (o : Option Exp16) → is_option (is_exp without_parentheses) o ≡ true → Good (written_var_of v.of v.name (option_map full o))
    by None h = good_var_of v.of v.name None good_nothing
    by (Some e) h = good_var_of v.of v.name (Some (full e)) (good_initial e h)

-- parser states
good_target : (t : Target) → Good (written_target t)
good_target (target.State text) = good_one (id text) (plain_id text)
good_target target.Accept = good_one (quoted key.Accept) (plain_word key.Accept)
good_target target.Reject = good_one (quoted key.Reject) (plain_word key.Reject)

good_simple : (s : Simple) → is_simple without_parentheses s ≡ true → Good (written_simple (full_simple s))
good_simple simple.Default h = good_one (quoted key.Default) (plain_word key.Default)
good_simple simple.Any h = good_one (quoted key.Underscore) (plain_word key.Underscore)
good_simple (simple.Mask a b) h = let parts = and_parts (is_exp without_parentheses a) (is_exp without_parentheses b) h in good_append (written_exp (full a)) (mask ∷ written_exp (full b)) (good_full a parts.0) (good_cons mask (written_exp (full b)) plain_mask (good_full b parts.1))
good_simple (simple.Range a b) h = let parts = and_parts (is_exp without_parentheses a) (is_exp without_parentheses b) h in good_append (written_exp (full a)) (dots ∷ written_exp (full b)) (good_full a parts.0) (good_cons dots (written_exp (full b)) plain_dots (good_full b parts.1))
good_simple (simple.Value e) h = good_full e h

good_single : (s : Simple) → is_simple without_parentheses s ≡ true → Good (written_simple (full_one s))
good_single simple.Default h = good_simple simple.Default h
good_single simple.Any h = good_simple simple.Any h
good_single (simple.Mask a b) h = good_simple (simple.Mask a b) h
good_single (simple.Range a b) h = good_simple (simple.Range a b) h
good_single (simple.Value e) h = good_within e h

good_keyset : (k : Keyset) → is_keyset without_parentheses k ≡ true → Good (written_keyset (full_keyset k))
good_keyset (keyset.Tuple ss) h = good_parens (by_commas written_simple (map full_simple ss)) (commas_tested (is_simple without_parentheses) full_simple written_simple good_simple ss (and_parts (is_some_listed ss) (list_all (is_simple without_parentheses) ss) h).1)
good_keyset (keyset.One s) h = good_single s (and_parts (is_simple without_parentheses s) (not (is_parenthesized_value s)) h).0

good_case : (c : SelectCase) → is_case without_parentheses c ≡ true → Good (written_case (full_case c))
good_case c h = good_append (written_keyset (full_keyset c.keyset)) (colon ∷ (written_target c.target ++ semicolon ∷ [])) (good_keyset c.keyset h) (good_cons colon (written_target c.target ++ semicolon ∷ []) plain_colon (good_append (written_target c.target) (semicolon ∷ []) (good_target c.target) good_semicolon))

good_transition : (t : Transition) → is_transition without_parentheses t ≡ true → Good (written_transition (full_transition t))
good_transition (transition.Go t) h = word_good key.Transition (written_target t ++ semicolon ∷ []) (good_append (written_target t) (semicolon ∷ []) (good_target t) good_semicolon)
good_transition (transition.Select es cs) h =
    let parts = and_parts (is_some_listed es && list_all (is_exp without_parentheses) es) (list_all (is_case without_parentheses) cs) h in
    let keys = and_parts (is_some_listed es) (list_all (is_exp without_parentheses) es) parts.0 in
    let compared = in_parens (by_commas written_exp (map full es)) in
    let chosen = in_braces (flat_map written_case (map full_case cs)) in
    word_good key.Transition (quoted key.Select ∷ (compared ++ chosen)) (word_good key.Select (compared ++ chosen)
    (good_append compared chosen (good_parens (by_commas written_exp (map full es)) (commas_tested (is_exp without_parentheses) full written_exp good_full es keys.1)) (good_braces (flat_map written_case (map full_case cs)) (good_tested (is_case without_parentheses) full_case written_case good_case cs parts.1))))

good_state : (s : State) → is_state without_parentheses s ≡ true → Good (written_state (full_state s))
good_state s h =
    let parts = and_parts (is_stmt without_parentheses statements s.body) (is_transition without_parentheses s.transition) h in
    let inside = written_stmt (full_stmt s.body) ++ written_transition (full_transition s.transition) in
    word_good key.State (id s.name ∷ in_braces inside) (name_good s.name (in_braces inside) (good_braces inside (good_append (written_stmt (full_stmt s.body)) (written_transition (full_transition s.transition)) (good_stmt statements s.body parts.0) (good_transition s.transition parts.1))))

good_parser : (p : Parser16) → is_parser without_parentheses p ≡ true → Good (written_parser (full_parser p))
good_parser p h =
    let parts = and_parts (list_all (is_var without_parentheses) p.vars) (list_all (is_state without_parentheses) p.states) (and_parts (is_some_listed p.parameters) (list_all (is_var without_parentheses) p.vars && list_all (is_state without_parentheses) p.states) h).1 in
    let given = in_parens (by_commas written_param p.parameters) in
    let vars = flat_map written_var (map full_var p.vars) in
    let states = flat_map written_state (map full_state p.states) in
    word_good key.Parser (id p.name ∷ (given ++ in_braces (vars ++ states))) (name_good p.name (given ++ in_braces (vars ++ states))
    (good_append given (in_braces (vars ++ states)) (good_params p.parameters) (good_braces (vars ++ states) (good_append vars states (good_tested (is_var without_parentheses) full_var written_var good_var p.vars parts.0) (good_tested (is_state without_parentheses) full_state written_state good_state p.states parts.1)))))

-- controls
good_sized : (e : Exp16) (m : Member) → is_exp without_parentheses e ≡ true → Good (in_parens (written_exp (full e) ++ comma ∷ written_member m))
good_sized e m h = good_parens (written_exp (full e) ++ comma ∷ written_member m) (good_append (written_exp (full e)) (comma ∷ written_member m) (good_full e h) (good_cons comma (written_member m) plain_comma (good_member m)))

named : (text : List ℕ) → Good (id text ∷ [])
named text = good_one (id text) (plain_id text)

-- `register<bit<WIDTH>>`
good_register : (width : Literal16) (xs : List Seen16) → Good xs → Good (quoted key.Register ∷ less ∷ (written_bit width ++ greater ∷ xs))
good_register width xs h = record {
  goes = λ p rest s t. (tt, (refl, (tt, (refl, (tt, (tt, (tt, h.goes (Some (word16 greater), Some (word16 greater)) rest (refl, refl) t)))))));
  ends = λ p s. h.ends (Some (word16 greater), Some (word16 greater)) (refl, refl);
}

good_instance : (i : Instance) → is_instance without_parentheses i ≡ true → Good (written_instance (full_instance i))
good_instance (instance.Counter size m text) h = let given = in_parens (written_exp (full size) ++ comma ∷ written_member m) in word_good key.Counter (given ++ id text ∷ []) (good_append given (id text ∷ []) (good_sized size m h) (named text))
good_instance (instance.DirectCounter m text) h = word_good key.DirectCounter (in_parens (written_member m) ++ id text ∷ []) (good_append (in_parens (written_member m)) (id text ∷ []) (good_parens (written_member m) (good_member m)) (named text))
good_instance (instance.Register width size text) h = let given = in_parens (written_exp (full size)) in good_register width (given ++ id text ∷ []) (good_append given (id text ∷ []) (good_parens (written_exp (full size)) (good_full size h)) (named text))
good_instance (instance.Meter size m text) h = let given = in_parens (written_exp (full size) ++ comma ∷ written_member m) in word_good key.Meter (given ++ id text ∷ []) (good_append given (id text ∷ []) (good_sized size m h) (named text))

good_object : (notes : List Note) (i : Instance) → is_instance without_parentheses i ≡ true → Good (written_object notes (full_instance i))
good_object notes i h = good_append (written_notes notes) (written_instance (full_instance i) ++ semicolon ∷ []) (good_notes notes) (good_append (written_instance (full_instance i)) (semicolon ∷ []) (good_instance i h) good_semicolon)

good_action : (a : Action16) → is_stmt without_parentheses statements a.body ≡ true → Good (written_action (full_action a))
good_action a h =
    let given = in_parens (by_commas written_param a.parameters) in
    let body = written_block (full_stmt a.body) in
    good_append (written_notes a.notes) (quoted key.Action ∷ id a.name ∷ (given ++ body)) (good_notes a.notes) (word_good key.Action (id a.name ∷ (given ++ body)) (name_good a.name (given ++ body) (good_append given body (good_params a.parameters) (good_block a.body h))))

good_action_name : (a : ActionName) → Good (written_action_name a)
good_action_name (action_name.Declared text) = named text
good_action_name action_name.NoAction = good_one (quoted key.NoAction) (plain_word key.NoAction)

good_listed_action : (a : ActionName) → Good (written_listed_action a)
good_listed_action a = good_append (written_action_name a) (semicolon ∷ []) (good_action_name a) good_semicolon

good_key : (k : TableKey) → is_key without_parentheses k ≡ true → Good (written_key (full_key k))
good_key k h =
    let behind = written_notes k.notes ++ semicolon ∷ [] in
    good_append (written_exp (full k.exp)) (colon ∷ id k.kind ∷ behind) (good_full k.exp (and_parts (is_exp without_parentheses k.exp) (are_notes k.notes) h).0)
    (good_cons colon (id k.kind ∷ behind) plain_colon (name_good k.kind behind (good_append (written_notes k.notes) (semicolon ∷ []) (good_notes k.notes) good_semicolon)))

good_property_value : (p : Property) → is_property without_parentheses p ≡ true → Good (written_property_value (full_property p))
good_property_value (property.Key ks) h = good_braces (flat_map written_key (map full_key ks)) (good_tested (is_key without_parentheses) full_key written_key good_key ks h)
good_property_value (property.Actions names) h = good_braces (flat_map written_listed_action names) (good_all written_listed_action good_listed_action names)
good_property_value (property.Size n) h = good_cons (number n) (semicolon ∷ []) (plain_number n) good_semicolon
good_property_value (property.Counters text) h = name_good text (semicolon ∷ []) good_semicolon
good_property_value (property.DefaultAction a given) h = let arguments_in = in_parens (written_exp (within given)) in good_append (written_action_name a) (arguments_in ++ semicolon ∷ []) (good_action_name a) (good_append arguments_in (semicolon ∷ []) (good_parens (written_exp (within given)) (good_arguments given h)) good_semicolon)

good_property : (p : Property) → is_property without_parentheses p ≡ true → Good (written_property (full_property p))
good_property p h = let value = written_property_value (full_property p) in word_good (property_word (full_property p)) (equals ∷ value) (good_cons equals value plain_equals (good_property_value p h))

good_table : (t : Table16) → is_table without_parentheses t ≡ true → Good (written_table (full_table t))
good_table t h =
    let all = and_parts (list_all (is_property without_parentheses) t.properties) _ (and_parts (are_notes t.notes) (are_properties without_parentheses t.properties) h).1 in
    let inside = flat_map written_property (map full_property t.properties) in
    good_append (written_notes t.notes) (quoted key.Table ∷ id t.name ∷ in_braces inside) (good_notes t.notes) (word_good key.Table (id t.name ∷ in_braces inside) (name_good t.name (in_braces inside) (good_braces inside (good_tested (is_property without_parentheses) full_property written_property good_property t.properties all.0))))

good_local : (l : Local) → is_local without_parentheses l ≡ true → Good (written_local (full_local l))
good_local (local.Instance notes i) h = good_object notes i (and_parts (are_notes notes) (is_instance without_parentheses i) h).1
good_local (local.Var v) h = good_var v h
good_local (local.Action a) h = good_action a (and_parts (are_notes a.notes) (is_stmt without_parentheses statements a.body) h).1
good_local (local.Table t) h = good_table t h

good_control : (c : Control16) → is_control without_parentheses c ≡ true → Good (written_control (full_control c))
good_control c h =
    let parts = and_parts (list_all (is_local without_parentheses) c.locals) (is_stmt without_parentheses statements c.body) (and_parts (is_some_listed c.parameters) (list_all (is_local without_parentheses) c.locals && is_stmt without_parentheses statements c.body) h).1 in
    let given = in_parens (by_commas written_param c.parameters) in
    let locals = flat_map written_local (map full_local c.locals) in
    let body = quoted key.Apply ∷ written_block (full_stmt c.body) in
    word_good key.Control (id c.name ∷ (given ++ in_braces (locals ++ body))) (name_good c.name (given ++ in_braces (locals ++ body))
    (good_append given (in_braces (locals ++ body)) (good_params c.parameters) (good_braces (locals ++ body) (good_append locals body (good_tested (is_local without_parentheses) full_local written_local good_local c.locals parts.0) (word_good key.Apply (written_block (full_stmt c.body)) (good_block c.body parts.1))))))

-- declarations
good_bit_field : (f : BitField) → Good (written_bit_field f)
good_bit_field f = good_append (written_bit f.width) (id f.name ∷ semicolon ∷ []) (good_bit f.width) (name_good f.name (semicolon ∷ []) good_semicolon)

good_struct_field : (f : StructField) → Good (written_struct_field f)
good_struct_field f = good_append (written_notes f.notes) (written_type f.of ++ id f.name ∷ semicolon ∷ []) (good_notes f.notes) (good_append (written_type f.of) (id f.name ∷ semicolon ∷ []) (good_type f.of) (name_good f.name (semicolon ∷ []) good_semicolon))

good_decl : (d : Decl16) → is_decl without_parentheses d ≡ true → Good (written_decl (full_decl d))
good_decl (decl.Header h) k = let fields = flat_map written_bit_field h.fields in word_good key.Header (id h.name ∷ in_braces fields) (name_good h.name (in_braces fields) (good_braces fields (good_all written_bit_field good_bit_field h.fields)))
good_decl (decl.Struct s) k = let fields = flat_map written_struct_field s.fields in word_good key.Struct (id s.name ∷ in_braces fields) (name_good s.name (in_braces fields) (good_braces fields (good_all written_struct_field good_struct_field s.fields)))
good_decl (decl.Instance notes i) k = good_object notes i (and_parts (are_notes notes) (is_instance without_parentheses i) k).1
good_decl (decl.Parser p) k = good_parser p k
good_decl (decl.Control c) k = good_control c k

good_block_name : (text : List ℕ) → Good (written_block_name text)
good_block_name text = name_good text (paren_open ∷ paren_close ∷ []) (good_cons paren_open (paren_close ∷ []) plain_paren_open (good_one paren_close plain_paren_close))

good_main : (names : List (List ℕ)) → Good (written_main names)
good_main names = let blocks = in_parens (by_commas written_block_name names) in word_good key.V1Switch (blocks ++ (quoted key.Main ∷ semicolon ∷ [])) (good_append blocks (quoted key.Main ∷ semicolon ∷ []) (good_parens (by_commas written_block_name names) (good_commas written_block_name good_block_name names)) (word_good key.Main (semicolon ∷ []) good_semicolon))

plain_include : (i : Include16) → IsPlain (include_line i)
plain_include i = record { fits_always = λ p behind. tt; safe = λ p. (refl, refl) }

pub good_syntax : (s : Syntax16) → is_syntax without_parentheses s ≡ true → Good (written (full_syntax s))
good_syntax s h =
    let decls = flat_map written_decl (map full_decl s.decls) in
    let behind = decls ++ written_main s.main in
    good_cons (include_line include.Core) (include_line include.V1Model ∷ behind) (plain_include include.Core)
    (good_cons (include_line include.V1Model) behind (plain_include include.V1Model)
    (good_append decls (written_main s.main) (good_tested (is_decl without_parentheses) full_decl written_decl good_decl s.decls (and_parts (list_all (is_decl without_parentheses) s.decls) (is_some_listed s.main) h).0) (good_main s.main)))
