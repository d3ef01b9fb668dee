-- A syntax with its parentheses keeps to the grammar.
use Rattle.std.proofs.Common.{◌≡◌, Bool, true, false, not, ◌&&◌, List, [], ◌∷◌, map, Option, Some, None, refl, sym, ap, subst, ◌∙◌}
use Rattle.std.specs.List.{list_all}
use Rattle.std.specs.Option.{option_map}
use Rattle.p416_syntax.specs.declared.parsers.Var.{Var}
use Rattle.p416_syntax.specs.declared.parsers.Simple.{Simple}
use Rattle.p416_syntax.specs.declared.parsers.Simple.TheVariants as simple
use Rattle.p416_syntax.specs.declared.parsers.Keyset.{Keyset}
use Rattle.p416_syntax.specs.declared.parsers.Keyset.TheVariants as keyset
use Rattle.p416_syntax.specs.declared.parsers.SelectCase.{SelectCase}
use Rattle.p416_syntax.specs.declared.parsers.Transition.{Transition}
use Rattle.p416_syntax.specs.declared.parsers.Transition.TheVariants as transition
use Rattle.p416_syntax.specs.declared.parsers.State.{State}
use Rattle.p416_syntax.specs.declared.parsers.Parser16.{Parser16}
use Rattle.p416_syntax.specs.declared.controls.Instance.{Instance}
use Rattle.p416_syntax.specs.declared.controls.Instance.TheVariants as instance
use Rattle.p416_syntax.specs.declared.controls.TableKey.{TableKey}
use Rattle.p416_syntax.specs.declared.controls.Property.{Property}
use Rattle.p416_syntax.specs.declared.controls.Property.TheVariants as property
use Rattle.p416_syntax.specs.declared.controls.Table16.{Table16}
use Rattle.p416_syntax.specs.declared.controls.Local.{Local}
use Rattle.p416_syntax.specs.declared.controls.Local.TheVariants as local
use Rattle.p416_syntax.specs.declared.controls.Control16.{Control16}
use Rattle.p416_syntax.specs.declared.program.Decl16.{Decl16}
use Rattle.p416_syntax.specs.declared.program.Decl16.TheVariants as decl
use Rattle.p416_syntax.specs.declared.program.Syntax16.{Syntax16}
use Rattle.p416_syntax.specs.Tree.{Stmt16, no_statements, then, block, empty, var, var_is, assign, expression, if_then, if_else, switch, no_cases, case_of}
use Rattle.p416_parentheses.specs.Expressions.{within, full}
use Rattle.p416_parentheses.specs.Syntax.{full_stmt, full_var, full_simple, full_one, full_keyset, full_case, full_transition, full_state, full_parser, full_instance, full_key, full_property, full_table, full_local, full_control, full_decl, full_syntax}
use Rattle.p416_parentheses.proofs.Expressions.{kept_full, kept_within, kept_arguments, call_full, never_parenthesized}
use Rattle.p416_syntax.specs.declared.keyword.Keyword16.TheVariants as key
use Rattle.p416_syntax.specs.Keywords.{keyword_text16}
use Rattle.p416_syntax.specs.Written.{property_word}
use Rattle.p416_syntax.specs.Conditions.{with_parentheses, without_parentheses, is_some_listed, is_option, are_notes, is_exp, is_call, ends_in_if, StmtPlace, statements, statement, cases, is_stmt, is_var, is_simple, is_parenthesized_value, is_keyset, is_case, is_transition, is_state, is_parser, is_instance, is_key, is_property, property_texts, are_properties, all_different, is_among, is_table, is_local, is_control, is_decl, is_syntax}

pub left_true : (a b : Bool) → (a && b) ≡ true → a ≡ true
left_true true b e = refl
left_true false b e = absurd (cc)

pub right_true : (a b : Bool) → (a && b) ≡ true → b ≡ true
right_true true b e = e
right_true false b e = absurd (cc)

pub both : (a b : Bool) → a ≡ true → b ≡ true → (a && b) ≡ true
both true b e f = f
both false b e f = absurd (cc)

not_false : (a : Bool) → a ≡ false → not a ≡ true
not_false a e = ap not e

open_is : (s : Stmt16) → ends_in_if (full_stmt s) ≡ ends_in_if s
open_is no_statements = refl
open_is (then a b) = refl
open_is (block a) = refl
open_is empty = refl
open_is (var of text) = refl
open_is (var_is of text e) = refl
open_is (assign e f) = refl
open_is (expression e) = refl
open_is (if_then c a) = refl
open_is (if_else c a b) = open_is b
open_is (switch table a) = refl
open_is no_cases = refl
open_is (case_of a label b) = refl

-- what two parts pass, what becomes of them passes
split : (a b c d : Bool) → (a ≡ true → c ≡ true) → (b ≡ true → d ≡ true) → (a && b) ≡ true → (c && d) ≡ true
split a b c d f g h = both c d (f (left_true a b h)) (g (right_true a b h))

-- the same of a list and of what may be left out
all_kept : {A : Type 0} (test other : A → Bool) (f : A → A) → ((x : A) → test x ≡ true → other (f x) ≡ true) → (xs : List A) → list_all test xs ≡ true → list_all other (map f xs) ≡ true
all_kept test other f each [] h = refl
all_kept test other f each (x ∷ xs) h = split (test x) (list_all test xs) (other (f x)) (list_all other (map f xs)) (each x) (all_kept test other f each xs) h

option_kept : {A : Type 0} (test other : A → Bool) (f : A → A) → ((x : A) → test x ≡ true → other (f x) ≡ true) → (o : Option A) → is_option test o ≡ true → is_option other (option_map f o) ≡ true
option_kept test other f each None h = refl
option_kept test other f each (Some x) h = each x h

some_kept : {A : Type 0} (f : A → A) (xs : List A) → is_some_listed (map f xs) ≡ is_some_listed xs
some_kept f [] = refl
some_kept f (x ∷ xs) = refl

-- statements

pub kept_stands : (p : StmtPlace) (s : Stmt16) → is_stmt without_parentheses p s ≡ true → is_stmt with_parentheses p (full_stmt s) ≡ true
kept_stands statements no_statements h = refl
kept_stands statements (then before last) h = split (is_stmt without_parentheses statements before) (is_stmt without_parentheses statement last) (is_stmt with_parentheses statements (full_stmt before)) (is_stmt with_parentheses statement (full_stmt last)) (kept_stands statements before) (kept_stands statement last) h
kept_stands statements (block ss) h = cc
kept_stands statements empty h = cc
kept_stands statements (var of text) h = cc
kept_stands statements (var_is of text value) h = cc
kept_stands statements (assign target value) h = cc
kept_stands statements (expression e) h = cc
kept_stands statements (if_then c holds) h = cc
kept_stands statements (if_else c holds other) h = cc
kept_stands statements (switch table cs) h = cc
kept_stands statements no_cases h = cc
kept_stands statements (case_of before label ss) h = cc
kept_stands statement no_statements h = cc
kept_stands statement (then before last) h = cc
kept_stands statement (block ss) h = kept_stands statements ss h
kept_stands statement empty h = refl
kept_stands statement (var of text) h = refl
kept_stands statement (var_is of text value) h = kept_full value h
kept_stands statement (assign target value) h = split (is_exp without_parentheses target) (is_exp without_parentheses value) (is_exp with_parentheses (full target)) (is_exp with_parentheses (full value)) (kept_full target) (kept_full value) h
kept_stands statement (expression e) h = split (is_exp without_parentheses e) (is_call e) (is_exp with_parentheses (full e)) (is_call (full e)) (kept_full e) (λ k. call_full e ∙ k) h
kept_stands statement (if_then c holds) h = split (is_exp without_parentheses c) (is_stmt without_parentheses statement holds) (is_exp with_parentheses (within c)) (is_stmt with_parentheses statement (full_stmt holds)) (kept_within c) (kept_stands statement holds) h
kept_stands statement (if_else c holds other) h =
    split (is_exp without_parentheses c) (((is_stmt without_parentheses statement holds) && (not (ends_in_if holds))) && (is_stmt without_parentheses statement other)) (is_exp with_parentheses (within c)) (((is_stmt with_parentheses statement (full_stmt holds)) && (not (ends_in_if (full_stmt holds)))) && (is_stmt with_parentheses statement (full_stmt other))) (kept_within c)
    (split ((is_stmt without_parentheses statement holds) && (not (ends_in_if holds))) (is_stmt without_parentheses statement other) ((is_stmt with_parentheses statement (full_stmt holds)) && (not (ends_in_if (full_stmt holds)))) (is_stmt with_parentheses statement (full_stmt other)) (split (is_stmt without_parentheses statement holds) (not (ends_in_if holds)) (is_stmt with_parentheses statement (full_stmt holds)) (not (ends_in_if (full_stmt holds))) (kept_stands statement holds) (λ k. ap not (open_is holds) ∙ k)) (kept_stands statement other)) h
kept_stands statement (switch table cs) h = kept_stands cases cs h
kept_stands statement no_cases h = cc
kept_stands statement (case_of before label ss) h = cc
kept_stands cases no_statements h = cc
kept_stands cases (then before last) h = cc
kept_stands cases (block ss) h = cc
kept_stands cases empty h = cc
kept_stands cases (var of text) h = cc
kept_stands cases (var_is of text value) h = cc
kept_stands cases (assign target value) h = cc
kept_stands cases (expression e) h = cc
kept_stands cases (if_then c holds) h = cc
kept_stands cases (if_else c holds other) h = cc
kept_stands cases (switch table cs) h = cc
kept_stands cases no_cases h = refl
kept_stands cases (case_of before label ss) h = split (is_stmt without_parentheses cases before) (is_stmt without_parentheses statements ss) (is_stmt with_parentheses cases (full_stmt before)) (is_stmt with_parentheses statements (full_stmt ss)) (kept_stands cases before) (kept_stands statements ss) h

kept_variable : (v : Var) → is_var without_parentheses v ≡ true → is_var with_parentheses (full_var v) ≡ true
kept_variable v h = option_kept (is_exp without_parentheses) (is_exp with_parentheses) full kept_full v.initial h

-- keysets

never_value : (s : Simple) → is_simple without_parentheses s ≡ true → is_parenthesized_value (full_one s) ≡ false
never_value simple.Default h = refl
never_value simple.Any h = refl
never_value (simple.Mask a b) h = refl
never_value (simple.Range a b) h = refl
never_value (simple.Value e) h = never_parenthesized e h

kept_simply : (s : Simple) → is_simple without_parentheses s ≡ true → is_simple with_parentheses (full_simple s) ≡ true
kept_simply simple.Default h = refl
kept_simply simple.Any h = refl
kept_simply (simple.Mask a b) h = split (is_exp without_parentheses a) (is_exp without_parentheses b) (is_exp with_parentheses (full a)) (is_exp with_parentheses (full b)) (kept_full a) (kept_full b) h
kept_simply (simple.Range a b) h = split (is_exp without_parentheses a) (is_exp without_parentheses b) (is_exp with_parentheses (full a)) (is_exp with_parentheses (full b)) (kept_full a) (kept_full b) h
kept_simply (simple.Value e) h = kept_full e h

kept_one : (s : Simple) → is_simple without_parentheses s ≡ true → is_simple with_parentheses (full_one s) ≡ true
kept_one simple.Default h = refl
kept_one simple.Any h = refl
kept_one (simple.Mask a b) h = kept_simply (simple.Mask a b) h
kept_one (simple.Range a b) h = kept_simply (simple.Range a b) h
kept_one (simple.Value e) h = kept_within e h

kept_keys : (k : Keyset) → is_keyset without_parentheses k ≡ true → is_keyset with_parentheses (full_keyset k) ≡ true
kept_keys (keyset.Tuple ss) h =
    split (is_some_listed ss) (list_all (is_simple without_parentheses) ss) (is_some_listed (map full_simple ss)) (list_all (is_simple with_parentheses) (map full_simple ss))
    (λ k. some_kept full_simple ss ∙ k) (all_kept (is_simple without_parentheses) (is_simple with_parentheses) full_simple kept_simply ss) h
kept_keys (keyset.One s) h =
    let simply = left_true (is_simple without_parentheses s) (not (is_parenthesized_value s)) h in
    both (is_simple with_parentheses (full_one s)) (not (is_parenthesized_value (full_one s))) (kept_one s simply) (not_false (is_parenthesized_value (full_one s)) (never_value s simply))

kept_select : (c : SelectCase) → is_case without_parentheses c ≡ true → is_case with_parentheses (full_case c) ≡ true
kept_select c h = kept_keys c.keyset h

kept_goes : (t : Transition) → is_transition without_parentheses t ≡ true → is_transition with_parentheses (full_transition t) ≡ true
kept_goes (transition.Go t) h = refl
kept_goes (transition.Select es cs) h =
    split (is_some_listed es && list_all (is_exp without_parentheses) es) (list_all (is_case without_parentheses) cs)
    (is_some_listed (map full es) && list_all (is_exp with_parentheses) (map full es)) (list_all (is_case with_parentheses) (map full_case cs))
    (split (is_some_listed es) (list_all (is_exp without_parentheses) es) (is_some_listed (map full es)) (list_all (is_exp with_parentheses) (map full es))
    (λ k. some_kept full es ∙ k) (all_kept (is_exp without_parentheses) (is_exp with_parentheses) full kept_full es))
    (all_kept (is_case without_parentheses) (is_case with_parentheses) full_case kept_select cs) h

kept_stays : (s : State) → is_state without_parentheses s ≡ true → is_state with_parentheses (full_state s) ≡ true
kept_stays s h =
    split (is_stmt without_parentheses statements s.body) (is_transition without_parentheses s.transition) (is_stmt with_parentheses statements (full_stmt s.body)) (is_transition with_parentheses (full_transition s.transition))
    (kept_stands statements s.body) (kept_goes s.transition) h

kept_parses : (p : Parser16) → is_parser without_parentheses p ≡ true → is_parser with_parentheses (full_parser p) ≡ true
kept_parses p h =
    split (is_some_listed p.parameters) (list_all (is_var without_parentheses) p.vars && list_all (is_state without_parentheses) p.states)
    (is_some_listed p.parameters) (list_all (is_var with_parentheses) (map full_var p.vars) && list_all (is_state with_parentheses) (map full_state p.states))
    (λ k. k)
    (split (list_all (is_var without_parentheses) p.vars) (list_all (is_state without_parentheses) p.states) (list_all (is_var with_parentheses) (map full_var p.vars)) (list_all (is_state with_parentheses) (map full_state p.states))
    (all_kept (is_var without_parentheses) (is_var with_parentheses) full_var kept_variable p.vars) (all_kept (is_state without_parentheses) (is_state with_parentheses) full_state kept_stays p.states)) h

-- controls

kept_object : (i : Instance) → is_instance without_parentheses i ≡ true → is_instance with_parentheses (full_instance i) ≡ true
kept_object (instance.Counter size m text) h = kept_full size h
kept_object (instance.DirectCounter m text) h = refl
kept_object (instance.Register width size text) h = kept_full size h
kept_object (instance.Meter size m text) h = kept_full size h

kept_match : (k : TableKey) → is_key without_parentheses k ≡ true → is_key with_parentheses (full_key k) ≡ true
kept_match k h = split (is_exp without_parentheses k.exp) (are_notes k.notes) (is_exp with_parentheses (full k.exp)) (are_notes k.notes) (kept_full k.exp) (λ e. e) h

kept_has : (p : Property) → is_property without_parentheses p ≡ true → is_property with_parentheses (full_property p) ≡ true
kept_has (property.Key ks) h = all_kept (is_key without_parentheses) (is_key with_parentheses) full_key kept_match ks h
kept_has (property.Actions names) h = h
kept_has (property.Size n) h = refl
kept_has (property.Counters text) h = refl
kept_has (property.DefaultAction a arguments) h = kept_arguments arguments h

same_word : (p : Property) → keyword_text16 (property_word (full_property p)) ≡ keyword_text16 (property_word p)
same_word (property.Key ks) = refl
same_word (property.Actions names) = refl
same_word (property.Size n) = refl
same_word (property.Counters text) = refl
same_word (property.DefaultAction a given) = refl

texts_kept : (ps : List Property) → property_texts (map full_property ps) ≡ property_texts ps
texts_kept [] = refl
texts_kept (p ∷ ps) = (λ i. same_word p i ∷ texts_kept ps i)

kept_table_is : (t : Table16) → is_table without_parentheses t ≡ true → is_table with_parentheses (full_table t) ≡ true
kept_table_is t h =
    split (are_notes t.notes) (are_properties without_parentheses t.properties) (are_notes t.notes) (are_properties with_parentheses (map full_property t.properties)) (λ k. k)
    (λ k.
    both (list_all (is_property with_parentheses) (map full_property t.properties)) _
    (all_kept (is_property without_parentheses) (is_property with_parentheses) full_property kept_has t.properties (left_true (list_all (is_property without_parentheses) t.properties) _ k))
    (subst (λ words. (all_different words && is_among (keyword_text16 key.Actions) words) ≡ true) (sym (texts_kept t.properties)) (right_true (list_all (is_property without_parentheses) t.properties) _ k)))
    h

kept_declared : (l : Local) → is_local without_parentheses l ≡ true → is_local with_parentheses (full_local l) ≡ true
kept_declared (local.Instance notes i) h = split (are_notes notes) (is_instance without_parentheses i) (are_notes notes) (is_instance with_parentheses (full_instance i)) (λ k. k) (kept_object i) h
kept_declared (local.Var v) h = kept_variable v h
kept_declared (local.Action a) h =
    split (are_notes a.notes) (is_stmt without_parentheses statements a.body) (are_notes a.notes) (is_stmt with_parentheses statements (full_stmt a.body)) (λ k. k) (kept_stands statements a.body) h
kept_declared (local.Table t) h = kept_table_is t h

kept_controls : (c : Control16) → is_control without_parentheses c ≡ true → is_control with_parentheses (full_control c) ≡ true
kept_controls c h =
    split (is_some_listed c.parameters) (list_all (is_local without_parentheses) c.locals && is_stmt without_parentheses statements c.body)
    (is_some_listed c.parameters) (list_all (is_local with_parentheses) (map full_local c.locals) && is_stmt with_parentheses statements (full_stmt c.body))
    (λ k. k)
    (split (list_all (is_local without_parentheses) c.locals) (is_stmt without_parentheses statements c.body) (list_all (is_local with_parentheses) (map full_local c.locals)) (is_stmt with_parentheses statements (full_stmt c.body))
    (all_kept (is_local without_parentheses) (is_local with_parentheses) full_local kept_declared c.locals) (kept_stands statements c.body)) h

kept_declares : (d : Decl16) → is_decl without_parentheses d ≡ true → is_decl with_parentheses (full_decl d) ≡ true
kept_declares (decl.Header header) h = refl
kept_declares (decl.Struct s) h = h
kept_declares (decl.Instance notes i) h = split (are_notes notes) (is_instance without_parentheses i) (are_notes notes) (is_instance with_parentheses (full_instance i)) (λ k. k) (kept_object i) h
kept_declares (decl.Parser p) h = kept_parses p h
kept_declares (decl.Control c) h = kept_controls c h

pub kept_keeps : (s : Syntax16) → is_syntax without_parentheses s ≡ true → is_syntax with_parentheses (full_syntax s) ≡ true
kept_keeps s h =
    split (list_all (is_decl without_parentheses) s.decls) (is_some_listed s.main) (list_all (is_decl with_parentheses) (map full_decl s.decls)) (is_some_listed s.main)
    (all_kept (is_decl without_parentheses) (is_decl with_parentheses) full_decl kept_declares s.decls) (λ k. k) h
