-- The syntax without its parentheses: it keeps to the grammar where none stand, and no token is new in it.
use Rattle.std.proofs.Common.{◌≡◌, suc, Bool, true, false, not, ◌&&◌, ◌||◌, List, [], ◌∷◌, map, Option, Some, None, refl, sym, ap, subst, ◌∙◌}
use Rattle.std.specs.List.{list_all}
use Rattle.std.specs.Option.{option_map}
use Rattle.p416_syntax.specs.declared.parsers.Var.{Var}
use Rattle.p416_syntax.specs.declared.parsers.Simple.{Simple}
use Rattle.p416_syntax.specs.declared.parsers.Simple.TheVariants as simple
use Rattle.p416_syntax.specs.declared.parsers.Keyset.{Keyset}
use Rattle.p416_syntax.specs.declared.parsers.Keyset.TheVariants as keyset
use Rattle.p416_syntax.specs.declared.parsers.SelectCase.{SelectCase}
use Rattle.p416_syntax.specs.declared.parsers.Transition.{Transition}
use Rattle.p416_syntax.specs.declared.parsers.Transition.TheVariants as transition
use Rattle.p416_syntax.specs.declared.parsers.State.{State}
use Rattle.p416_syntax.specs.declared.parsers.Parser16.{Parser16}
use Rattle.p416_syntax.specs.declared.controls.Instance.{Instance}
use Rattle.p416_syntax.specs.declared.controls.Instance.TheVariants as instance
use Rattle.p416_syntax.specs.declared.controls.TableKey.{TableKey}
use Rattle.p416_syntax.specs.declared.controls.Property.{Property}
use Rattle.p416_syntax.specs.declared.controls.Property.TheVariants as property
use Rattle.p416_syntax.specs.declared.controls.Table16.{Table16}
use Rattle.p416_syntax.specs.declared.controls.Local.{Local}
use Rattle.p416_syntax.specs.declared.controls.Local.TheVariants as local
use Rattle.p416_syntax.specs.declared.controls.Control16.{Control16}
use Rattle.p416_syntax.specs.declared.program.Decl16.{Decl16}
use Rattle.p416_syntax.specs.declared.program.Decl16.TheVariants as decl
use Rattle.p416_syntax.specs.declared.program.Syntax16.{Syntax16}
use Rattle.p416_syntax.specs.Tree.{Exp16, literal, truth, error, name, member, index, slice, call, lookahead, cast, unary, binary, choice, parenthesized, no_arguments, argument, listed, Stmt16, no_statements, then, block, empty, var, var_is, assign, expression, if_then, if_else, switch, no_cases, case_of}
use Rattle.p416_syntax.specs.Operators.{postfix_power, prefix_power, binary_power, choice_power}
use Rattle.p416_syntax.specs.Parentheses.{bare_exp, bare_stmt, bare_var, bare_simple, bare_keyset, bare_case, bare_transition, bare_state, bare_parser, bare_instance, bare_key, bare_property, bare_table, bare_local, bare_control, bare_decl, bare}
use Rattle.p416_syntax.specs.Conditions.{with_parentheses, without_parentheses, is_some_listed, is_option, are_notes, fits, ExpPlace, one, many, is_exp_at, is_exp, is_call, ends_in_if, StmtPlace, statements, statement, cases, is_stmt, is_var, is_simple, is_parenthesized, is_parenthesized_value, is_keyset, is_case, is_transition, is_state, is_parser, is_instance, is_key, is_property, are_properties, all_different, is_among, is_table, is_local, is_control, is_decl, is_syntax}
use Rattle.p416_reader.proofs.Meaning.{needed_text}
use Rattle.p416_reader.proofs.Lists.{both, left_true, right_true, not_false}
use Rattle.p416_reader.proofs.ExpressionLaws.{call_is, open_is}
use Rattle.p416_reader.proofs.Sound.Controls.{texts_bare}

-- a second place that takes lists wherever the first does
abbrev widens : ExpPlace → ExpPlace → Bool
widens (one least x) (one other y) = not x || y
widens (many x) (many y) = not x || y
widens _ _ = false

widens_same : (x : Bool) → (not x || x) ≡ true
widens_same true = refl
widens_same false = refl

lists_too : (x y : Bool) → (not x || y) ≡ true → x ≡ true → y ≡ true
lists_too true y w h = w
lists_too false y w h = cc

pub bare_at : (p q : ExpPlace) (e : Exp16) → widens p q ≡ true → is_exp_at with_parentheses p e ≡ true → is_exp_at without_parentheses q (bare_exp e) ≡ true
bare_at (one l x) (one k y) (literal n) w h = refl
bare_at (one l x) (one k y) (truth v) w h = refl
bare_at (one l x) (one k y) error w h = refl
bare_at (one l x) (one k y) (name text) w h = refl
bare_at (one l x) (one k y) (member e text) w h = bare_at (one postfix_power false) (one postfix_power false) e refl h
bare_at (one l x) (one k y) (index e at) w h = bare_at (one postfix_power false) (one postfix_power false) e refl h
bare_at (one l x) (one k y) (slice e high low) w h = bare_at (one postfix_power false) (one postfix_power false) e refl h
bare_at (one l x) (one k y) (call e es) w h = both (is_exp_at without_parentheses (one postfix_power false) (bare_exp e)) (is_exp_at without_parentheses (many true) (bare_exp es)) (bare_at (one postfix_power false) (one postfix_power false) e refl (left_true (is_exp_at with_parentheses (one postfix_power false) e) (is_exp_at with_parentheses (many true) es) h)) (bare_at (many true) (many true) es refl (right_true (is_exp_at with_parentheses (one postfix_power false) e) (is_exp_at with_parentheses (many true) es) h))
bare_at (one l x) (one k y) (lookahead e of es) w h = both (is_exp_at without_parentheses (one postfix_power false) (bare_exp e)) (is_exp_at without_parentheses (many true) (bare_exp es)) (bare_at (one postfix_power false) (one postfix_power false) e refl (left_true (is_exp_at with_parentheses (one postfix_power false) e) (is_exp_at with_parentheses (many true) es) h)) (bare_at (many true) (many true) es refl (right_true (is_exp_at with_parentheses (one postfix_power false) e) (is_exp_at with_parentheses (many true) es) h))
bare_at (one l x) (one k y) (cast to e) w h = bare_at (one prefix_power false) (one prefix_power false) e refl (right_true (fits with_parentheses l prefix_power) (is_exp_at with_parentheses (one prefix_power false) e) h)
bare_at (one l x) (one k y) (unary operator e) w h = bare_at (one prefix_power false) (one prefix_power false) e refl (right_true (fits with_parentheses l prefix_power) (is_exp_at with_parentheses (one prefix_power false) e) h)
bare_at (one l x) (one k y) (binary operator a b) w h = both (is_exp_at without_parentheses (one (binary_power operator) false) (bare_exp a)) (is_exp_at without_parentheses (one (suc (binary_power operator)) false) (bare_exp b)) (bare_at (one (binary_power operator) false) (one (binary_power operator) false) a refl (left_true (is_exp_at with_parentheses (one (binary_power operator) false) a) (is_exp_at with_parentheses (one (suc (binary_power operator)) false) b) (right_true (fits with_parentheses l (binary_power operator)) ((is_exp_at with_parentheses (one (binary_power operator) false) a) && (is_exp_at with_parentheses (one (suc (binary_power operator)) false) b)) h))) (bare_at (one (suc (binary_power operator)) false) (one (suc (binary_power operator)) false) b refl (right_true (is_exp_at with_parentheses (one (binary_power operator) false) a) (is_exp_at with_parentheses (one (suc (binary_power operator)) false) b) (right_true (fits with_parentheses l (binary_power operator)) ((is_exp_at with_parentheses (one (binary_power operator) false) a) && (is_exp_at with_parentheses (one (suc (binary_power operator)) false) b)) h)))
bare_at (one l x) (one k y) (choice c a b) w h = both (is_exp_at without_parentheses (one (suc choice_power) false) (bare_exp c)) ((is_exp_at without_parentheses (one 0 false) (bare_exp a)) && (is_exp_at without_parentheses (one choice_power false) (bare_exp b))) (bare_at (one (suc choice_power) false) (one (suc choice_power) false) c refl (left_true (is_exp_at with_parentheses (one (suc choice_power) false) c) ((is_exp_at with_parentheses (one 0 false) a) && (is_exp_at with_parentheses (one choice_power false) b)) (right_true (fits with_parentheses l choice_power) ((is_exp_at with_parentheses (one (suc choice_power) false) c) && ((is_exp_at with_parentheses (one 0 false) a) && (is_exp_at with_parentheses (one choice_power false) b))) h))) (both (is_exp_at without_parentheses (one 0 false) (bare_exp a)) (is_exp_at without_parentheses (one choice_power false) (bare_exp b)) (bare_at (one 0 false) (one 0 false) a refl (left_true (is_exp_at with_parentheses (one 0 false) a) (is_exp_at with_parentheses (one choice_power false) b) (right_true (is_exp_at with_parentheses (one (suc choice_power) false) c) ((is_exp_at with_parentheses (one 0 false) a) && (is_exp_at with_parentheses (one choice_power false) b)) (right_true (fits with_parentheses l choice_power) ((is_exp_at with_parentheses (one (suc choice_power) false) c) && ((is_exp_at with_parentheses (one 0 false) a) && (is_exp_at with_parentheses (one choice_power false) b))) h)))) (bare_at (one choice_power false) (one choice_power false) b refl (right_true (is_exp_at with_parentheses (one 0 false) a) (is_exp_at with_parentheses (one choice_power false) b) (right_true (is_exp_at with_parentheses (one (suc choice_power) false) c) ((is_exp_at with_parentheses (one 0 false) a) && (is_exp_at with_parentheses (one choice_power false) b)) (right_true (fits with_parentheses l choice_power) ((is_exp_at with_parentheses (one (suc choice_power) false) c) && ((is_exp_at with_parentheses (one 0 false) a) && (is_exp_at with_parentheses (one choice_power false) b))) h)))))
bare_at (one l x) (one k y) (parenthesized e) w h = bare_at (one 0 false) (one k y) e refl h
bare_at (one l x) (one k y) no_arguments w h = cc
bare_at (one l x) (one k y) (argument before last) w h = cc
bare_at (one l x) (one k y) (listed items) w h = both y (is_exp_at without_parentheses (many false) (bare_exp items)) (lists_too x y w (left_true x (is_exp_at with_parentheses (many false) items) h)) (bare_at (many false) (many false) items refl (right_true x (is_exp_at with_parentheses (many false) items) h))
bare_at (one l x) (many y) e w h = cc
bare_at (many x) (one k y) e w h = cc
bare_at (many x) (many y) (literal n) w h = cc
bare_at (many x) (many y) (truth v) w h = cc
bare_at (many x) (many y) error w h = cc
bare_at (many x) (many y) (name text) w h = cc
bare_at (many x) (many y) (member e text) w h = cc
bare_at (many x) (many y) (index e at) w h = cc
bare_at (many x) (many y) (slice e high low) w h = cc
bare_at (many x) (many y) (call e es) w h = cc
bare_at (many x) (many y) (lookahead e of es) w h = cc
bare_at (many x) (many y) (cast to e) w h = cc
bare_at (many x) (many y) (unary operator e) w h = cc
bare_at (many x) (many y) (binary operator a b) w h = cc
bare_at (many x) (many y) (choice c a b) w h = cc
bare_at (many x) (many y) (parenthesized e) w h = cc
bare_at (many x) (many y) no_arguments w h = refl
bare_at (many x) (many y) (argument before last) w h = both (is_exp_at without_parentheses (many y) (bare_exp before)) (is_exp_at without_parentheses (one 0 y) (bare_exp last)) (bare_at (many x) (many y) before w (left_true (is_exp_at with_parentheses (many x) before) (is_exp_at with_parentheses (one 0 x) last) h)) (bare_at (one 0 x) (one 0 y) last w (right_true (is_exp_at with_parentheses (many x) before) (is_exp_at with_parentheses (one 0 x) last) h))
bare_at (many x) (many y) (listed items) w h = cc

bare_full : (e : Exp16) → is_exp with_parentheses e ≡ true → is_exp without_parentheses (bare_exp e) ≡ true
bare_full e h = bare_at (one 0 false) (one 0 false) e refl h

-- what two parts pass, what becomes of them passes
split : (a b c d : Bool) → (a ≡ true → c ≡ true) → (b ≡ true → d ≡ true) → (a && b) ≡ true → (c && d) ≡ true
split a b c d f g h = both c d (f (left_true a b h)) (g (right_true a b h))

-- the same of a list and of what may be left out
all_bare : {A : Type 0} (test other : A → Bool) (f : A → A) → ((x : A) → test x ≡ true → other (f x) ≡ true) → (xs : List A) → list_all test xs ≡ true → list_all other (map f xs) ≡ true
all_bare test other f each [] h = refl
all_bare test other f each (x ∷ xs) h = split (test x) (list_all test xs) (other (f x)) (list_all other (map f xs)) (each x) (all_bare test other f each xs) h

option_bare : {A : Type 0} (test other : A → Bool) (f : A → A) → ((x : A) → test x ≡ true → other (f x) ≡ true) → (o : Option A) → is_option test o ≡ true → is_option other (option_map f o) ≡ true
option_bare test other f each None h = refl
option_bare test other f each (Some x) h = each x h

some_bare : {A : Type 0} (f : A → A) (xs : List A) → is_some_listed (map f xs) ≡ is_some_listed xs
some_bare f [] = refl
some_bare f (x ∷ xs) = refl

-- statements

pub bare_stands : (p : StmtPlace) (s : Stmt16) → is_stmt with_parentheses p s ≡ true → is_stmt without_parentheses p (bare_stmt s) ≡ true
bare_stands statements no_statements h = refl
bare_stands statements (then before last) h = split (is_stmt with_parentheses statements before) (is_stmt with_parentheses statement last) (is_stmt without_parentheses statements (bare_stmt before)) (is_stmt without_parentheses statement (bare_stmt last)) (bare_stands statements before) (bare_stands statement last) h
bare_stands statements (block ss) h = cc
bare_stands statements empty h = cc
bare_stands statements (var of text) h = cc
bare_stands statements (var_is of text value) h = cc
bare_stands statements (assign target value) h = cc
bare_stands statements (expression e) h = cc
bare_stands statements (if_then c holds) h = cc
bare_stands statements (if_else c holds other) h = cc
bare_stands statements (switch table cs) h = cc
bare_stands statements no_cases h = cc
bare_stands statements (case_of before label ss) h = cc
bare_stands statement no_statements h = cc
bare_stands statement (then before last) h = cc
bare_stands statement (block ss) h = bare_stands statements ss h
bare_stands statement empty h = refl
bare_stands statement (var of text) h = refl
bare_stands statement (var_is of text value) h = bare_full value h
bare_stands statement (assign target value) h = split (is_exp with_parentheses target) (is_exp with_parentheses value) (is_exp without_parentheses (bare_exp target)) (is_exp without_parentheses (bare_exp value)) (bare_full target) (bare_full value) h
bare_stands statement (expression e) h = split (is_exp with_parentheses e) (is_call e) (is_exp without_parentheses (bare_exp e)) (is_call (bare_exp e)) (bare_full e) (λ k. call_is e ∙ k) h
bare_stands statement (if_then c holds) h = split (is_exp with_parentheses c) (is_stmt with_parentheses statement holds) (is_exp without_parentheses (bare_exp c)) (is_stmt without_parentheses statement (bare_stmt holds)) (bare_full c) (bare_stands statement holds) h
bare_stands statement (if_else c holds other) h =
    split (is_exp with_parentheses c) (((is_stmt with_parentheses statement holds) && (not (ends_in_if holds))) && (is_stmt with_parentheses statement other)) (is_exp without_parentheses (bare_exp c)) (((is_stmt without_parentheses statement (bare_stmt holds)) && (not (ends_in_if (bare_stmt holds)))) && (is_stmt without_parentheses statement (bare_stmt other))) (bare_full c)
    (split ((is_stmt with_parentheses statement holds) && (not (ends_in_if holds))) (is_stmt with_parentheses statement other) ((is_stmt without_parentheses statement (bare_stmt holds)) && (not (ends_in_if (bare_stmt holds)))) (is_stmt without_parentheses statement (bare_stmt other)) (split (is_stmt with_parentheses statement holds) (not (ends_in_if holds)) (is_stmt without_parentheses statement (bare_stmt holds)) (not (ends_in_if (bare_stmt holds))) (bare_stands statement holds) (λ k. ap not (open_is holds) ∙ k)) (bare_stands statement other)) h
bare_stands statement (switch table cs) h = bare_stands cases cs h
bare_stands statement no_cases h = cc
bare_stands statement (case_of before label ss) h = cc
bare_stands cases no_statements h = cc
bare_stands cases (then before last) h = cc
bare_stands cases (block ss) h = cc
bare_stands cases empty h = cc
bare_stands cases (var of text) h = cc
bare_stands cases (var_is of text value) h = cc
bare_stands cases (assign target value) h = cc
bare_stands cases (expression e) h = cc
bare_stands cases (if_then c holds) h = cc
bare_stands cases (if_else c holds other) h = cc
bare_stands cases (switch table cs) h = cc
bare_stands cases no_cases h = refl
bare_stands cases (case_of before label ss) h = split (is_stmt with_parentheses cases before) (is_stmt with_parentheses statements ss) (is_stmt without_parentheses cases (bare_stmt before)) (is_stmt without_parentheses statements (bare_stmt ss)) (bare_stands cases before) (bare_stands statements ss) h

bare_variable : (v : Var) → is_var with_parentheses v ≡ true → is_var without_parentheses (bare_var v) ≡ true
bare_variable v h = option_bare (is_exp with_parentheses) (is_exp without_parentheses) bare_exp bare_full v.initial h

-- keysets

never_parenthesized : (e : Exp16) → is_parenthesized (bare_exp e) ≡ false
never_parenthesized (literal n) = refl
never_parenthesized (truth v) = refl
never_parenthesized error = refl
never_parenthesized (name text) = refl
never_parenthesized (member e text) = refl
never_parenthesized (index e at) = refl
never_parenthesized (slice e high low) = refl
never_parenthesized (call e es) = refl
never_parenthesized (lookahead e of es) = refl
never_parenthesized (cast to e) = refl
never_parenthesized (unary operator e) = refl
never_parenthesized (binary operator a b) = refl
never_parenthesized (choice c a b) = refl
never_parenthesized (parenthesized e) = never_parenthesized e
never_parenthesized no_arguments = refl
never_parenthesized (argument before last) = refl
never_parenthesized (listed items) = refl

never_value : (s : Simple) → is_parenthesized_value (bare_simple s) ≡ false
never_value simple.Default = refl
never_value simple.Any = refl
never_value (simple.Mask a b) = refl
never_value (simple.Range a b) = refl
never_value (simple.Value e) = never_parenthesized e

bare_simply : (s : Simple) → is_simple with_parentheses s ≡ true → is_simple without_parentheses (bare_simple s) ≡ true
bare_simply simple.Default h = refl
bare_simply simple.Any h = refl
bare_simply (simple.Mask a b) h = split (is_exp with_parentheses a) (is_exp with_parentheses b) (is_exp without_parentheses (bare_exp a)) (is_exp without_parentheses (bare_exp b)) (bare_full a) (bare_full b) h
bare_simply (simple.Range a b) h = split (is_exp with_parentheses a) (is_exp with_parentheses b) (is_exp without_parentheses (bare_exp a)) (is_exp without_parentheses (bare_exp b)) (bare_full a) (bare_full b) h
bare_simply (simple.Value e) h = bare_full e h

bare_keys : (k : Keyset) → is_keyset with_parentheses k ≡ true → is_keyset without_parentheses (bare_keyset k) ≡ true
bare_keys (keyset.Tuple ss) h =
    split (is_some_listed ss) (list_all (is_simple with_parentheses) ss) (is_some_listed (map bare_simple ss)) (list_all (is_simple without_parentheses) (map bare_simple ss))
    (λ k. some_bare bare_simple ss ∙ k) (all_bare (is_simple with_parentheses) (is_simple without_parentheses) bare_simple bare_simply ss) h
bare_keys (keyset.One s) h =
    both (is_simple without_parentheses (bare_simple s)) (not (is_parenthesized_value (bare_simple s)))
    (bare_simply s (left_true (is_simple with_parentheses s) (not (is_parenthesized_value s)) h)) (not_false (is_parenthesized_value (bare_simple s)) (never_value s))

bare_select : (c : SelectCase) → is_case with_parentheses c ≡ true → is_case without_parentheses (bare_case c) ≡ true
bare_select c h = bare_keys c.keyset h

bare_goes : (t : Transition) → is_transition with_parentheses t ≡ true → is_transition without_parentheses (bare_transition t) ≡ true
bare_goes (transition.Go t) h = refl
bare_goes (transition.Select es cs) h =
    split (is_some_listed es && list_all (is_exp with_parentheses) es) (list_all (is_case with_parentheses) cs)
    (is_some_listed (map bare_exp es) && list_all (is_exp without_parentheses) (map bare_exp es)) (list_all (is_case without_parentheses) (map bare_case cs))
    (split (is_some_listed es) (list_all (is_exp with_parentheses) es) (is_some_listed (map bare_exp es)) (list_all (is_exp without_parentheses) (map bare_exp es))
    (λ k. some_bare bare_exp es ∙ k) (all_bare (is_exp with_parentheses) (is_exp without_parentheses) bare_exp bare_full es))
    (all_bare (is_case with_parentheses) (is_case without_parentheses) bare_case bare_select cs) h

bare_stays : (s : State) → is_state with_parentheses s ≡ true → is_state without_parentheses (bare_state s) ≡ true
bare_stays s h =
    split (is_stmt with_parentheses statements s.body) (is_transition with_parentheses s.transition) (is_stmt without_parentheses statements (bare_stmt s.body)) (is_transition without_parentheses (bare_transition s.transition))
    (bare_stands statements s.body) (bare_goes s.transition) h

bare_parses : (p : Parser16) → is_parser with_parentheses p ≡ true → is_parser without_parentheses (bare_parser p) ≡ true
bare_parses p h =
    split (is_some_listed p.parameters) (list_all (is_var with_parentheses) p.vars && list_all (is_state with_parentheses) p.states)
    (is_some_listed p.parameters) (list_all (is_var without_parentheses) (map bare_var p.vars) && list_all (is_state without_parentheses) (map bare_state p.states))
    (λ k. k)
    (split (list_all (is_var with_parentheses) p.vars) (list_all (is_state with_parentheses) p.states) (list_all (is_var without_parentheses) (map bare_var p.vars)) (list_all (is_state without_parentheses) (map bare_state p.states))
    (all_bare (is_var with_parentheses) (is_var without_parentheses) bare_var bare_variable p.vars) (all_bare (is_state with_parentheses) (is_state without_parentheses) bare_state bare_stays p.states)) h

-- controls

bare_object : (i : Instance) → is_instance with_parentheses i ≡ true → is_instance without_parentheses (bare_instance i) ≡ true
bare_object (instance.Counter size m text) h = bare_full size h
bare_object (instance.DirectCounter m text) h = refl
bare_object (instance.Register width size text) h = bare_full size h
bare_object (instance.Meter size m text) h = bare_full size h

bare_match : (k : TableKey) → is_key with_parentheses k ≡ true → is_key without_parentheses (bare_key k) ≡ true
bare_match k h = split (is_exp with_parentheses k.exp) (are_notes k.notes) (is_exp without_parentheses (bare_exp k.exp)) (are_notes k.notes) (bare_full k.exp) (λ e. e) h

bare_has : (p : Property) → is_property with_parentheses p ≡ true → is_property without_parentheses (bare_property p) ≡ true
bare_has (property.Key ks) h = all_bare (is_key with_parentheses) (is_key without_parentheses) bare_key bare_match ks h
bare_has (property.Actions names) h = h
bare_has (property.Size n) h = refl
bare_has (property.Counters text) h = refl
bare_has (property.DefaultAction a arguments) h = bare_at (many false) (many false) arguments refl h

bare_table_is : (t : Table16) → is_table with_parentheses t ≡ true → is_table without_parentheses (bare_table t) ≡ true
bare_table_is t h =
    split (are_notes t.notes) (are_properties with_parentheses t.properties) (are_notes t.notes) (are_properties without_parentheses (map bare_property t.properties)) (λ k. k)
    (λ k.
    both (list_all (is_property without_parentheses) (map bare_property t.properties)) _
    (all_bare (is_property with_parentheses) (is_property without_parentheses) bare_property bare_has t.properties (left_true (list_all (is_property with_parentheses) t.properties) _ k))
    (subst (λ words. (all_different words && is_among needed_text words) ≡ true) (sym (texts_bare t.properties)) (right_true (list_all (is_property with_parentheses) t.properties) _ k)))
    h

bare_declared : (l : Local) → is_local with_parentheses l ≡ true → is_local without_parentheses (bare_local l) ≡ true
bare_declared (local.Instance notes i) h = split (are_notes notes) (is_instance with_parentheses i) (are_notes notes) (is_instance without_parentheses (bare_instance i)) (λ k. k) (bare_object i) h
bare_declared (local.Var v) h = bare_variable v h
bare_declared (local.Action a) h =
    split (are_notes a.notes) (is_stmt with_parentheses statements a.body) (are_notes a.notes) (is_stmt without_parentheses statements (bare_stmt a.body)) (λ k. k) (bare_stands statements a.body) h
bare_declared (local.Table t) h = bare_table_is t h

bare_controls : (c : Control16) → is_control with_parentheses c ≡ true → is_control without_parentheses (bare_control c) ≡ true
bare_controls c h =
    split (is_some_listed c.parameters) (list_all (is_local with_parentheses) c.locals && is_stmt with_parentheses statements c.body)
    (is_some_listed c.parameters) (list_all (is_local without_parentheses) (map bare_local c.locals) && is_stmt without_parentheses statements (bare_stmt c.body))
    (λ k. k)
    (split (list_all (is_local with_parentheses) c.locals) (is_stmt with_parentheses statements c.body) (list_all (is_local without_parentheses) (map bare_local c.locals)) (is_stmt without_parentheses statements (bare_stmt c.body))
    (all_bare (is_local with_parentheses) (is_local without_parentheses) bare_local bare_declared c.locals) (bare_stands statements c.body)) h

bare_declares : (d : Decl16) → is_decl with_parentheses d ≡ true → is_decl without_parentheses (bare_decl d) ≡ true
bare_declares (decl.Header header) h = refl
bare_declares (decl.Struct s) h = h
bare_declares (decl.Instance notes i) h = split (are_notes notes) (is_instance with_parentheses i) (are_notes notes) (is_instance without_parentheses (bare_instance i)) (λ k. k) (bare_object i) h
bare_declares (decl.Parser p) h = bare_parses p h
bare_declares (decl.Control c) h = bare_controls c h

pub bare_keeps : (s : Syntax16) → is_syntax with_parentheses s ≡ true → is_syntax without_parentheses (bare s) ≡ true
bare_keeps s h =
    split (list_all (is_decl with_parentheses) s.decls) (is_some_listed s.main) (list_all (is_decl without_parentheses) (map bare_decl s.decls)) (is_some_listed s.main)
    (all_bare (is_decl with_parentheses) (is_decl without_parentheses) bare_decl bare_declares s.decls) (λ k. k) h
