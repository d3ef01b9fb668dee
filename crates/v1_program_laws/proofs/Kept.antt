-- What a program that keeps the rules keeps in the statements and variables of its parser.
use Rattle.std.proofs.Common.{◌≡◌, inl, inr, ◌+◌, ◌&&◌, ◌||◌, nat_eq, Bool, true, false, cond, Option, Some, None, IfSome, List, [], ◌∷◌, ◌++◌, map, get_or, refl, sym, ap, ◌∙◌, subst}
use Rattle.std.specs.Prelude.{flat_map, IsTrue}
use Rattle.std.specs.List.{list_any}
use Rattle.std.specs.Option.{option_map_or}
use Rattle.std.specs.Str.{bytes_eq}
use Rattle.std.proofs.lemmas.Slice.Eq.{bytes_eq-Decides}
use Rattle.std.proofs.lemmas.Grind.{flat_map-append}
use Rattle.std.proofs.lemmas.List.Folds.{list_any-append}
use Rattle.p416_syntax.specs.declared.parsers.Var.{Var}
use Rattle.p416_syntax.specs.declared.parsers.State.{State}
use Rattle.p416_syntax.specs.declared.parsers.Parser16.{Parser16}
use Rattle.p416_syntax.specs.declared.program.Decl16.{Decl16}
use Rattle.p416_syntax.specs.declared.program.Decl16.TheVariants as decl
use Rattle.p416_syntax.specs.declared.program.Syntax16.{Syntax16}
use Rattle.p416_syntax.specs.Tree.{Exp16, Stmt16, no_statements, then, block, empty, var, var_is, assign, expression, if_then, if_else, switch, no_cases, case_of}
use Rattle.p416_syntax.specs.Names.{Name, repeats}
use Rattle.p416_syntax.specs.Kinds.{boolean}
use Rattle.p416_syntax.specs.Scopes.{Known, called_of, Scope, kind_of_type, known_parameter}
use Rattle.p416_syntax.specs.Calls.{value, target, statement, parser_position}
use Rattle.p416_syntax.specs.Expressions.{kind_of}
use Rattle.p416_syntax.specs.Uses.{Use, of_variable, of_block_parameter, names_of_scope, a_body, type_uses, uses}
use Rattle.p416_syntax.specs.Statements.{behind, declared_in, nesting, Visit, visit, visits, assigned_place, own_uses, visit_uses, statement_uses}
use Rattle.p416_syntax.specs.Declarations.{top_names, layouts_of, known_var, known_state, parser_names, var_uses, body_uses, transition_uses, state_uses, parameter_uses, parser_uses}
use Rattle.p416_syntax.specs.Literals.{overflows}
use Rattle.p416_syntax.specs.Writes.{writes_constant}
use Rattle.p416_syntax.specs.Arguments.{is_miscounted}
use Rattle.p416_syntax.specs.Externs.{is_outside_block}
use Rattle.p416_syntax.specs.Unknown.{is_misnamed}
use Rattle.p416_syntax.specs.Main.{positions_from, positions_of, are_blocks, wanted_blocks, are_headers, is_metadata, headers_kind, metadata_kind}
use Rattle.p416_syntax.specs.Breaks.{BreaksNone, program_rules, has_use, scope_of, SomeDeclaration, IsBroken, uses_in, program_uses}
use Rattle.v1_core.specs.Parsing.{parser_of}
use Rattle.v1_block_laws.specs.Variables.{is_parser, scope_in_parser}
use Rattle.v1_block_laws.specs.Keeping.{Each}
use Rattle.v1_block_laws.proofs.Tests.{first_false, second_false, left_true, in_front, at_end}
use Rattle.v1_block_laws.proofs.Finding.{parser_found}
use Rattle.v1_block_laws.proofs.Accepted.{names_kept, main_kept, none_within, kept_within}
use Rattle.v1_block_laws.proofs.Blocks.{parser_declared}
use Rattle.v1_statement_laws.specs.Meeting.{FindNothing, StatementMeets}
use Rattle.v1_program_laws.specs.Rules.{judged_rules, InParser, KeptInParser}

-- what is found in no part

pub find_front : (tests : List (Use → Bool)) (xs ys : List Use) → FindNothing tests (xs ++ ys) → FindNothing tests xs
find_front [] xs ys h = tt
find_front (test ∷ tests) xs ys h = (in_front test xs ys h.0, find_front tests xs ys h.1)

pub find_back : (tests : List (Use → Bool)) (xs ys : List Use) → FindNothing tests (xs ++ ys) → FindNothing tests ys
find_back [] xs ys h = tt
find_back (test ∷ tests) xs ys h = (at_end test xs ys h.0, find_back tests xs ys h.1)

abbrev Nothing : List Use → Type 0
Nothing judged = FindNothing judged_rules judged

front : (xs ys : List Use) → Nothing (xs ++ ys) → Nothing xs
front xs ys h = find_front judged_rules xs ys h

back : (xs ys : List Use) → Nothing (xs ++ ys) → Nothing ys
back xs ys h = find_back judged_rules xs ys h

each_meets : {X : Type 0} (judged : X → List Use) (B : X → Type 0) → ((x : X) → Nothing (judged x) → B x) → (xs : List X) → Nothing (flat_map judged xs) → Each B xs
each_meets judged B one [] kept = tt
each_meets judged B one (x ∷ xs) kept = (one x (front (judged x) (flat_map judged xs) kept), each_meets judged B one xs (back (judged x) (flat_map judged xs) kept))

-- statements stand in the parser

within_behind : (x : Stmt16) (s : Scope) → InParser s → InParser (behind x s)
within_behind no_statements s h = h
within_behind ((then) before last) s h = within_behind last (behind before s) (within_behind before s h)
within_behind (block body) s h = h
within_behind empty s h = h
within_behind (var t called) s h = record { part = h.part; stands = h.stands }
within_behind (var_is t called e) s h = record { part = h.part; stands = h.stands }
within_behind (assign e f) s h = h
within_behind (expression e) s h = h
within_behind (if_then c positive) s h = h
within_behind (if_else c positive negative) s h = h
within_behind (switch table cases) s h = h
within_behind no_cases s h = h
within_behind (case_of before label body) s h = h

split : (xs ys : List Visit) → Nothing (flat_map visit_uses (xs ++ ys)) → Nothing (flat_map visit_uses xs ++ flat_map visit_uses ys)
split xs ys kept = subst Nothing (flat_map-append visit_uses xs ys) kept

behind_first : (own : List Use) (rest : List Visit) → Nothing (own ++ flat_map visit_uses rest) → Nothing (flat_map visit_uses rest)
behind_first own rest kept = back own (flat_map visit_uses rest) kept

pub statement_meets : (s : Scope) (x : Stmt16) → InParser s → Nothing (statement_uses s x) → StatementMeets KeptInParser s x
statement_meets s no_statements within kept = tt
statement_meets s ((then) before last) within kept =
    let both = split (visits s before) (visits (behind before s) last) kept in (
      statement_meets s before within (front (statement_uses s before) (statement_uses (behind before s) last) both),
      statement_meets (behind before s) last (within_behind before s within) (back (statement_uses s before) (statement_uses (behind before s) last) both),
    )
statement_meets s (block body) within kept = statement_meets s body within (behind_first (own_uses s (block body)) (visits s body) kept)
statement_meets s empty within kept = tt
statement_meets s (var t called) within kept = tt
statement_meets s (var_is t called e) within kept =
    record { within = within; judged = back (type_uses s of_variable t) (uses s (value (kind_of_type s.names t)) e) (front (own_uses s (var_is t called e)) [] kept) }
statement_meets s (assign e f) within kept =
    let own = front (own_uses s (assign e f)) [] kept in
    (record { within = within; judged = front (uses s target e) (uses s (assigned_place (kind_of s e)) f) own }, record { within = within; judged = back (uses s target e) (uses s (assigned_place (kind_of s e)) f) own })
statement_meets s (expression e) within kept = record { within = within; judged = front (uses s statement e) [] kept }
statement_meets s (if_then c positive) within kept = (
  record { within = within; judged = front (uses s (value boolean) c) (statement_uses s positive) kept },
  statement_meets s positive within (behind_first (uses s (value boolean) c) (visits s positive) kept),
)
statement_meets s (if_else c positive negative) within kept =
    let both = split (visit s (if_else c positive negative) ∷ visits s positive) (visits s negative) kept in
    let first = front (uses s (value boolean) c ++ statement_uses s positive) (statement_uses s negative) both in (
      record { within = within; judged = front (uses s (value boolean) c) (statement_uses s positive) first },
      statement_meets s positive within (back (uses s (value boolean) c) (statement_uses s positive) first),
      statement_meets s negative within (back (uses s (value boolean) c ++ statement_uses s positive) (statement_uses s negative) both),
    )
statement_meets s (switch table cases) within kept = statement_meets s cases within (behind_first (own_uses s (switch table cases)) (visits s cases) kept)
statement_meets s no_cases within kept = tt
statement_meets s (case_of before label body) within kept =
    let both = split (visits s before) (visit s (case_of before label body) ∷ visits s body) kept in (
      statement_meets s before within (front (statement_uses s before) (own_uses s (case_of before label body) ++ statement_uses s body) both),
      statement_meets s body within (behind_first (own_uses s (case_of before label body)) (visits s body) (back (statement_uses s before) (own_uses s (case_of before label body) ++ statement_uses s body) both)),
    )

-- the parser

abbrev pub VarMeets : Scope → Var → Type 0
VarMeets s v = IfSome v.initial (λ e. KeptInParser s (value (kind_of_type s.names v.of)) e)

abbrev pub StateMeets : Scope → State → Type 0
StateMeets s x = StatementMeets KeptInParser s x.body

var_meets : (s : Scope) → InParser s → (v : Var) → Nothing (var_uses s v) → VarMeets s v
var_meets s within v kept = by v.initial (back (type_uses s of_variable v.of) (option_map_or (uses s (value (kind_of_type s.names v.of))) v.initial []) kept) where
  by : (o : Option Exp16) → Nothing (option_map_or (uses s (value (kind_of_type s.names v.of))) o []) → IfSome o (λ e. KeptInParser s (value (kind_of_type s.names v.of)) e)
  by None rest = tt
  by (Some e) rest = record { within = within; judged = rest }

body_meets : (s : Scope) (body : Stmt16) → InParser s → Nothing (body_uses s 0 body) → StatementMeets KeptInParser s body
body_meets s body within kept = statement_meets s body within (body_rest s body kept) where
  body_rest : (s : Scope) (body : Stmt16) → Nothing (body_uses s 0 body) → Nothing (statement_uses s body)
  body_rest s body kept = back (names_of_scope (declared_in body) ∷ a_body (0 + nesting body) ∷ []) (statement_uses s body) kept

state_meets : (s : Scope) → InParser s → (x : State) → Nothing (state_uses s x) → StateMeets s x
state_meets s within x kept = body_meets s x.body within (front (body_uses s 0 x.body) (transition_uses (behind x.body s) x.transition) kept)

-- what no declaration breaks

no_use : (syntax : Syntax16) (test : Use → Bool) (d : Decl16) → (IsTrue (has_use test (scope_of syntax d) d) → ⊥) → list_any test (uses_in syntax d) ≡ false
no_use syntax test d never = by (has_use test (scope_of syntax d) d) refl where
  by : (t : Bool) → has_use test (scope_of syntax d) d ≡ t → has_use test (scope_of syntax d) d ≡ false
  by true e = absurd (never e)
  by false e = e

no_uses : (syntax : Syntax16) (test : Use → Bool) (ds : List Decl16) → (SomeDeclaration (λ d. IsTrue (has_use test (scope_of syntax d) d)) ds → ⊥) → list_any test (flat_map (uses_in syntax) ds) ≡ false
no_uses syntax test [] never = refl
no_uses syntax test (d ∷ ds) never =
    list_any-append test (uses_in syntax d) (flat_map (uses_in syntax) ds)
    ∙ (ap (λ (t : Bool). t || list_any test (flat_map (uses_in syntax) ds)) (no_use syntax test d (λ x. never (inl x)))
    ∙ no_uses syntax test ds (λ x. never (inr x)))

literals_kept : (syntax : Syntax16) → BreaksNone syntax program_rules → list_any overflows (program_uses syntax) ≡ false
unfolding IsBroken
literals_kept syntax keeps = no_uses syntax overflows syntax.decls (λ x. keeps.1.1.1.0 (inl x))

writes_kept : (syntax : Syntax16) → BreaksNone syntax program_rules → list_any writes_constant (program_uses syntax) ≡ false
unfolding IsBroken
writes_kept syntax keeps = no_uses syntax writes_constant syntax.decls (λ x. keeps.1.1.1.1.0 (inl x))

counts_kept : (syntax : Syntax16) → BreaksNone syntax program_rules → list_any is_miscounted (program_uses syntax) ≡ false
unfolding IsBroken
counts_kept syntax keeps = no_uses syntax is_miscounted syntax.decls (λ x. keeps.1.1.1.1.1.0 (inl x))

places_kept : (syntax : Syntax16) → BreaksNone syntax program_rules → list_any is_outside_block (program_uses syntax) ≡ false
unfolding IsBroken
places_kept syntax keeps = no_uses syntax is_outside_block syntax.decls (λ x. keeps.1.1.1.1.1.1.1.1.1.0 (inl x))

-- names that are apart

map_joined : {A B : Type 0} (f : A → B) (xs ys : List A) → map f (xs ++ ys) ≡ map f xs ++ map f ys
map_joined f [] ys = refl
map_joined {B = B} f (x ∷ xs) ys = ap (λ (l : List B). f x ∷ l) (map_joined f xs ys)

repeats_front : (xs ys : List Name) → repeats (xs ++ ys) ≡ false → repeats xs ≡ false
repeats_front [] ys h = refl
repeats_front (x ∷ xs) ys h =
    ap (λ (t : Bool). t || repeats xs) (in_front (bytes_eq x) xs ys (first_false (list_any (bytes_eq x) (xs ++ ys)) (repeats (xs ++ ys)) h))
    ∙ repeats_front xs ys (second_false (list_any (bytes_eq x) (xs ++ ys)) (repeats (xs ++ ys)) h)

repeats_back : (xs ys : List Name) → repeats (xs ++ ys) ≡ false → repeats ys ≡ false
repeats_back [] ys h = h
repeats_back (x ∷ xs) ys h = repeats_back xs ys (second_false (list_any (bytes_eq x) (xs ++ ys)) (repeats (xs ++ ys)) h)

names_are : (names : List Known) (vars : List Var) → map called_of (map (known_var names) vars) ≡ map (λ (v : Var). v.name) vars
names_are names [] = refl
names_are names (v ∷ vars) = ap (λ (l : List Name). v.name ∷ l) (names_are names vars)

module _ (syntax : Syntax16) (p : Parser16) (keeps : BreaksNone syntax program_rules) (found : parser_of syntax ≡ Some p) where
  -- of its declaration
  one_kept : (test : Use → Bool) → list_any test (program_uses syntax) ≡ false → list_any test (uses_in syntax (decl.Parser p)) ≡ false
  one_kept test none = none_within syntax (is_parser p.name) test (decl.Parser p) (parser_declared syntax p found) none

  all_kept : Nothing (parser_uses (scope_of syntax (decl.Parser p)) p)
  all_kept =
      let two = kept_within syntax (is_parser p.name) (decl.Parser p) (parser_declared syntax p found) keeps in (
        one_kept is_misnamed (names_kept syntax keeps),
        (two.1, (two.0, (one_kept overflows (literals_kept syntax keeps), (one_kept writes_constant (writes_kept syntax keeps), (one_kept is_miscounted (counts_kept syntax keeps), (one_kept is_outside_block (places_kept syntax keeps), tt)))))),
      )

  -- it stands first in `main`
  first_place : (main : List Name) → syntax.main ≡ main → list_any (nat_eq parser_position) (positions_of syntax p.name) ≡ true
  first_place [] is = absurd (cc (sym (ap (λ (l : List Name). are_blocks (top_names syntax.decls) syntax.decls (wanted_blocks (headers_kind syntax) (metadata_kind syntax)) l) is)
      ∙ left_true (are_blocks (top_names syntax.decls) syntax.decls (wanted_blocks (headers_kind syntax) (metadata_kind syntax)) syntax.main) (are_headers (layouts_of syntax.decls) (headers_kind syntax) && is_metadata (layouts_of syntax.decls) (metadata_kind syntax)) (main_kept syntax keeps)))
  first_place (text ∷ main) is =
      let named : p.name ≡ text = (parser_found syntax syntax.decls (get_or syntax.main parser_position []) p found).1 ∙ ap (λ (l : List Name). get_or l parser_position []) is in
      ap (λ (l : List Name). list_any (nat_eq parser_position) (positions_from 0 l p.name)) is
      ∙ ap (λ (t : Bool). list_any (nat_eq parser_position) (cond t (0 ∷ positions_from 1 main p.name) (positions_from 1 main p.name))) (ap (λ (n : Name). bytes_eq text n) named ∙ (bytes_eq-Decides text text).1 refl)

  pub in_parser : InParser (scope_in_parser syntax p)
  in_parser = record { part = refl; stands = first_place syntax.main refl }

  -- no two of its names are one
  pub names_apart : repeats (map (λ (v : Var). v.name) p.vars) ≡ false
  names_apart =
      let names = (scope_of syntax (decl.Parser p)).names in
      let all : repeats (map called_of (parser_names names p)) ≡ false = first_false (repeats (map called_of (parser_names names p))) _ all_kept.0 in
      let front : repeats (map called_of (map (known_parameter names) p.parameters ++ map (known_var names) p.vars)) ≡ false =
      repeats_front (map called_of (map (known_parameter names) p.parameters ++ map (known_var names) p.vars)) (map called_of (map known_state p.states)) (subst (λ (l : List Name). repeats l ≡ false) (map_joined called_of (map (known_parameter names) p.parameters ++ map (known_var names) p.vars) (map known_state p.states)) all) in
      subst (λ (l : List Name). repeats l ≡ false) (names_are names p.vars)
      (repeats_back (map called_of (map (known_parameter names) p.parameters)) (map called_of (map (known_var names) p.vars)) (subst (λ (l : List Name). repeats l ≡ false) (map_joined called_of (map (known_parameter names) p.parameters) (map (known_var names) p.vars)) front))

  pub parser_meets : Each (VarMeets (scope_in_parser syntax p)) p.vars × Each (StateMeets (scope_in_parser syntax p)) p.states
  parser_meets =
      let s = scope_of syntax (decl.Parser p) in
      let t = scope_in_parser syntax p in
      let parameters = names_of_scope (map called_of (parser_names s.names p)) ∷ flat_map (parameter_uses s of_block_parameter) p.parameters in
      let vars = flat_map (var_uses t) p.vars in
      let states = flat_map (state_uses t) p.states in (
        each_meets (var_uses t) (VarMeets t) (var_meets t in_parser) p.vars (back parameters vars (front (parameters ++ vars) states all_kept)),
        each_meets (state_uses t) (StateMeets t) (state_meets t in_parser) p.states (back (parameters ++ vars) states all_kept),
      )
