-- Of an accepted program no rule on what is judged is broken in its controls, and their actions call those to which the graph of
-- calls leads.
use Rattle.std.proofs.Common.{◌≡◌, inl, inr, ℕ, suc, ◌+◌, IsTrue, Bool, true, false, cond, not, ◌||◌, ◌==◌, Option, Some, None, IfSome, List, [], ◌∷◌, ◌++◌, map, flat_map, filter_map, get_or, refl, sym, ap, ◌∙◌, subst, arith, bytes_eq}
use Rattle.std.specs.Prelude.{option_and_then}
use Rattle.std.specs.Option.{option_map_or}
use Rattle.std.specs.List.{list_any, cons_option, position_from}
use Rattle.std.proofs.lemmas.List.Folds.{list_any-append}
use Rattle.std.proofs.lemmas.Grind.{flat_map-append}
use Rattle.std.proofs.lemmas.Iterator.Adapters.{position_from-zero}
use Rattle.std.proofs.lemmas.Bool.Decides.{Decides-eqb}
use Rattle.std.proofs.lemmas.Slice.Eq.{bytes_eq-Decides}
use Rattle.digraph.specs.Graphs.{successors}
use Rattle.p416_syntax.specs.declared.controls.Action16.{Action16}
use Rattle.p416_syntax.specs.declared.controls.Local.{Local}
use Rattle.p416_syntax.specs.declared.controls.Local.TheVariants as local
use Rattle.p416_syntax.specs.declared.controls.Control16.{Control16}
use Rattle.p416_syntax.specs.declared.program.Decl16.{Decl16}
use Rattle.p416_syntax.specs.declared.program.Decl16.TheVariants as decl
use Rattle.p416_syntax.specs.declared.program.Syntax16.{Syntax16}
use Rattle.p416_syntax.specs.Tree.{Exp16, literal, truth, error, name, member, index, slice, call, lookahead, cast, unary, binary, choice, parenthesized, no_arguments, argument, listed, Stmt16, no_statements, then, block, empty, var, var_is, assign, expression, if_then, if_else, switch, no_cases, case_of}
use Rattle.p416_syntax.specs.Names.{Name}
use Rattle.p416_syntax.specs.Kinds.{Kind, boolean, is_packet}
use Rattle.p416_syntax.specs.Scopes.{called_of, Scope, Part, in_action, kind_of_type, sort_of}
use Rattle.p416_syntax.specs.Calls.{Place, value, target, statement, callee, unasked, parser_position}
use Rattle.p416_syntax.specs.Expressions.{kind_of, signature_of, is_chosen}
use Rattle.p416_syntax.specs.Uses.{Use, an_expression, names_of_scope, some_parameters, some_counters, a_body, of_variable, of_action_parameter, of_block_parameter, type_uses, uses, uses_at, many, wanted_by}
use Rattle.p416_syntax.specs.Statements.{Visit, visit, visits, behind, declared_in, nesting, assigned_place, own_uses, visit_uses, statement_uses}
use Rattle.p416_syntax.specs.Declarations.{note_uses, parameter_name, parameter_uses, body_uses, action_scope, action_in, action_uses, local_uses, control_names, control_uses, counters_in, tables_in}
use Rattle.p416_syntax.specs.Applications.{applies_nothing, action_name_of, action_number, if_action, called_name, called_action, calls_of, call_graph}
use Rattle.p416_syntax.specs.Main.{positions_of}
use Rattle.p416_syntax.specs.Breaks.{has_use, SomeDeclaration, DeclarationBreaks, scope_of, uses_in, program_uses, IsBroken, program_rules, BreaksNone}
use Rattle.p416_syntax.specs.declared.rule.ProgramRule.TheVariants.{T8}
use Rattle.p416_syntax.specs.Unknown.{is_misnamed}
use Rattle.p416_syntax.specs.Sizes.{leaves_size}
use Rattle.p416_syntax.specs.Types.{is_mistyped}
use Rattle.p416_syntax.specs.Literals.{overflows}
use Rattle.p416_syntax.specs.Writes.{writes_constant}
use Rattle.p416_syntax.specs.Arguments.{is_miscounted}
use Rattle.p416_syntax.specs.Applications.{applies_wrongly}
use Rattle.p416_syntax.specs.Tables.{is_bad_in_table}
use Rattle.p416_syntax.specs.Externs.{is_outside_block, is_parser_part, are_allowed}
use Rattle.p416_syntax.specs.Totals.{is_too_deep}
use Rattle.v1_core.specs.declared.block.Block.{Block as BlockName}
use Rattle.v1_core.specs.Surroundings as meaning
use Rattle.v1_core.specs.Surroundings.{Setting, action_called}
use Rattle.v1_core.specs.Blocks.{around_control, control_at}
use Rattle.v1_block_laws.specs.Variables.{scope_in_control, control_from, is_control}
use Rattle.v1_block_laws.proofs.Tests.{first_false, second_false, not_false, in_front, at_end}
use Rattle.v1_block_laws.proofs.Accepted.{none_within}
use Rattle.v1_block_laws.proofs.Blocks.{control_declared}
use Rattle.v1_ready_statements.specs.Around.{ActionPlace, Around, Found, found_from, action_found}
use Rattle.v1_ready_statements.specs.Blocks as ready
use Rattle.v1_statement_laws.specs.Meeting.{FindNothing, Judged, StatementMeets}
use Rattle.v1_call_laws.specs.Standing.{StandsIn}
use Rattle.v1_call_laws.proofs.Standing.{control_stands, actions_stand, statements_stand}
use Rattle.v1_control_laws.specs.Controls.{CallsSuch, Meets, InActions, BodiesMeet, rule_tests, calls_among}
use Rattle.v1_control_laws.proofs.Places.{action_of, places_declared, found_called}
use Rattle.v1_control_laws.specs.Erring.{FreeAt, BodiesFree}
use Rattle.v1_control_laws.proofs.Values.{either}
use Rattle.v1_control_laws.proofs.Sound.{IsElsewhere, at_free}
use Rattle.v1_control_laws.proofs.Outside.{outside_parsers}
use Rattle.v1_control_laws.proofs.Veiled.{bytes_other}

-- what no test finds

pub front : (tests : List (Use → Bool)) (xs ys : List Use) → FindNothing tests (xs ++ ys) → FindNothing tests xs
front [] xs ys h = tt
front (test ∷ tests) xs ys h = (in_front test xs ys h.0, front tests xs ys h.1)

pub back : (tests : List (Use → Bool)) (xs ys : List Use) → FindNothing tests (xs ++ ys) → FindNothing tests ys
back [] xs ys h = tt
back (test ∷ tests) xs ys h = (at_end test xs ys h.0, back tests xs ys h.1)

-- the scope of statements is of one part, and its block stands at the same places

behind_part : (x : Stmt16) (s : Scope) → (behind x s).part ≡ s.part
behind_part no_statements s = refl
behind_part ((then) before last) s = behind_part last (behind before s) ∙ behind_part before s
behind_part (block body) s = refl
behind_part empty s = refl
behind_part (var t called) s = refl
behind_part (var_is t called e) s = refl
behind_part (assign f e) s = refl
behind_part (expression e) s = refl
behind_part (if_then c positive) s = refl
behind_part (if_else c positive negative) s = refl
behind_part (switch text cases) s = refl
behind_part no_cases s = refl
behind_part (case_of before l body) s = refl

behind_positions : (x : Stmt16) (s : Scope) → (behind x s).positions ≡ s.positions
behind_positions no_statements s = refl
behind_positions ((then) before last) s = behind_positions last (behind before s) ∙ behind_positions before s
behind_positions (block body) s = refl
behind_positions empty s = refl
behind_positions (var t called) s = refl
behind_positions (var_is t called e) s = refl
behind_positions (assign f e) s = refl
behind_positions (expression e) s = refl
behind_positions (if_then c positive) s = refl
behind_positions (if_else c positive negative) s = refl
behind_positions (switch text cases) s = refl
behind_positions no_cases s = refl
behind_positions (case_of before l body) s = refl

-- it is this part, and these places
pub record StandsAt (part : Part) (positions : List ℕ) (s : Scope) : Type 0 where
  pub part_is : s.part ≡ part
  pub positions_are : s.positions ≡ positions

assigned_elsewhere : (k : Kind) → IsElsewhere (assigned_place k)
assigned_elsewhere k = either IsElsewhere (is_chosen k || is_packet k) (value k) unasked tt tt

stands_further : (part : Part) (positions : List ℕ) (x : Stmt16) (s : Scope) → StandsAt part positions s → StandsAt part positions (behind x s)
stands_further part positions x s is = record { part_is = behind_part x s ∙ is.part_is; positions_are = behind_positions x s ∙ is.positions_are }

-- what holds of a scope, and behind each statement
module _ (U : Scope → Place → Exp16 → Type 0) (tests : List (Use → Bool)) (At : Scope → Type 0) (further : (x : Stmt16) (s : Scope) → At s → At (behind x s)) (one : (s : Scope) (p : Place) (e : Exp16) → At s → IsElsewhere p → Judged tests s p e → U s p e) where
  split : (xs ys : List Visit) → FindNothing tests (flat_map visit_uses (xs ++ ys)) → FindNothing tests (flat_map visit_uses xs ++ flat_map visit_uses ys)
  split xs ys kept = subst (λ (us : List Use). FindNothing tests us) (flat_map-append visit_uses xs ys) kept

  -- of the statements behind a first one, given what is judged in this
  behind_first : (own : List Use) (rest : List Visit) → FindNothing tests (own ++ flat_map visit_uses rest) → FindNothing tests (flat_map visit_uses rest)
  behind_first own rest kept = back tests own (flat_map visit_uses rest) kept

  pub meets_at : (s : Scope) (x : Stmt16) → At s → FindNothing tests (statement_uses s x) → StatementMeets U s x
  meets_at s no_statements is kept = tt
  meets_at s ((then) before last) is kept =
      let both = split (visits s before) (visits (behind before s) last) kept in (
        meets_at s before is (front tests (statement_uses s before) (statement_uses (behind before s) last) both),
        meets_at (behind before s) last (further before s is) (back tests (statement_uses s before) (statement_uses (behind before s) last) both),
      )
  meets_at s (block body) is kept = meets_at s body is (behind_first (own_uses s (block body)) (visits s body) kept)
  meets_at s empty is kept = tt
  meets_at s (var t called) is kept = tt
  meets_at s (var_is t called e) is kept =
      one s (value (kind_of_type s.names t)) e is tt
      (back tests (type_uses s of_variable t) (uses s (value (kind_of_type s.names t)) e) (front tests (own_uses s (var_is t called e)) [] kept))
  meets_at s (assign f e) is kept =
      let own = front tests (own_uses s (assign f e)) [] kept in (
        one s target f is tt (front tests (uses s target f) (uses s (assigned_place (kind_of s f)) e) own),
        one s (assigned_place (kind_of s f)) e is (assigned_elsewhere (kind_of s f)) (back tests (uses s target f) (uses s (assigned_place (kind_of s f)) e) own),
      )
  meets_at s (expression e) is kept = one s statement e is tt (front tests (uses s statement e) [] kept)
  meets_at s (if_then c positive) is kept = (
    one s (value boolean) c is tt (front tests (uses s (value boolean) c) (statement_uses s positive) kept),
    meets_at s positive is (behind_first (uses s (value boolean) c) (visits s positive) kept),
  )
  meets_at s (if_else c positive negative) is kept =
      let both = split (visit s (if_else c positive negative) ∷ visits s positive) (visits s negative) kept in
      let first = front tests (uses s (value boolean) c ++ statement_uses s positive) (statement_uses s negative) both in (
        one s (value boolean) c is tt (front tests (uses s (value boolean) c) (statement_uses s positive) first),
        meets_at s positive is (back tests (uses s (value boolean) c) (statement_uses s positive) first),
        meets_at s negative is (back tests (uses s (value boolean) c ++ statement_uses s positive) (statement_uses s negative) both),
      )
  meets_at s (switch text cases) is kept = meets_at s cases is (behind_first (own_uses s (switch text cases)) (visits s cases) kept)
  meets_at s no_cases is kept = tt
  meets_at s (case_of before l body) is kept =
      let both = split (visits s before) (visit s (case_of before l body) ∷ visits s body) kept in (
        meets_at s before is (front tests (statement_uses s before) (own_uses s (case_of before l body) ++ statement_uses s body) both),
        meets_at s body is (behind_first (own_uses s (case_of before l body)) (visits s body) (back tests (statement_uses s before) (own_uses s (case_of before l body) ++ statement_uses s body) both)),
      )

pub statement_meets : (U : Scope → Place → Exp16 → Type 0) (tests : List (Use → Bool)) (part : Part) (positions : List ℕ) → ((s : Scope) (p : Place) (e : Exp16) → StandsAt part positions s → IsElsewhere p → Judged tests s p e → U s p e) → (s : Scope) (x : Stmt16) → StandsAt part positions s → FindNothing tests (statement_uses s x) → StatementMeets U s x
statement_meets U tests part positions one s x is kept = meets_at U tests (StandsAt part positions) (stands_further part positions) one s x is kept

-- an accepted program

no_use : (syntax : Syntax16) (test : Use → Bool) (d : Decl16) → (IsTrue (has_use test (scope_of syntax d) d) → ⊥) → list_any test (uses_in syntax d) ≡ false
no_use syntax test d never = by (has_use test (scope_of syntax d) d) refl where
  by : (b : Bool) → has_use test (scope_of syntax d) d ≡ b → has_use test (scope_of syntax d) d ≡ false
  by true e = absurd (never e)
  by false e = e

no_uses : (syntax : Syntax16) (test : Use → Bool) (ds : List Decl16) → (SomeDeclaration (λ d. IsTrue (has_use test (scope_of syntax d) d)) ds → ⊥) → list_any test (flat_map (uses_in syntax) ds) ≡ false
no_uses syntax test [] never = refl
no_uses syntax test (d ∷ ds) never =
    list_any-append test (uses_in syntax d) (flat_map (uses_in syntax) ds)
    ∙ (ap (λ (b : Bool). b || list_any test (flat_map (uses_in syntax) ds)) (no_use syntax test d (λ x. never (inl x)))
    ∙ no_uses syntax test ds (λ x. never (inr x)))

some_weaker : (P Q : Decl16 → Type 0) → ((d : Decl16) → P d → Q d) → (ds : List Decl16) → SomeDeclaration P ds → SomeDeclaration Q ds
some_weaker P Q f [] h = absurd h
some_weaker P Q f (d ∷ ds) (inl h) = inl (f d h)
some_weaker P Q f (d ∷ ds) (inr h) = inr (some_weaker P Q f ds h)

pub program_passes : (syntax : Syntax16) → BreaksNone syntax program_rules → FindNothing rule_tests (program_uses syntax)
unfolding IsBroken
program_passes syntax keeps =
    (no_uses syntax is_misnamed syntax.decls (λ x. keeps.0 (inl x)), (no_uses syntax leaves_size syntax.decls (λ x. keeps.1.0 (inl x)), (no_uses syntax is_mistyped syntax.decls (λ x. keeps.1.1.0 (inl x)), (no_uses syntax overflows syntax.decls (λ x. keeps.1.1.1.0 (inl x)), (no_uses syntax writes_constant syntax.decls (λ x. keeps.1.1.1.1.0 (inl x)), (no_uses syntax is_miscounted syntax.decls (λ x. keeps.1.1.1.1.1.0 (inl x)), (no_uses syntax applies_wrongly syntax.decls (λ x. keeps.1.1.1.1.1.1.1.0 (inl (some_weaker (λ d. IsTrue (has_use applies_wrongly (scope_of syntax d) d)) (λ d. DeclarationBreaks T8 (scope_of syntax d) d) (λ d y. inl y) syntax.decls x))), (no_uses syntax is_bad_in_table syntax.decls (λ x. keeps.1.1.1.1.1.1.1.1.0 (inl x)), (no_uses syntax is_outside_block syntax.decls (λ x. keeps.1.1.1.1.1.1.1.1.1.0 (inl x)), (no_uses syntax is_too_deep syntax.decls (λ x. keeps.1.1.1.1.1.1.1.1.1.1.1.0 (inl x)), tt))))))))))

-- calls of actions

module _ (k : Control16) where
  -- an action is called that has none of these numbers
  abbrev calls_outside : List ℕ → Use → Bool
  calls_outside numbers u = option_map_or (λ n. not (calls_among numbers n)) (option_and_then (action_number k) (called_action u)) false

  abbrev calls_in : List Use → List ℕ
  calls_in us = filter_map (action_number k) (filter_map called_action us)

  abbrev AllAmong : List ℕ → List ℕ → Type 0
  AllAmong called numbers = (n : ℕ) → calls_among called n ≡ true → calls_among numbers n ≡ true

  none_outside : (us : List Use) (numbers : List ℕ) → AllAmong (calls_in us) numbers → list_any (calls_outside numbers) us ≡ false
  none_outside [] numbers h = refl
  none_outside (u ∷ us) numbers h = by (called_action u) (λ g. none_outside us numbers g) h where
    number : (p : Option ℕ) → (AllAmong (calls_in us) numbers → list_any (calls_outside numbers) us ≡ false) → AllAmong (cons_option p (calls_in us)) numbers → (option_map_or (λ n. not (calls_among numbers n)) p false || list_any (calls_outside numbers) us) ≡ false
    number None rest g = rest g
    number (Some n) rest g =
        let itself : (n == n) ≡ true = (Decides-eqb n n).1 refl in
        let first : calls_among (n ∷ calls_in us) n ≡ true = ap (λ (t : Bool). t || calls_among (calls_in us) n) itself in
        let own : not (calls_among numbers n) ≡ false = ap (λ (t : Bool). not t) (g n first) in
        ap (λ (t : Bool). t || list_any (calls_outside numbers) us) own ∙ rest (λ m e. g m (or_second (m == n) (calls_among (calls_in us) m) e)) where
          or_second : (a b : Bool) → b ≡ true → (a || b) ≡ true
          or_second true b e = refl
          or_second false b e = e

    by : (o : Option Name) → (AllAmong (calls_in us) numbers → list_any (calls_outside numbers) us ≡ false) → AllAmong (filter_map (action_number k) (cons_option o (filter_map called_action us))) numbers → (option_map_or (λ n. not (calls_among numbers n)) (option_and_then (action_number k) o) false || list_any (calls_outside numbers) us) ≡ false
    by None rest g = rest g
    by (Some text) rest g = number (action_number k text) rest g

-- an action by its number among those that are declared

bytes_same : (a b : Name) → bytes_eq a b ≡ bytes_eq b a
bytes_same a b = by (bytes_eq a b) refl where
  by : (t : Bool) → bytes_eq a b ≡ t → bytes_eq a b ≡ bytes_eq b a
  by true e = e ∙ sym ((bytes_eq-Decides b a).1 (sym ((bytes_eq-Decides a b).0 e)))
  by false e = e ∙ sym (bytes_other a b e)

found_position : (actions : List ActionPlace) (n : ℕ) (text : Name) (f : Found) → found_from n actions text ≡ Some f → position_from (bytes_eq text) n (map action_name_of (map action_of actions)) ≡ Some f.number
found_position [] n text f is = absurd (cc is)
found_position (a ∷ actions) n text f is =
    ap (λ (t : Bool). cond t (Some n) (position_from (bytes_eq text) (n + 1) (map action_name_of (map action_of actions)))) (bytes_same text a.of.name) ∙ by (bytes_eq a.of.name text) (found_position actions (suc n) text f) is where
      next : n + 1 ≡ suc n
      next = omega arith

      by : (t : Bool) → (found_from (suc n) actions text ≡ Some f → position_from (bytes_eq text) (suc n) (map action_name_of (map action_of actions)) ≡ Some f.number) → cond t (Some (record { number = n; place = a })) (found_from (suc n) actions text) ≡ Some f → cond t (Some n) (position_from (bytes_eq text) (n + 1) (map action_name_of (map action_of actions))) ≡ Some f.number
      by true rest e =
          let one : record { number = n; place = a } ≡ f = cc e in
          ap (λ (g : Found). Some g.number) one
      by false rest e =
          ap (λ (i : ℕ). position_from (bytes_eq text) i (map action_name_of (map action_of actions))) next ∙ rest e

-- what is made of each action, at its number
made_of : {X : Type 0} (g : Action16 → X) (actions : List ActionPlace) (n : ℕ) (text : Name) (f : Found) (d : X) → found_from n actions text ≡ Some f → (i : ℕ) × (f.number ≡ n + i) × (get_or (map g (map action_of actions)) i d ≡ g f.place.of)
made_of g [] n text f d is = absurd (cc is)
made_of {X = X} g (a ∷ actions) n text f d is = by (bytes_eq a.of.name text) (made_of g actions (suc n) text f d) is where
  first : (m : ℕ) → m ≡ m + 0
  first m = omega arith

  later : (m i k : ℕ) → k ≡ suc m + i → k ≡ m + suc i
  later m i k e = omega (arith, e)

  by : (t : Bool) → (found_from (suc n) actions text ≡ Some f → (i : ℕ) × (f.number ≡ suc n + i) × (get_or (map g (map action_of actions)) i d ≡ g f.place.of)) → cond t (Some (record { number = n; place = a })) (found_from (suc n) actions text) ≡ Some f → (i : ℕ) × (f.number ≡ n + i) × (get_or (map g (map action_of (a ∷ actions))) i d ≡ g f.place.of)
  by true later_one e =
      let one : record { number = n; place = a } ≡ f = cc e in
      (0, ap (λ (h : Found). h.number) (sym one) ∙ first n, ap (λ (h : Found). g h.place.of) one)
  by false later_one e =
      let rest = later_one e in
      (suc rest.0, later n rest.0 f.number rest.1, rest.2)

made_of_first : {X : Type 0} (g : Action16 → X) (actions : List ActionPlace) (text : Name) (f : Found) (d : X) → found_from 0 actions text ≡ Some f → get_or (map g (map action_of actions)) f.number d ≡ g f.place.of
made_of_first g actions text f d is =
    let h = made_of g actions 0 text f d is in
    let same : f.number ≡ h.0 = h.1 ∙ none_more h.0 in
    ap (λ (i : ℕ). get_or (map g (map action_of actions)) i d) same ∙ h.2 where
      none_more : (i : ℕ) → 0 + i ≡ i
      none_more i = omega arith

module _ (c : Setting) (place : BlockName) (k : Control16) (accepted : BreaksNone c.syntax program_rules) (stands : control_at c.syntax place ≡ Some k) where
  abbrev S : meaning.Surroundings
  S = around_control c place k

  abbrev B : Around
  B = ready.around_control c.syntax k

  abbrev top : Scope
  top = scope_of c.syntax (decl.Control k)

  abbrev scope : Scope
  scope = scope_in_control c.syntax k

  abbrev graph : List (List ℕ)
  graph = call_graph top k

  pub declared : map action_of B.actions ≡ filter_map action_in k.locals
  declared = places_declared scope (control_from c.syntax k) k.locals

  number_found : (text : Name) (f : Found) → action_found B text ≡ Some f → action_number k text ≡ Some f.number
  number_found text f at =
      position_from-zero (bytes_eq text) (map action_name_of (filter_map action_in k.locals))
      ∙ (ap (λ (l : List Action16). position_from (bytes_eq text) 0 (map action_name_of l)) (sym declared) ∙ found_position B.actions 0 text f at)

  leads_to : (text : Name) (f : Found) → action_found B text ≡ Some f → successors graph f.number ≡ calls_of top k f.place.of
  leads_to text f at =
      ap (λ (l : List Action16). get_or (map (calls_of top k) l) f.number []) (sym declared) ∙ made_of_first (calls_of top k) B.actions text f [] at

  -- what is judged in the control

  control_passes : FindNothing rule_tests (control_uses top k)
  control_passes = all rule_tests (program_passes c.syntax accepted) where
    all : (tests : List (Use → Bool)) → FindNothing tests (program_uses c.syntax) → FindNothing tests (uses_in c.syntax (decl.Control k))
    all [] h = tt
    all (test ∷ tests) h = (none_within c.syntax (is_control k.name) test (decl.Control k) (control_declared c.syntax place k stands) h.0, all tests h.1)

  abbrev parameters_judged : List Use
  parameters_judged = flat_map (parameter_uses top of_block_parameter) k.parameters

  abbrev locals_judged : List Use
  locals_judged = flat_map (local_uses scope) k.locals

  abbrev names_judged : Use
  names_judged = names_of_scope (map called_of (control_names top.names k))

  abbrev counters_judged : Use
  counters_judged = some_counters (filter_map counters_in (tables_in k))

  pub locals_pass : FindNothing rule_tests locals_judged
  locals_pass =
      back rule_tests (names_judged ∷ counters_judged ∷ parameters_judged) locals_judged
      (front rule_tests (names_judged ∷ counters_judged ∷ parameters_judged ++ locals_judged) (body_uses scope 1 k.body) control_passes)

  body_passes : FindNothing rule_tests (statement_uses scope k.body)
  body_passes =
      back rule_tests (names_of_scope (declared_in k.body) ∷ a_body (1 + nesting k.body) ∷ []) (statement_uses scope k.body)
      (back rule_tests (names_judged ∷ counters_judged ∷ parameters_judged ++ locals_judged) (body_uses scope 1 k.body) control_passes)

  -- an action among what is declared
  pub action_passes : (tests : List (Use → Bool)) (locals : List Local) (text : Name) (a : Action16) → FindNothing tests (flat_map (local_uses scope) locals) → action_called (filter_map action_in locals) text ≡ Some a → FindNothing tests (action_uses scope a)
  action_passes tests [] text a h is = absurd (cc is)
  action_passes tests (local.Instance notes i ∷ locals) text a h is = action_passes tests locals text a (back tests (local_uses scope (local.Instance notes i)) (flat_map (local_uses scope) locals) h) is
  action_passes tests (local.Var v ∷ locals) text a h is = action_passes tests locals text a (back tests (local_uses scope (local.Var v)) (flat_map (local_uses scope) locals) h) is
  action_passes tests (local.Table t ∷ locals) text a h is = action_passes tests locals text a (back tests (local_uses scope (local.Table t)) (flat_map (local_uses scope) locals) h) is
  action_passes tests (local.Action x ∷ locals) text a h is = by (bytes_eq x.name text) (action_passes tests locals text a (back tests (local_uses scope (local.Action x)) (flat_map (local_uses scope) locals) h)) is where
    by : (t : Bool) → (action_called (filter_map action_in locals) text ≡ Some a → FindNothing tests (action_uses scope a)) → cond t (Some x) (action_called (filter_map action_in locals) text) ≡ Some a → FindNothing tests (action_uses scope a)
    by true rest e =
        let one : x ≡ a = cc e in
        subst (λ (y : Action16). FindNothing tests (action_uses scope y)) one (front tests (local_uses scope (local.Action x)) (flat_map (local_uses scope) locals) h)
    by false rest e = rest e

  -- its statements, behind what else is judged in it
  in_body : (tests : List (Use → Bool)) (a : Action16) → FindNothing tests (action_uses scope a) → FindNothing tests (statement_uses (action_scope scope a) a.body)
  in_body tests a h =
      let parameters = flat_map (parameter_uses scope of_action_parameter) a.parameters in
      let judged = names_of_scope (map parameter_name a.parameters) ∷ some_parameters a.parameters ∷ parameters in
      back tests (names_of_scope (declared_in a.body) ∷ a_body (1 + nesting a.body) ∷ []) (statement_uses (action_scope scope a) a.body)
      (back tests (note_uses a.notes ++ judged) (body_uses (action_scope scope a) 1 a.body) h)

  -- calls

  module _ (numbers : List ℕ) where
    such : (o : Option Name) → option_map_or (λ n. not (calls_among numbers n)) (option_and_then (action_number k) o) false ≡ false → IfSome o (λ text. (f : Found) → action_found B text ≡ Some f → calls_among numbers f.number ≡ true)
    such None h = tt
    such (Some text) h = λ f at.
        not_false (calls_among numbers f.number)
        (ap (λ (o : Option ℕ). option_map_or (λ n. not (calls_among numbers n)) o false) (sym (number_found text f at)) ∙ h)

    callee_such : (s : Scope) (g : Exp16) → list_any (calls_outside k numbers) (uses s callee g) ≡ false → IfSome (called_name s callee g) (λ text. (f : Found) → action_found B text ≡ Some f → calls_among numbers f.number ≡ true)
    callee_such s (name text) h = such (if_action text (sort_of s text)) (first_false (option_map_or (λ n. not (calls_among numbers n)) (option_and_then (action_number k) (if_action text (sort_of s text))) false) false h)
    callee_such s (literal n) h = tt
    callee_such s (truth holds) h = tt
    callee_such s error h = tt
    callee_such s (member e word) h = tt
    callee_such s (index e at) h = tt
    callee_such s (slice e high low) h = tt
    callee_such s (call g more) h = tt
    callee_such s (lookahead e to more) h = tt
    callee_such s (cast to e) h = tt
    callee_such s (unary operator e) h = tt
    callee_such s (binary operator a b) h = tt
    callee_such s (choice d a b) h = tt
    callee_such s (parenthesized e) h = tt
    callee_such s no_arguments h = tt
    callee_such s (argument before last) h = tt
    callee_such s (listed es) h = tt

    calls_such : (s : Scope) (p : Place) (e : Exp16) → list_any (calls_outside k numbers) (uses s p e) ≡ false → CallsSuch B (calls_among numbers) s e
    calls_such s p (call g more) h =
        callee_such s g
        (second_false (calls_outside k numbers (an_expression s p (call g more))) (list_any (calls_outside k numbers) (uses s callee g))
        (in_front (calls_outside k numbers) (an_expression s p (call g more) ∷ uses s callee g) (uses_at s (many (wanted_by (signature_of s g)) unasked) more) h))
    calls_such s p (literal n) h = tt
    calls_such s p (truth holds) h = tt
    calls_such s p error h = tt
    calls_such s p (name text) h = tt
    calls_such s p (member e word) h = tt
    calls_such s p (index e at) h = tt
    calls_such s p (slice e high low) h = tt
    calls_such s p (lookahead e to more) h = tt
    calls_such s p (cast to e) h = tt
    calls_such s p (unary operator e) h = tt
    calls_such s p (binary operator a b) h = tt
    calls_such s p (choice d a b) h = tt
    calls_such s p (parenthesized e) h = tt
    calls_such s p no_arguments h = tt
    calls_such s p (argument before last) h = tt
    calls_such s p (listed es) h = tt

  block_stands : StandsIn scope scope
  block_stands = control_stands c.syntax.decls (positions_of c.syntax k.name) k (outside_parsers c.syntax place k accepted stands)

  pub bodies_meet_rules : BodiesMeet rule_tests S B graph
  bodies_meet_rules text f at =
      let called : action_called (filter_map action_in k.locals) text ≡ Some f.place.of = ap (λ (l : List Action16). action_called l text) (sym declared) ∙ found_called B.actions 0 text f at in
      let own : FindNothing rule_tests (action_uses scope f.place.of) = action_passes rule_tests k.locals text f.place.of locals_pass called in
      let outside : list_any (calls_outside k (successors graph f.number)) (action_uses scope f.place.of) ≡ false =
      none_outside k (action_uses scope f.place.of) (successors graph f.number) (λ n e. ap (λ (l : List ℕ). calls_among l n) (leads_to text f at) ∙ e) in
      let both : FindNothing (calls_outside k (successors graph f.number) ∷ rule_tests) (action_uses scope f.place.of) = (outside, own) in
      meets_at (InActions rule_tests scope B (calls_among (successors graph f.number))) (calls_outside k (successors graph f.number) ∷ rule_tests) (λ s. StandsAt (in_action f.place.of.name) scope.positions s × StandsIn scope s)
      (λ x s is. (stands_further (in_action f.place.of.name) scope.positions x s is.0, statements_stand scope s x is.1))
      (λ s p e is there h. ((h.1, calls_such (successors graph f.number) s p e h.0, is.1), ap (λ (x : Part). applies_nothing x) is.0.part_is))
      (action_scope scope f.place.of) f.place.of.body (record { part_is = refl; positions_are = refl }, actions_stand scope f.place.of block_stands) (in_body (calls_outside k (successors graph f.number) ∷ rule_tests) f.place.of both)

  -- the body of the control may call each action

  any_such : (o : Option Name) → IfSome o (λ text. (f : Found) → action_found B text ≡ Some f → true ≡ true)
  any_such None = tt
  any_such (Some text) = λ f at. refl

  calls_any : (s : Scope) (e : Exp16) → CallsSuch B (λ n. true) s e
  calls_any s (call g more) = any_such (called_name s callee g)
  calls_any s (literal n) = tt
  calls_any s (truth holds) = tt
  calls_any s error = tt
  calls_any s (name text) = tt
  calls_any s (member e word) = tt
  calls_any s (index e at) = tt
  calls_any s (slice e high low) = tt
  calls_any s (lookahead e to more) = tt
  calls_any s (cast to e) = tt
  calls_any s (unary operator e) = tt
  calls_any s (binary operator a b) = tt
  calls_any s (choice d a b) = tt
  calls_any s (parenthesized e) = tt
  calls_any s no_arguments = tt
  calls_any s (argument before last) = tt
  calls_any s (listed es) = tt

  pub control_meets_rules : StatementMeets (Meets rule_tests scope B (λ n. true)) scope k.body
  control_meets_rules = meets_at (Meets rule_tests scope B (λ n. true)) rule_tests (StandsIn scope) (λ x s is. statements_stand scope s x is) (λ s p e is there h. (h, calls_any s e, is)) scope k.body block_stands body_passes

  -- no error comes in an action
  pub bodies_free : BodiesFree ⊥ S
  bodies_free text a called =
      let own : FindNothing rule_tests (action_uses scope a) = action_passes rule_tests k.locals text a locals_pass called in
      statement_meets (FreeAt ⊥) rule_tests (in_action a.name) scope.positions
      (λ s p e is there h. at_free s (ap (λ (x : Part). is_parser_part x) is.part_is) (ap (λ (l : List ℕ). are_allowed (parser_position ∷ []) l) is.positions_are ∙ outside_parsers c.syntax place k accepted stands) p e there h.0 h.1.1.1.1.1.1.1.1.0)
      (action_scope scope a) a.body (record { part_is = refl; positions_are = refl }) (in_body rule_tests a own)
