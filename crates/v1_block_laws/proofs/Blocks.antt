-- The names of a block and its variables.
use Rattle.std.proofs.Common.{◌≡◌, ℕ, ◌+◌, Bool, true, false, cond, Some, List, [], ◌∷◌, ◌++◌, length, map, flat_map, filter_map, refl, sym, ap, ◌∙◌, subst, arith, append_assoc, length-append}
use Rattle.std.proofs.lemmas.List.{length-map}
use Rattle.std.specs.List.{list_any}
use Rattle.std.specs.Str.{bytes_eq}
use Rattle.std.proofs.lemmas.Slice.Eq.{bytes_eq-Decides}
use Rattle.p416_syntax.specs.declared.parts.Type16.{Type16}
use Rattle.p416_syntax.specs.declared.parsers.State.{State}
use Rattle.p416_syntax.specs.declared.parsers.Parser16.{Parser16}
use Rattle.p416_syntax.specs.declared.controls.Action16.{Action16}
use Rattle.p416_syntax.specs.declared.controls.Local.{Local}
use Rattle.p416_syntax.specs.declared.controls.Local.TheVariants as local
use Rattle.p416_syntax.specs.declared.controls.Control16.{Control16}
use Rattle.p416_syntax.specs.declared.program.Decl16.TheVariants as decl
use Rattle.p416_syntax.specs.declared.program.Syntax16.{Syntax16}
use Rattle.p416_syntax.specs.Names.{Name}
use Rattle.p416_syntax.specs.Kinds.{Kind}
use Rattle.p416_syntax.specs.Scopes.{a_value, Known, known, called_of, Scope, kind_of_type, known_parameter}
use Rattle.p416_syntax.specs.Uses.{Use, names_of_scope, some_counters, of_block_parameter}
use Rattle.p416_syntax.specs.Unknown.{is_misnamed, is_type_sort}
use Rattle.p416_syntax.specs.Statements.{with_variable}
use Rattle.p416_syntax.specs.Declarations.{top_names, known_var, known_state, known_local, parser_names, control_names, parameter_uses, var_uses, state_uses, body_uses, local_uses, parser_uses, control_uses, action_scope, action_in, tables_in, counters_in}
use Rattle.p416_syntax.specs.Breaks.{scope_of, program_rules, BreaksNone}
use Rattle.v1_core.specs.declared.block.Block.{Block}
use Rattle.v1_core.specs.Slots.{variable_kinds, var_kind, parameter_kind, kinds_in, state_kinds, local_kinds, kinds_of}
use Rattle.v1_core.specs.Surroundings.{Root, action_called}
use Rattle.v1_core.specs.Numbered.{Variable, InScope, declared_at}
use Rattle.v1_core.specs.Parsing.{parser_of, state_called}
use Rattle.v1_core.specs.Blocks.{control_at}
use Rattle.v1_ready_forms.specs.Named.{seats_in}
use Rattle.v1_ready_laws.specs.Rules.{NamesSeated}
use Rattle.v1_ready_laws.proofs.Seated.{inside_seated}
use Rattle.v1_block_laws.specs.Variables.{variable, parameters_from, action_from, state_from, is_parser, is_control, scope_in_parser, scope_in_control, parser_from, control_from, states_from, body_from, own_names, parser_variables, control_variables, control_roots, parser_seats, control_seats, action_in_control, action_names}
use Rattle.v1_block_laws.specs.Standing.{AreOfKinds}
use Rattle.v1_block_laws.specs.Apart.{AreOutside, AreInBody}
use Rattle.v1_block_laws.specs.Keeping.{ParserKeeps, ControlKeeps}
use Rattle.v1_block_laws.proofs.Tests.{in_front, at_end, none_joined, none_mapped}
use Rattle.v1_block_laws.proofs.Standing.{apart}
use Rattle.v1_block_laws.proofs.Apart.{vars_apart, parameters_apart, locals_apart, action_outside, state_above, wholly_in_front}
use Rattle.v1_block_laws.proofs.Finding.{Found, parser_found, control_found, found_stands}
use Rattle.v1_block_laws.proofs.Accepted.{names_kept, main_kept, none_within, kept_within}
use Rattle.v1_block_laws.proofs.Keeping.{parser_keeps, control_keeps}
use Rattle.v1_block_laws.proofs.Naming.{Seated, top_seated, states_seated, is_variable, are_variables, var_at_top, vars_seated, local_no_type, locals_seated}
use Rattle.v1_block_laws.proofs.Shapes.{parser_roots_seated, control_roots_seated}

abbrev is_type : Known → Bool
is_type k = is_type_sort k.sort

-- the declaration of a parser, and of a control

module _ (syntax : Syntax16) (p : Parser16) (found : parser_of syntax ≡ Some p) where
  pub parser_declared : Found syntax (is_parser p.name) syntax.decls (decl.Parser p)
  parser_declared =
      let both = parser_found syntax syntax.decls _ p found in
      subst (λ (text : Name). Found syntax (is_parser text) syntax.decls (decl.Parser p)) (sym both.1) both.0

  parser_stands : AreOfKinds (variable_kinds syntax) (parser_from syntax p) (kinds_of syntax (decl.Parser p))
  parser_stands = found_stands syntax (is_parser p.name) (decl.Parser p) parser_declared

  states_stand : AreOfKinds (variable_kinds syntax) (states_from syntax p) (flat_map (state_kinds (scope_in_parser syntax p)) p.states)
  states_stand =
      let t = scope_in_parser syntax p in
      let long : length (map (var_kind t) p.vars) ≡ length p.vars = length-map p.vars (var_kind t) in
      subst (λ (n : ℕ). AreOfKinds (variable_kinds syntax) (parser_from syntax p + n) (flat_map (state_kinds t) p.states)) long
      (apart (variable_kinds syntax) (parser_from syntax p) (map (var_kind t) p.vars) (flat_map (state_kinds t) p.states) parser_stands).1

module _ (syntax : Syntax16) (block : Block) (c : Control16) (found : control_at syntax block ≡ Some c) where
  pub control_declared : Found syntax (is_control c.name) syntax.decls (decl.Control c)
  control_declared =
      let both = control_found syntax syntax.decls _ c found in
      subst (λ (text : Name). Found syntax (is_control text) syntax.decls (decl.Control c)) (sym both.1) both.0

  control_stands : AreOfKinds (variable_kinds syntax) (control_from syntax c) (kinds_of syntax (decl.Control c))
  control_stands = found_stands syntax (is_control c.name) (decl.Control c) control_declared

  locals_stand : AreOfKinds (variable_kinds syntax) (control_from syntax c) (flat_map (local_kinds (scope_in_control syntax c)) c.locals)
  locals_stand =
      let t = scope_in_control syntax c in
      (apart (variable_kinds syntax) (control_from syntax c) (flat_map (local_kinds t) c.locals) (kinds_in t c.body) control_stands).0

  pub body_stands : AreOfKinds (variable_kinds syntax) (body_from syntax c) (kinds_in (scope_in_control syntax c) c.body)
  body_stands =
      let t = scope_in_control syntax c in
      (apart (variable_kinds syntax) (control_from syntax c) (flat_map (local_kinds t) c.locals) (kinds_in t c.body) control_stands).1

-- states and actions among others

state_stands_in : (all : List Kind) (s : Scope) (n : ℕ) (states : List State) (text : Name) (x : State) → AreOfKinds all n (flat_map (state_kinds s) states) → state_called states text ≡ Some x → AreOfKinds all (state_from s n states text) (state_kinds s x)
state_stands_in all s n [] text x are found = absurd (cc found)
state_stands_in all s n (y ∷ states) text x are found =
    by (bytes_eq y.name text) (state_stands_in all s (n + length (state_kinds s y)) states text x both.1) found where
      both : AreOfKinds all n (state_kinds s y) × AreOfKinds all (n + length (state_kinds s y)) (flat_map (state_kinds s) states)
      both = apart all n (state_kinds s y) (flat_map (state_kinds s) states) are

      by : (b : Bool) → (state_called states text ≡ Some x → AreOfKinds all (state_from s (n + length (state_kinds s y)) states text) (state_kinds s x)) → cond b (Some y) (state_called states text) ≡ Some x → AreOfKinds all (cond b n (state_from s (n + length (state_kinds s y)) states text)) (state_kinds s x)
      by true rest is =
          let one : y ≡ x = cc is in
          subst (λ (z : State). AreOfKinds all n (state_kinds s z)) one both.0
      by false rest is = rest is

pub state_stands : (syntax : Syntax16) (p : Parser16) (text : Name) (x : State) → parser_of syntax ≡ Some p → state_called p.states text ≡ Some x → AreOfKinds (variable_kinds syntax) (state_from (scope_in_parser syntax p) (states_from syntax p) p.states text) (kinds_in (scope_in_parser syntax p) x.body)
state_stands syntax p text x found called = state_stands_in (variable_kinds syntax) (scope_in_parser syntax p) (states_from syntax p) p.states text x (states_stand syntax p found) called

abbrev ActionStandsIn : List Kind → Scope → ℕ → List Local → Name → Action16 → Type 0
ActionStandsIn all s n locals text a = AreOfKinds all (action_from s n locals text) (local_kinds s (local.Action a)) × (a.name ≡ text)

action_stands_in : (all : List Kind) (s : Scope) (n : ℕ) (locals : List Local) (text : Name) (a : Action16) → AreOfKinds all n (flat_map (local_kinds s) locals) → action_called (filter_map action_in locals) text ≡ Some a → ActionStandsIn all s n locals text a
action_stands_in all s n [] text a are found = absurd (cc found)
action_stands_in all s n (local.Instance notes i ∷ locals) text a are found = action_stands_in all s (n + 0) locals text a (apart all n [] (flat_map (local_kinds s) locals) are).1 found
action_stands_in all s n (local.Var v ∷ locals) text a are found =
    action_stands_in all s (n + 1) locals text a (apart all n (var_kind s v ∷ []) (flat_map (local_kinds s) locals) are).1 found
action_stands_in all s n (local.Table t ∷ locals) text a are found = action_stands_in all s (n + 0) locals text a (apart all n [] (flat_map (local_kinds s) locals) are).1 found
action_stands_in all s n (local.Action k ∷ locals) text a are found =
    by (bytes_eq k.name text) refl (action_stands_in all s (n + length (local_kinds s (local.Action k))) locals text a both.1) found where
      both : AreOfKinds all n (local_kinds s (local.Action k)) × AreOfKinds all (n + length (local_kinds s (local.Action k))) (flat_map (local_kinds s) locals)
      both = apart all n (local_kinds s (local.Action k)) (flat_map (local_kinds s) locals) are

      by : (b : Bool) → bytes_eq k.name text ≡ b → (action_called (filter_map action_in locals) text ≡ Some a → ActionStandsIn all s (n + length (local_kinds s (local.Action k))) locals text a) → cond b (Some k) (action_called (filter_map action_in locals) text) ≡ Some a → AreOfKinds all (cond b n (action_from s (n + length (local_kinds s (local.Action k))) locals text)) (local_kinds s (local.Action a)) × (a.name ≡ text)
      by true same rest is =
          let one : k ≡ a = cc is in
          subst (λ (z : Action16). AreOfKinds all n (local_kinds s (local.Action z)) × (z.name ≡ text)) one (both.0, (bytes_eq-Decides k.name text).0 same)
      by false other rest is = rest is

-- an action of a control, with its parameters and its variables
action_whole : (syntax : Syntax16) (block : Block) (c : Control16) (text : Name) (a : Action16) → control_at syntax block ≡ Some c → action_called (filter_map action_in c.locals) text ≡ Some a → AreOfKinds (variable_kinds syntax) (action_in_control syntax c a.name) (local_kinds (scope_in_control syntax c) (local.Action a))
action_whole syntax block c text a found called =
    let t = scope_in_control syntax c in
    let both = action_stands_in (variable_kinds syntax) t (control_from syntax c) c.locals text a (locals_stand syntax block c found) called in
    subst (λ (called_so : Name). AreOfKinds (variable_kinds syntax) (action_from t (control_from syntax c) c.locals called_so) (local_kinds t (local.Action a))) (sym both.1) both.0

pub action_stands : (syntax : Syntax16) (block : Block) (c : Control16) (text : Name) (a : Action16) → control_at syntax block ≡ Some c → action_called (filter_map action_in c.locals) text ≡ Some a → AreOfKinds (variable_kinds syntax) (action_in_control syntax c a.name + length a.parameters) (kinds_in (action_scope (scope_in_control syntax c) a) a.body)
action_stands syntax block c text a found called =
    let t = scope_in_control syntax c in
    let long : length (map (parameter_kind t) a.parameters) ≡ length a.parameters = length-map a.parameters (parameter_kind t) in
    subst (λ (n : ℕ). AreOfKinds (variable_kinds syntax) (action_in_control syntax c a.name + n) (kinds_in (action_scope t a) a.body)) long
    (apart (variable_kinds syntax) (action_in_control syntax c a.name) (map (parameter_kind t) a.parameters) (kinds_in (action_scope t a) a.body) (action_whole syntax block c text a found called)).1

-- places of their own

pub state_apart : (syntax : Syntax16) (p : Parser16) (text : Name) (x : State) → parser_of syntax ≡ Some p → state_called p.states text ≡ Some x → AreInBody (length (variable_kinds syntax)) (state_from (scope_in_parser syntax p) (states_from syntax p) p.states text) (state_from (scope_in_parser syntax p) (states_from syntax p) p.states text + length (kinds_in (scope_in_parser syntax p) x.body)) (state_from (scope_in_parser syntax p) (states_from syntax p) p.states text) (own_names (parser_variables syntax p))
state_apart syntax p text x found called =
    let t = scope_in_parser syntax p in
    let from : ℕ = state_from t (states_from syntax p) p.states text in
    let both = vars_apart (variable_kinds syntax) t (parser_from syntax p) p.vars (apart (variable_kinds syntax) (parser_from syntax p) (map (var_kind t) p.vars) (flat_map (state_kinds t) p.states) (parser_stands syntax p found)).0 in
    record {
      begun = omega arith;
      left = omega arith;
      variables = both.0;
      outside = wholly_in_front (parser_from syntax p) (states_from syntax p) from (from + length (kinds_in t x.body)) (parser_variables syntax p) both.1 (state_above t (states_from syntax p) p.states text);
      inner = tt;
      between = tt;
    }

pub body_apart : (syntax : Syntax16) (block : Block) (c : Control16) → control_at syntax block ≡ Some c → AreInBody (length (variable_kinds syntax)) (body_from syntax c) (body_from syntax c + length (kinds_in (scope_in_control syntax c) c.body)) (body_from syntax c) (own_names (control_variables syntax c))
body_apart syntax block c found =
    let t = scope_in_control syntax c in
    let both = locals_apart (variable_kinds syntax) t (control_from syntax c) c.locals (locals_stand syntax block c found) in
    record {
      begun = omega arith;
      left = omega arith;
      variables = both.0;
      outside = wholly_in_front (control_from syntax c) (body_from syntax c) (body_from syntax c) (body_from syntax c + length (kinds_in t c.body)) (control_variables syntax c) both.1 (omega arith);
      inner = tt;
      between = tt;
    }

pub action_apart : (syntax : Syntax16) (block : Block) (c : Control16) (text : Name) (a : Action16) → control_at syntax block ≡ Some c → action_called (filter_map action_in c.locals) text ≡ Some a → AreInBody (length (variable_kinds syntax)) (action_in_control syntax c a.name) (action_in_control syntax c a.name + length (local_kinds (scope_in_control syntax c) (local.Action a))) (action_in_control syntax c a.name + length a.parameters) (action_names syntax c a)
action_apart syntax block c text a found called =
    let t = scope_in_control syntax c in
    let from : ℕ = action_in_control syntax c a.name in
    let whole = locals_apart (variable_kinds syntax) t (control_from syntax c) c.locals (locals_stand syntax block c found) in
    let named : a.name ≡ text = (action_stands_in (variable_kinds syntax) t (control_from syntax c) c.locals text a (locals_stand syntax block c found) called).1 in
    let own = parameters_apart (variable_kinds syntax) t from a.parameters (apart (variable_kinds syntax) from (map (parameter_kind t) a.parameters) (kinds_in (action_scope t a) a.body) (action_whole syntax block c text a found called)).0 in
    let long : length (map (parameter_kind t) a.parameters) ≡ length a.parameters = length-map a.parameters (parameter_kind t) in
    let all : length (local_kinds t (local.Action a)) ≡ length (map (parameter_kind t) a.parameters) + length (kinds_in (action_scope t a) a.body) = length-append (map (parameter_kind t) a.parameters) (kinds_in (action_scope t a) a.body) in
    record {
      begun = omega arith;
      left = omega (arith, long, all);
      variables = whole.0;
      outside = subst (λ (called_so : Name). AreOutside (action_in_control syntax c called_so) (action_in_control syntax c called_so + length (local_kinds t (local.Action a))) (control_variables syntax c)) (sym named)
          (action_outside (variable_kinds syntax) t (control_from syntax c) c.locals text a (locals_stand syntax block c found) called);
      inner = own.0;
      between = own.1;
    }

-- names

-- names of a parser one behind another
in_order : (a b c d : List Known) → ((a ++ b) ++ c) ++ d ≡ a ++ (b ++ (c ++ d))
in_order a b c d = append_assoc (a ++ b) c d ∙ append_assoc a b (c ++ d)

pub parser_seated : (syntax : Syntax16) (p : Parser16) → BreaksNone syntax program_rules → parser_of syntax ≡ Some p → NamesSeated (scope_in_parser syntax p) (parser_seats syntax p)
parser_seated syntax p keeps found =
    let tops = top_names syntax.decls in
    let s = scope_of syntax (decl.Parser p) in
    let t = scope_in_parser syntax p in
    let parameters = map (known_parameter tops) p.parameters in
    let vars = map (known_var tops) p.vars in
    let states = map known_state p.states in
    let kept : list_any is_misnamed (parser_uses s p) ≡ false = none_within syntax (is_parser p.name) is_misnamed (decl.Parser p) (parser_declared syntax p found) (names_kept syntax keeps) in
    let named : Use = names_of_scope (map called_of (parser_names tops p)) in
    let of_parameters : List Use = flat_map (parameter_uses s of_block_parameter) p.parameters in
    let of_vars : List Use = flat_map (var_uses t) p.vars in
    let of_states : List Use = flat_map (state_uses t) p.states in
    let no_types : list_any is_type (parameters ++ vars ++ states) ≡ false =
    none_joined is_type (parameters ++ vars) states
    (none_joined is_type parameters vars (none_mapped is_type (known_parameter tops) (λ x. refl) p.parameters) (none_mapped is_type (known_var tops) (λ x. refl) p.vars))
    (none_mapped is_type known_state (λ x. refl) p.states) in
    subst (λ (names : List Known). Seated names (parser_seats syntax p)) (sym (in_order parameters vars states tops))
    (parser_roots_seated syntax (main_kept syntax keeps) p (vars ++ (states ++ tops)) _ found
    (vars_seated syntax t tops (parser_from syntax p) p.vars (states ++ tops) (λ v k. var_at_top t (parameters ++ vars ++ states) tops v refl no_types k)
    (at_end is_misnamed (named ∷ of_parameters) of_vars (in_front is_misnamed (named ∷ of_parameters ++ of_vars) of_states kept))
    (apart (variable_kinds syntax) (parser_from syntax p) (map (var_kind t) p.vars) (flat_map (state_kinds t) p.states) (parser_stands syntax p found)).0
    (states_seated p.states tops [] (top_seated syntax.decls))))

pub control_seated : (syntax : Syntax16) (block : Block) (c : Control16) → BreaksNone syntax program_rules → control_at syntax block ≡ Some c → NamesSeated (scope_in_control syntax c) (control_seats syntax block c)
control_seated syntax block c keeps found =
    let tops = top_names syntax.decls in
    let s = scope_of syntax (decl.Control c) in
    let t = scope_in_control syntax c in
    let parameters = map (known_parameter tops) c.parameters in
    let locals = map (known_local tops) c.locals in
    let kept : list_any is_misnamed (control_uses s c) ≡ false = none_within syntax (is_control c.name) is_misnamed (decl.Control c) (control_declared syntax block c found) (names_kept syntax keeps) in
    let named : Use = names_of_scope (map called_of (control_names tops c)) in
    let counters : Use = some_counters (filter_map counters_in (tables_in c)) in
    let of_parameters : List Use = flat_map (parameter_uses s of_block_parameter) c.parameters in
    let of_locals : List Use = flat_map (local_uses t) c.locals in
    let of_body : List Use = body_uses t 1 c.body in
    let no_types : list_any is_type (parameters ++ locals) ≡ false =
    none_joined is_type parameters locals (none_mapped is_type (known_parameter tops) (λ x. refl) c.parameters) (none_mapped is_type (known_local tops) (local_no_type tops) c.locals) in
    subst (λ (names : List Known). Seated names (control_seats syntax block c)) (sym (append_assoc parameters locals tops))
    (control_roots_seated syntax (main_kept syntax keeps) block c (locals ++ tops) _ found
    (locals_seated syntax t tops (control_from syntax c) c.locals tops (λ v k. var_at_top t (parameters ++ locals) tops v refl no_types k)
    (at_end is_misnamed (named ∷ counters ∷ of_parameters) of_locals (in_front is_misnamed (named ∷ counters ∷ of_parameters ++ of_locals) of_body kept))
    (locals_stand syntax block c found) (top_seated syntax.decls)))

none_behind : (vs : List Variable) → vs ++ [] ≡ vs
none_behind [] = refl
none_behind (v ∷ vs) = ap (λ (l : List Variable). v ∷ l) (none_behind vs)

pub action_seated : (syntax : Syntax16) (block : Block) (c : Control16) (text : Name) (a : Action16) → BreaksNone syntax program_rules → control_at syntax block ≡ Some c → action_called (filter_map action_in c.locals) text ≡ Some a → NamesSeated (action_scope (scope_in_control syntax c) a) (seats_in syntax (control_roots block c) (action_names syntax c a))
action_seated syntax block c text a keeps found called =
    let t = scope_in_control syntax c in
    let n : ℕ = action_in_control syntax c a.name in
    let inner : List Variable = parameters_from n a.parameters in
    subst (λ (vs : List Variable). NamesSeated (action_scope t a) (seats_in syntax (control_roots block c) (record { variables = control_variables syntax c; inner = vs }))) (none_behind inner)
    (inside_seated syntax t (control_roots block c) (own_names (control_variables syntax c)) inner (map (known_parameter t.names) a.parameters)
    (are_variables syntax t n a.parameters (apart (variable_kinds syntax) n (map (parameter_kind t) a.parameters) (kinds_in (action_scope t a) a.body) (action_whole syntax block c text a found called)).0)
    (control_seated syntax block c keeps found))

pub variable_seated : (syntax : Syntax16) (s : Scope) (roots : List Root) (who : InScope) (t : Type16) (called : Name) (n : ℕ) → AreOfKinds (variable_kinds syntax) n (kind_of_type s.names t ∷ []) → NamesSeated s (seats_in syntax roots who) → NamesSeated (with_variable t called s) (seats_in syntax roots (declared_at called n who))
variable_seated syntax s roots who t called n are seated =
    inside_seated syntax s roots who (variable called n ∷ []) (known (a_value (kind_of_type s.names t) true) called ∷ []) (is_variable syntax n (kind_of_type s.names t) true called are.0, tt) seated

-- what is evaluated

pub parser_kept : (syntax : Syntax16) (p : Parser16) → BreaksNone syntax program_rules → parser_of syntax ≡ Some p → ParserKeeps (scope_in_parser syntax p) p
parser_kept syntax p keeps found = parser_keeps (scope_of syntax (decl.Parser p)) p (kept_within syntax (is_parser p.name) (decl.Parser p) (parser_declared syntax p found) keeps)

pub control_kept : (syntax : Syntax16) (block : Block) (c : Control16) → BreaksNone syntax program_rules → control_at syntax block ≡ Some c → ControlKeeps (scope_in_control syntax c) c
control_kept syntax block c keeps found = control_keeps (scope_of syntax (decl.Control c)) c (kept_within syntax (is_control c.name) (decl.Control c) (control_declared syntax block c found) keeps)
