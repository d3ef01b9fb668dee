-- What is judged in a block is what it evaluates.
use Rattle.std.proofs.Common.{ℕ, Option, Some, None, IfSome, List, [], ◌∷◌, ◌++◌, map, flat_map, subst}
use Rattle.std.specs.Option.{option_map_or}
use Rattle.std.specs.Prelude.{option_to_list}
use Rattle.std.proofs.lemmas.Grind.{flat_map-append}
use Rattle.p416_syntax.specs.declared.parsers.Var.{Var}
use Rattle.p416_syntax.specs.declared.parsers.State.{State}
use Rattle.p416_syntax.specs.declared.parsers.Transition.{Transition}
use Rattle.p416_syntax.specs.declared.parsers.Transition.TheVariants as transition
use Rattle.p416_syntax.specs.declared.parsers.Parser16.{Parser16}
use Rattle.p416_syntax.specs.declared.controls.TableKey.{TableKey}
use Rattle.p416_syntax.specs.declared.controls.Local.{Local}
use Rattle.p416_syntax.specs.declared.controls.Local.TheVariants as local
use Rattle.p416_syntax.specs.declared.controls.Control16.{Control16}
use Rattle.p416_syntax.specs.Properties.{keys_of, actions_of, size_of, counters_of, default_action_of, default_arguments_of}
use Rattle.p416_syntax.specs.Tree.{Exp16, Stmt16, no_statements, then, block, empty, var, var_is, assign, expression, if_then, if_else, switch, no_cases, case_of}
use Rattle.p416_syntax.specs.Kinds.{boolean}
use Rattle.p416_syntax.specs.Scopes.{Scope, in_key, kind_of_type}
use Rattle.p416_syntax.specs.Calls.{value, target, statement, select_key, table_key}
use Rattle.p416_syntax.specs.Expressions.{kind_of}
use Rattle.p416_syntax.specs.Uses.{Use, a_name, some_direct_counter, a_number, a_table_of, of_variable, of_action_parameter, of_block_parameter, type_uses, uses, names_of_scope, some_parameters}
use Rattle.p416_syntax.specs.Statements.{Visit, visit, visits, behind, assigned_place, own_uses, visit_uses, statement_uses}
use Rattle.p416_syntax.specs.Declarations.{note_uses, var_uses, parameter_name, parameter_uses, body_uses, case_uses, transition_uses, state_uses, parser_scope, parser_uses, action_scope, is_exact, key_uses, action_name_uses, defaults_of, control_scope, local_uses, control_uses}
use Rattle.v1_ready_laws.specs.Rules.{KeepsAll}
use Rattle.v1_block_laws.specs.Keeping.{Each, StatementKeeps, VarKeeps, TransitionKeeps, StateKeeps, ParserKeeps, KeyKeeps, LocalKeeps, ControlKeeps}
use Rattle.v1_block_laws.proofs.Tests.{in_front, at_end}
use Rattle.p416_syntax.specs.Types.{is_mistyped}
use Rattle.p416_syntax.specs.Sizes.{leaves_size}

pub front : (xs ys : List Use) → KeepsAll (xs ++ ys) → KeepsAll xs
front xs ys kept = (in_front is_mistyped xs ys kept.0, in_front leaves_size xs ys kept.1)

pub back : (xs ys : List Use) → KeepsAll (xs ++ ys) → KeepsAll ys
back xs ys kept = (at_end is_mistyped xs ys kept.0, at_end leaves_size xs ys kept.1)

each_keeps : {X : Type 0} (judged : X → List Use) (P : X → Type 0) → ((x : X) → KeepsAll (judged x) → P x) → (xs : List X) → KeepsAll (flat_map judged xs) → Each P xs
each_keeps judged P one [] kept = tt
each_keeps judged P one (x ∷ xs) kept =
    (one x (front (judged x) (flat_map judged xs) kept), each_keeps judged P one xs (back (judged x) (flat_map judged xs) kept))

-- statements

split : (xs ys : List Visit) → KeepsAll (flat_map visit_uses (xs ++ ys)) → KeepsAll (flat_map visit_uses xs ++ flat_map visit_uses ys)
split xs ys kept = subst KeepsAll (flat_map-append visit_uses xs ys) kept

-- of the statements behind a first one, given what is judged in this
behind_first : (own : List Use) (rest : List Visit) → KeepsAll (own ++ flat_map visit_uses rest) → KeepsAll (flat_map visit_uses rest)
behind_first own rest kept = back own (flat_map visit_uses rest) kept

pub statement_keeps : (s : Scope) (x : Stmt16) → KeepsAll (statement_uses s x) → StatementKeeps s x
statement_keeps s no_statements kept = tt
statement_keeps s ((then) before last) kept =
    let both = split (visits s before) (visits (behind before s) last) kept in (
      statement_keeps s before (front (statement_uses s before) (statement_uses (behind before s) last) both),
      statement_keeps (behind before s) last (back (statement_uses s before) (statement_uses (behind before s) last) both),
    )
statement_keeps s (block body) kept = statement_keeps s body (behind_first (own_uses s (block body)) (visits s body) kept)
statement_keeps s empty kept = tt
statement_keeps s (var t called) kept = tt
statement_keeps s (var_is t called e) kept =
    back (type_uses s of_variable t) (uses s (value (kind_of_type s.names t)) e) (front (own_uses s (var_is t called e)) [] kept)
statement_keeps s (assign e f) kept =
    let own = front (own_uses s (assign e f)) [] kept in
    (front (uses s target e) (uses s (assigned_place (kind_of s e)) f) own, back (uses s target e) (uses s (assigned_place (kind_of s e)) f) own)
statement_keeps s (expression e) kept = front (uses s statement e) [] kept
statement_keeps s (if_then c positive) kept = (
  front (uses s (value boolean) c) (statement_uses s positive) kept,
  statement_keeps s positive (behind_first (uses s (value boolean) c) (visits s positive) kept),
)
statement_keeps s (if_else c positive negative) kept =
    let both = split (visit s (if_else c positive negative) ∷ visits s positive) (visits s negative) kept in
    let first = front (uses s (value boolean) c ++ statement_uses s positive) (statement_uses s negative) both in (
      front (uses s (value boolean) c) (statement_uses s positive) first,
      statement_keeps s positive (back (uses s (value boolean) c) (statement_uses s positive) first),
      statement_keeps s negative (back (uses s (value boolean) c ++ statement_uses s positive) (statement_uses s negative) both),
    )
statement_keeps s (switch table cases) kept = statement_keeps s cases (behind_first (own_uses s (switch table cases)) (visits s cases) kept)
statement_keeps s no_cases kept = tt
statement_keeps s (case_of before label body) kept =
    let both = split (visits s before) (visit s (case_of before label body) ∷ visits s body) kept in (
      statement_keeps s before (front (statement_uses s before) (own_uses s (case_of before label body) ++ statement_uses s body) both),
      statement_keeps s body (behind_first (own_uses s (case_of before label body)) (visits s body) (back (statement_uses s before) (own_uses s (case_of before label body) ++ statement_uses s body) both)),
    )

body_keeps : (s : Scope) (braces : ℕ) (body : Stmt16) → KeepsAll (body_uses s braces body) → StatementKeeps s body
body_keeps s braces body kept = statement_keeps s body kept

-- parsers

var_keeps : (s : Scope) (v : Var) → KeepsAll (var_uses s v) → VarKeeps s v
var_keeps s v kept = by v.initial (back (type_uses s of_variable v.of) (option_map_or (uses s (value (kind_of_type s.names v.of))) v.initial []) kept) where
  by : (o : Option Exp16) → KeepsAll (option_map_or (uses s (value (kind_of_type s.names v.of))) o []) → IfSome o (λ e. KeepsAll (uses s (value (kind_of_type s.names v.of)) e))
  by None rest = tt
  by (Some e) rest = rest

transition_keeps : (s : Scope) (t : Transition) → KeepsAll (transition_uses s t) → TransitionKeeps s t
transition_keeps s (transition.Go t) kept = tt
transition_keeps s (transition.Select keys cases) kept =
    each_keeps (uses s select_key) (λ e. KeepsAll (uses s select_key e)) (λ e k. k) keys
    (front (flat_map (uses s select_key) keys) (flat_map (case_uses s (map (kind_of s) keys)) cases) kept)

state_keeps : (s : Scope) (x : State) → KeepsAll (state_uses s x) → StateKeeps s x
state_keeps s x kept = (
  body_keeps s 0 x.body (front (body_uses s 0 x.body) (transition_uses (behind x.body s) x.transition) kept),
  transition_keeps (behind x.body s) x.transition (back (body_uses s 0 x.body) (transition_uses (behind x.body s) x.transition) kept),
)

pub parser_keeps : (s : Scope) (p : Parser16) → KeepsAll (parser_uses s p) → ParserKeeps (parser_scope s p) p
parser_keeps s p kept =
    let t = parser_scope s p in
    let parameters = flat_map (parameter_uses s of_block_parameter) p.parameters in
    let vars = flat_map (var_uses t) p.vars in
    let states = flat_map (state_uses t) p.states in (
      each_keeps (var_uses t) (VarKeeps t) (var_keeps t) p.vars (back parameters vars (front (parameters ++ vars) states kept)),
      each_keeps (state_uses t) (StateKeeps t) (state_keeps t) p.states (back (parameters ++ vars) states kept),
    )

-- controls

action_keeps : (s : Scope) (x : Local) → KeepsAll (local_uses s x) → LocalKeeps s x
action_keeps s (local.Instance notes i) kept = tt
action_keeps s (local.Var v) kept = var_keeps s v kept
action_keeps s (local.Action a) kept =
    let parameters = flat_map (parameter_uses s of_action_parameter) a.parameters in
    let judged = names_of_scope (map parameter_name a.parameters) ∷ some_parameters a.parameters ∷ parameters in
    body_keeps (action_scope s a) 1 a.body (back (note_uses a.notes ++ judged) (body_uses (action_scope s a) 1 a.body) kept)
action_keeps s (local.Table t) kept =
    let keys = flat_map (key_uses s) (keys_of t.properties) in
    let actions = flat_map (action_name_uses s) (actions_of t.properties) in
    let size = map a_number (option_to_list (size_of t.properties)) in
    let counters = map (a_name s some_direct_counter) (option_to_list (counters_of t.properties)) in
    let defaults = defaults_of s (default_action_of t.properties) (default_arguments_of t.properties) in
    let with_keys = note_uses t.notes ++ a_table_of s t ∷ keys in
    each_keeps (key_uses s) (KeyKeeps s) key_keeps (keys_of t.properties)
    (back (note_uses t.notes) (a_table_of s t ∷ keys) (front with_keys actions (front (with_keys ++ actions) size (front (with_keys ++ actions ++ size) counters (front (with_keys ++ actions ++ size ++ counters) defaults kept))))) where
      key_keeps : (k : TableKey) → KeepsAll (key_uses s k) → KeyKeeps s k
      key_keeps k judged = front (uses (record s { part = in_key }) (table_key (is_exact k)) k.exp) (note_uses k.notes) judged

pub control_keeps : (s : Scope) (c : Control16) → KeepsAll (control_uses s c) → ControlKeeps (control_scope s c) c
control_keeps s c kept =
    let t = control_scope s c in
    let parameters = flat_map (parameter_uses s of_block_parameter) c.parameters in
    let locals = flat_map (local_uses t) c.locals in
    let body = body_uses t 1 c.body in (
      each_keeps (local_uses t) (LocalKeeps t) (action_keeps t) c.locals (back parameters locals (front (parameters ++ locals) body kept)),
      body_keeps t 1 c.body (back (parameters ++ locals) body kept),
    )
