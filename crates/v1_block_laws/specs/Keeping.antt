-- That what is evaluated in a block keeps the rules on types and sizes: the expressions of its statements with their arguments,
-- the initial values of its variables, the keys of its selects and its tables (P4_16 1.2, "Statements", "Transition
-- statements", "Tables").
use Rattle.std.specs.Prelude.{List, [], ◌∷◌, IfSome}
use Rattle.p416_syntax.specs.declared.parsers.Var.{Var}
use Rattle.p416_syntax.specs.declared.parsers.State.{State}
use Rattle.p416_syntax.specs.declared.parsers.Parser16.{Parser16}
use Rattle.p416_syntax.specs.declared.parsers.Transition.{Transition}
use Rattle.p416_syntax.specs.declared.parsers.Transition.TheVariants as transition
use Rattle.p416_syntax.specs.declared.controls.Local.{Local}
use Rattle.p416_syntax.specs.declared.controls.Local.TheVariants as local
use Rattle.p416_syntax.specs.declared.controls.TableKey.{TableKey}
use Rattle.p416_syntax.specs.declared.controls.Control16.{Control16}
use Rattle.p416_syntax.specs.Properties.{keys_of}
use Rattle.p416_syntax.specs.Tree.{Exp16, Stmt16, then, block, var_is, assign, expression, if_then, if_else, switch, case_of}
use Rattle.p416_syntax.specs.Kinds.{boolean}
use Rattle.p416_syntax.specs.Scopes.{Scope, kind_of_type}
use Rattle.p416_syntax.specs.Calls.{Place, value, target, statement, select_key, table_key, unasked}
use Rattle.p416_syntax.specs.Expressions.{kind_of}
use Rattle.p416_syntax.specs.Statements.{behind, assigned_place}
use Rattle.p416_syntax.specs.Declarations.{is_exact, action_scope}
use Rattle.v1_core.specs.Signatures.{key_scope}
use Rattle.v1_ready_laws.specs.Rules.{Keeps}

-- each of these
abbrev pub Each : {X : Type 0} → (X → Type 0) → List X → Type 0
Each P [] = Unit {0}
Each P (x ∷ xs) = P x × Each P xs

-- a statement with all within it
abbrev pub StatementKeeps : Scope → Stmt16 → Type 0
StatementKeeps s ((then) before last) = StatementKeeps s before × StatementKeeps (behind before s) last
StatementKeeps s (block body) = StatementKeeps s body
StatementKeeps s (var_is t called e) = Keeps s (value (kind_of_type s.names t)) e
StatementKeeps s (assign e f) = Keeps s target e × Keeps s (assigned_place (kind_of s e)) f
StatementKeeps s (expression e) = Keeps s statement e
StatementKeeps s (if_then c positive) = Keeps s (value boolean) c × StatementKeeps s positive
StatementKeeps s (if_else c positive negative) =
    Keeps s (value boolean) c × StatementKeeps s positive × StatementKeeps s negative
StatementKeeps s (switch table cases) = StatementKeeps s cases
StatementKeeps s (case_of before label body) = StatementKeeps s before × StatementKeeps s body
StatementKeeps s _ = Unit {0}

-- the initial value of a variable of a block
abbrev pub VarKeeps : Scope → Var → Type 0
VarKeeps s v = IfSome v.initial (λ e. Keeps s (value (kind_of_type s.names v.of)) e)

-- the keys of a select
abbrev pub TransitionKeeps : Scope → Transition → Type 0
TransitionKeeps s (transition.Go t) = Unit {0}
TransitionKeeps s (transition.Select keys cases) = Each (Keeps s select_key) keys

abbrev pub StateKeeps : Scope → State → Type 0
StateKeeps s x = StatementKeeps s x.body × TransitionKeeps (behind x.body s) x.transition

-- a parser, in its scope
abbrev pub ParserKeeps : Scope → Parser16 → Type 0
ParserKeeps s p = Each (VarKeeps s) p.vars × Each (StateKeeps s) p.states

-- a key of a table
abbrev pub KeyKeeps : Scope → TableKey → Type 0
KeyKeeps s k = Keeps (key_scope s) (table_key (is_exact k)) k.exp

-- a variable, an action with its body, the keys of a table
abbrev pub LocalKeeps : Scope → Local → Type 0
LocalKeeps s (local.Instance notes i) = Unit {0}
LocalKeeps s (local.Var v) = VarKeeps s v
LocalKeeps s (local.Action a) = StatementKeeps (action_scope s a) a.body
LocalKeeps s (local.Table t) = Each (KeyKeeps s) (keys_of t.properties)

-- a control, in its scope
abbrev pub ControlKeeps : Scope → Control16 → Type 0
ControlKeeps s c = Each (LocalKeeps s) c.locals × StatementKeeps s c.body

-- the arguments of a call at the places that it has for them
abbrev pub ArgumentsKeep : Scope → List Place → List Exp16 → Type 0
ArgumentsKeep s places [] = Unit {0}
ArgumentsKeep s [] (e ∷ es) = Keeps s unasked e × ArgumentsKeep s [] es
ArgumentsKeep s (p ∷ places) (e ∷ es) = Keeps s p e × ArgumentsKeep s places es
