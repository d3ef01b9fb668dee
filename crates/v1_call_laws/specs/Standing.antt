-- The scopes in which the statements of a control stand (P4_16 1.2, "Name resolution", "Control blocks").
use Rattle.std.specs.Prelude.{◌≡◌, ℕ, true, false, List, [], ◌∷◌, is_some}
use Rattle.std.specs.List.{list_any}
use Rattle.p416_syntax.specs.declared.controls.Action16.{Action16}
use Rattle.p416_syntax.specs.declared.controls.Control16.{Control16}
use Rattle.p416_syntax.specs.declared.program.Decl16.{Decl16}
use Rattle.p416_syntax.specs.Tree.{Exp16, Stmt16}
use Rattle.p416_syntax.specs.Names.{Name}
use Rattle.p416_syntax.specs.Scopes.{a_function, Scope, sort_of}
use Rattle.p416_syntax.specs.Calls.{statement, parser_position, function_signature}
use Rattle.p416_syntax.specs.Uses.{uses}
use Rattle.p416_syntax.specs.Statements.{behind}
use Rattle.p416_syntax.specs.Declarations.{top_scope, control_scope, action_scope}
use Rattle.p416_syntax.specs.Arguments.{is_miscounted}
use Rattle.p416_syntax.specs.Externs.{are_allowed}
use Rattle.v1_call_laws.specs.Calling.{NamesPlain}
use Rattle.v1_call_laws.specs.Declared.{IsWithin}
use Rattle.v1_call_laws.specs.Whole.{CallTold}
use Rattle.v1_call_laws.specs.Ruled.{Ruled, OutsideParsers}

-- a scope within a block outside the parser: names are of the kinds that types name, and functions those of `v1model.p4`
pub record StandsIn (block s : Scope) : Type 0 where
  pub within : IsWithin block s
  pub plain : NamesPlain s
  pub out : OutsideParsers s
  pub functions : (text : Name) → sort_of s text ≡ a_function → is_some (function_signature text) ≡ true

-- so those of a control, of its actions and behind statements
abbrev pub ControlStands : Type 0
ControlStands =
    (ds : List Decl16) (positions : List ℕ) (c : Control16) → are_allowed (parser_position ∷ []) positions ≡ false →
    StandsIn (control_scope (top_scope ds positions) c) (control_scope (top_scope ds positions) c)

abbrev pub ActionsStand : Type 0
ActionsStand = (block : Scope) (a : Action16) → StandsIn block block → StandsIn block (action_scope block a)

abbrev pub StatementsStand : Type 0
StatementsStand = (block s : Scope) (x : Stmt16) → StandsIn block s → StandsIn block (behind x s)

-- there the rules let no stack tell anything in a call as a statement
abbrev pub CallsToldNone : Type 0
CallsToldNone =
    (block s : Scope) (e : Exp16) → StandsIn block s → Ruled (uses s statement e) →
    list_any is_miscounted (uses s statement e) ≡ false → CallTold s e
