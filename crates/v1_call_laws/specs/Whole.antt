-- That every call as a statement does what the ready one does, where pushing to and popping from stacks, what packets can do, and
-- the application of tables do (P4_16 1.2, "Function calls and method invocations").
use Rattle.std.specs.Prelude.{◌≡◌, ℕ, true, false, [], Some, IfSome, List}
use Rattle.std.specs.List.{list_any}
use Rattle.p416_syntax.specs.declared.parsers.Parser16.{Parser16}
use Rattle.p416_syntax.specs.declared.controls.Action16.{Action16}
use Rattle.p416_syntax.specs.declared.controls.Control16.{Control16}
use Rattle.p416_syntax.specs.declared.program.Decl16.{Decl16}
use Rattle.p416_syntax.specs.Tree.{Exp16, Stmt16, name, member, call, expression}
use Rattle.p416_syntax.specs.Names.{Name}
use Rattle.p416_syntax.specs.Kinds.{Kind, stack, packet_in, packet_out, table}
use Rattle.p416_syntax.specs.Scopes.{Handed, an_action, Scope, sort_of}
use Rattle.p416_syntax.specs.Calls.{statement}
use Rattle.p416_syntax.specs.Expressions.{kind_of}
use Rattle.p416_syntax.specs.Uses.{uses, arguments_of}
use Rattle.p416_syntax.specs.Literals.{overflows}
use Rattle.p416_syntax.specs.Arguments.{is_miscounted}
use Rattle.p416_syntax.specs.Statements.{behind}
use Rattle.p416_syntax.specs.Declarations.{layouts_of, top_scope, parser_scope, control_scope, action_scope}
use Rattle.p416_syntax.specs.Breaks.{BreaksNone, program_rules}
use Rattle.v1_core.specs.Surroundings as meaning
use Rattle.v1_core.specs.Surroundings.{action_named}
use Rattle.v1_core.specs.Numbered.{InScope}
use Rattle.v1_core.specs.Cells.{Cells}
use Rattle.v1_ready_forms.specs.Named.{seats_in}
use Rattle.v1_ready_laws.specs.Rules.{Keeps}
use Rattle.v1_block_laws.specs.Keeping.{Each}
use Rattle.v1_ready_blocks.specs.Tests.{World}
use Rattle.v1_ready_statements.specs.Around.{Around, Found, action_found}
use Rattle.v1_ready_statements.specs.Given.{any_applies}
use Rattle.v1_ready_statements.specs.Called.{expression_ready}
use Rattle.v1_statement_laws.specs.Behind.{Waits, InContext}
use Rattle.v1_statement_laws.specs.Leaves.{RunsAlike, ActionDoes}
use Rattle.v1_call_laws.specs.Telling.{ToldNone, TestsTell}
use Rattle.v1_call_laws.specs.Calling.{IsAround, StandardIsOwn, IsSame, NamesPlain}
use Rattle.v1_call_laws.specs.Sourcing.{SourcesTell, FormsAgree}
use Rattle.v1_call_laws.specs.Handing.{AreHanded, NamesDiffer}

-- in a statement no stack tells anything but what is pushed or popped
abbrev pub CallTold : Scope → Exp16 → Type 0
CallTold s (call (member e word) handed) = ToldNone s e × Each (ToldNone s) (arguments_of handed)
CallTold s (call e handed) = Each (ToldNone s) (arguments_of handed)
CallTold s e = ToldNone s e

-- no table is applied in the arguments of a call
abbrev pub AtOnce : Scope → Exp16 → Type 0
AtOnce s (call e handed) = any_applies s (arguments_of handed) ≡ false
AtOnce s e = Unit {0}

-- of what there are other methods
abbrev pub IsOther : Kind → Type 0
IsOther (stack type size) = Unit {0}
IsOther packet_in = Unit {0}
IsOther packet_out = Unit {0}
IsOther table = Unit {0}
IsOther k = ⊥

-- a statement that is an expression does what the ready one does
abbrev pub CallShows : (Cells → Type 0) → Around → meaning.World → World → Scope → InScope → Exp16 → Type 0
CallShows P b w z s who e =
    IfSome (expression_ready b s (seats_in b.syntax w.around.roots who) e) (RunsAlike P b w z s who [] (expression e))

-- the call of an action
abbrev pub NamedShows : (Cells → Type 0) → Around → meaning.World → World → Scope → InScope → Exp16 → Type 0
NamedShows P b w z s who (call (name text) handed) =
    (plane : Name) (hs : List Handed) → sort_of s text ≡ an_action plane hs → CallShows P b w z s who (call (name text) handed)
NamedShows P b w z s who e = Unit {0}

-- the call of another method
abbrev pub OtherShows : (Cells → Type 0) → Around → meaning.World → World → Scope → InScope → Exp16 → Type 0
OtherShows P b w z s who (call (member e word) handed) =
    IsOther (kind_of s e) → CallShows P b w z s who (call (member e word) handed)
OtherShows P b w z s who e = Unit {0}

-- an action that a name stands for, as it is declared
abbrev pub ActionCalls : (Cells → Type 0) → Around → meaning.World → World → Scope → InScope → Name → List Handed → Found → Type 0
ActionCalls P b w z s who text hs f =
    ActionDoes P b w z who f × NamesDiffer f.place.of.parameters × (action_named w.around text ≡ Some f.place.of)
    × AreHanded s w.around.scope hs f.place.of.parameters

-- where that is called
abbrev pub ActionDone : (Cells → Type 0) → Around → meaning.World → World → Scope → InScope → Exp16 → Type 0
ActionDone P b w z s who (call (name text) handed) =
    (plane : Name) (hs : List Handed) → sort_of s text ≡ an_action plane hs →
    IfSome (action_found b text) (ActionCalls P b w z s who text hs)
ActionDone P b w z s who e = Unit {0}

-- names and fields are of such kinds as types name in the scopes of the top, of parsers, of controls and of their actions, and
-- behind statements

abbrev pub ScopesPlain : Type 0
ScopesPlain =
    (ds : List Decl16) (positions : List ℕ) →
    NamesPlain (top_scope ds positions) × ((p : Parser16) → NamesPlain (parser_scope (top_scope ds positions) p))
    × ((c : Control16) → NamesPlain (control_scope (top_scope ds positions) c))
    × ((c : Control16) (a : Action16) → NamesPlain (action_scope (control_scope (top_scope ds positions) c) a))

abbrev pub ScopesStayPlain : Type 0
ScopesStayPlain = (s : Scope) (x : Stmt16) → NamesPlain s → NamesPlain (behind x s)

-- all calls, and other expressions, as statements that the rules find nothing in (T2, T3, T4, T6)
abbrev pub CallsShow : Type 0
CallsShow =
    (b : Around) (w : meaning.World) (z : World) (from to n : ℕ) (s : Scope) (who : InScope) (e : Exp16) →
    BreaksNone b.syntax program_rules → StandardIsOwn b.syntax → FormsAgree b.syntax → IsAround b w.around →
    InContext b.syntax w.around.roots from to n s who → w.around.scope.layouts ≡ layouts_of b.syntax.decls → NamesPlain s →
    ((c : Cells) → TestsTell (IsSame c) b w z s who) → ((c : Cells) → SourcesTell (IsSame c) b w z s who) →
    ActionDone (Waits true b.syntax) b w z s who e → OtherShows (Waits true b.syntax) b w z s who e →
    Keeps s statement e → list_any overflows (uses s statement e) ≡ false →
    list_any is_miscounted (uses s statement e) ≡ false → CallTold s e →
    CallShows (Waits true b.syntax) b w z s who e

-- the same, whatever holds of the frame in which arguments wait, where no table is applied in arguments
abbrev pub CallsShowAtOnce : Type 1
CallsShowAtOnce =
    (P : Cells → Type 0) (b : Around) (w : meaning.World) (z : World) (from to n : ℕ) (s : Scope) (who : InScope) (e : Exp16) →
    BreaksNone b.syntax program_rules → StandardIsOwn b.syntax → FormsAgree b.syntax → IsAround b w.around →
    InContext b.syntax w.around.roots from to n s who → w.around.scope.layouts ≡ layouts_of b.syntax.decls → NamesPlain s →
    TestsTell P b w z s who → SourcesTell P b w z s who → ActionDone P b w z s who e → AtOnce s e →
    OtherShows P b w z s who e → Keeps s statement e → list_any overflows (uses s statement e) ≡ false →
    list_any is_miscounted (uses s statement e) ≡ false → CallTold s e → CallShows P b w z s who e
