-- That calls of functions, of objects and of actions do what the ready ones do.
use Rattle.std.specs.Prelude.{◌≡◌, ℕ, Bool, true, false, List, [], Some, IfSome}
use Rattle.std.specs.List.{list_any}
use Rattle.p416_syntax.specs.Tree.{Exp16, name, member, call, expression}
use Rattle.p416_syntax.specs.Names.{Name}
use Rattle.p416_syntax.specs.Kinds.{ObjectKind, object}
use Rattle.p416_syntax.specs.Scopes.{Handed, an_action, a_function, Scope, sort_of}
use Rattle.p416_syntax.specs.Expressions.{kind_of}
use Rattle.p416_syntax.specs.Calls.{statement}
use Rattle.p416_syntax.specs.Uses.{uses, arguments_of}
use Rattle.p416_syntax.specs.Literals.{overflows}
use Rattle.p416_syntax.specs.Arguments.{is_miscounted}
use Rattle.p416_syntax.specs.Declarations.{layouts_of}
use Rattle.p416_syntax.specs.Breaks.{BreaksNone, program_rules}
use Rattle.v1_core.specs.Surroundings as meaning
use Rattle.v1_core.specs.Surroundings.{action_named}
use Rattle.v1_core.specs.Numbered.{InScope}
use Rattle.v1_core.specs.Cells.{Cells}
use Rattle.v1_ready_forms.specs.Named.{seats_in}
use Rattle.v1_ready_laws.specs.Rules.{Keeps}
use Rattle.v1_block_laws.specs.Keeping.{Each}
use Rattle.v1_ready_blocks.specs.Tests.{World}
use Rattle.v1_ready_statements.specs.Around.{Around, Found, action_found}
use Rattle.v1_ready_statements.specs.Given.{any_applies}
use Rattle.v1_ready_statements.specs.Called.{expression_ready}
use Rattle.v1_statement_laws.specs.Behind.{Waits, InContext}
use Rattle.v1_statement_laws.specs.Leaves.{RunsAlike, ActionDoes}
use Rattle.v1_call_laws.specs.Telling.{ToldNone, TestsTell}
use Rattle.v1_call_laws.specs.Calling.{IsAround, StandardIsOwn, IsSame, CallFits, NamesPlain}
use Rattle.v1_call_laws.specs.Sourcing.{SourcesTell, FormsAgree}
use Rattle.v1_call_laws.specs.Handing.{AreHanded, NamesDiffer}

-- in a block without tables ready tests tell the values of expressions
abbrev pub QuietTestsTell : Type 0
QuietTestsTell =
    (calls : Bool) (b : Around) (w : meaning.World) (z : World) (from to n : ℕ) (s : Scope) (who : InScope) →
    BreaksNone b.syntax program_rules → InContext b.syntax w.around.roots from to n s who → b.locals ≡ [] →
    TestsTell (Waits calls b.syntax) b w z s who

-- a call of a function of `v1model.p4`
abbrev pub FunctionsCalled : Type 0
FunctionsCalled =
    (calls : Bool) (b : Around) (w : meaning.World) (z : World) (from to n : ℕ) (s : Scope) (who : InScope) (text : Name)
    (given : Exp16) →
    BreaksNone b.syntax program_rules → StandardIsOwn b.syntax → InContext b.syntax w.around.roots from to n s who →
    TestsTell (Waits calls b.syntax) b w z s who → sort_of s text ≡ a_function → CallFits s (name text) given →
    IfSome (expression_ready b s (seats_in b.syntax w.around.roots who) (call (name text) given))
    (RunsAlike (Waits calls b.syntax) b w z s who [] (expression (call (name text) given)))

-- a call of a method of a counter, a register or a meter
abbrev pub ObjectsCalled : Type 0
ObjectsCalled =
    (calls : Bool) (b : Around) (w : meaning.World) (z : World) (from to n : ℕ) (s : Scope) (who : InScope)
    (e given : Exp16) (word : Name) (kind : ObjectKind) →
    BreaksNone b.syntax program_rules → StandardIsOwn b.syntax → InContext b.syntax w.around.roots from to n s who →
    TestsTell (Waits calls b.syntax) b w z s who → IsAround b w.around → kind_of s e ≡ object kind →
    CallFits s (member e word) given →
    IfSome (expression_ready b s (seats_in b.syntax w.around.roots who) (call (member e word) given))
    (RunsAlike (Waits calls b.syntax) b w z s who [] (expression (call (member e word) given)))

-- a call of an action in whose arguments no table is applied: they enter the frame at once
abbrev pub ActionsCalled : Type 0
ActionsCalled =
    (calls : Bool) (b : Around) (w : meaning.World) (z : World) (from to n : ℕ) (s : Scope) (who : InScope)
    (text plane : Name) (given : Exp16) (hs : List Handed) (f : Found) →
    BreaksNone b.syntax program_rules → FormsAgree b.syntax → InContext b.syntax w.around.roots from to n s who →
    w.around.scope.layouts ≡ layouts_of b.syntax.decls → TestsTell (Waits calls b.syntax) b w z s who →
    SourcesTell (Waits calls b.syntax) b w z s who → ActionDoes (Waits calls b.syntax) b w z who f →
    NamesDiffer f.place.of.parameters → sort_of s text ≡ an_action plane hs → action_found b text ≡ Some f →
    action_named w.around text ≡ Some f.place.of → AreHanded s w.around.scope hs f.place.of.parameters →
    CallFits s (name text) given → any_applies s (arguments_of given) ≡ false →
    IfSome (expression_ready b s (seats_in b.syntax w.around.roots who) (call (name text) given))
    (RunsAlike (Waits calls b.syntax) b w z s who [] (expression (call (name text) given)))

-- and a call of any action, where none of its arguments changes what waits already: those of a call in which one applies a
-- table wait apart
abbrev pub ActionsCalledApart : Type 0
ActionsCalledApart =
    (b : Around) (w : meaning.World) (z : World) (from to n : ℕ) (s : Scope) (who : InScope) (text plane : Name) (given : Exp16)
    (hs : List Handed) (f : Found) →
    BreaksNone b.syntax program_rules → FormsAgree b.syntax → InContext b.syntax w.around.roots from to n s who →
    w.around.scope.layouts ≡ layouts_of b.syntax.decls → ((c : Cells) → TestsTell (IsSame c) b w z s who) →
    ((c : Cells) → SourcesTell (IsSame c) b w z s who) → ActionDoes (Waits true b.syntax) b w z who f →
    NamesDiffer f.place.of.parameters → sort_of s text ≡ an_action plane hs → action_found b text ≡ Some f →
    action_named w.around text ≡ Some f.place.of → AreHanded s w.around.scope hs f.place.of.parameters →
    CallFits s (name text) given →
    IfSome (expression_ready b s (seats_in b.syntax w.around.roots who) (call (name text) given))
    (RunsAlike (Waits true b.syntax) b w z s who [] (expression (call (name text) given)))

-- a call that the rules find nothing in fits, where names and fields are of such kinds as types name (T2, T3, T4, T6)
abbrev pub CallsFit : Type 0
CallsFit =
    (s : Scope) (callee given : Exp16) → NamesPlain s → Keeps s statement (call callee given) →
    list_any overflows (uses s statement (call callee given)) ≡ false →
    list_any is_miscounted (uses s statement (call callee given)) ≡ false → Each (ToldNone s) (arguments_of given) →
    CallFits s callee given
