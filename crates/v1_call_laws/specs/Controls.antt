-- That every call in a control of a program does what the ready one does (P4_16 1.2, "Actions", "Function calls and method
-- invocations").
use Rattle.std.specs.Prelude.{◌≡◌, ℕ, true, false, List, Some, IfSome}
use Rattle.std.specs.List.{list_any}
use Rattle.p416_syntax.specs.declared.controls.Control16.{Control16}
use Rattle.p416_syntax.specs.declared.program.Syntax16.{Syntax16}
use Rattle.p416_syntax.specs.Tree.{Exp16, name, call}
use Rattle.p416_syntax.specs.Names.{Name}
use Rattle.p416_syntax.specs.Scopes.{Handed, an_action, Scope, sort_of}
use Rattle.p416_syntax.specs.Calls.{statement}
use Rattle.p416_syntax.specs.Uses.{uses}
use Rattle.p416_syntax.specs.Literals.{overflows}
use Rattle.p416_syntax.specs.Arguments.{is_miscounted}
use Rattle.p416_syntax.specs.Breaks.{BreaksNone, program_rules}
use Rattle.v1_core.specs.declared.block.Block.{Block}
use Rattle.v1_core.specs.Blocks.{control_at}
use Rattle.v1_core.specs.Surroundings as meaning
use Rattle.v1_core.specs.Numbered.{InScope}
use Rattle.v1_core.specs.Cells.{Cells}
use Rattle.v1_ready_laws.specs.Rules.{Keeps}
use Rattle.v1_block_laws.specs.Variables.{scope_in_control}
use Rattle.v1_ready_blocks.specs.Tests.{World}
use Rattle.v1_ready_statements.specs.Around.{Around, action_places, action_found}
use Rattle.v1_statement_laws.specs.Behind.{Waits, InContext}
use Rattle.v1_statement_laws.specs.Leaves.{ActionDoes}
use Rattle.v1_call_laws.specs.Telling.{TestsTell}
use Rattle.v1_call_laws.specs.Calling.{IsAround, StandardIsOwn, IsSame, NamesPlain}
use Rattle.v1_call_laws.specs.Sourcing.{SourcesTell, FormsAgree}
use Rattle.v1_call_laws.specs.Declared.{IsWithin}
use Rattle.v1_call_laws.specs.Whole.{CallTold, AtOnce, OtherShows, CallShows}

-- the type of standard metadata is that of `v1model.p4` (T1)
abbrev pub StandardStands : Type 0
StandardStands = (syntax : Syntax16) → BreaksNone syntax program_rules → StandardIsOwn syntax

-- what stands around the statements of a control
pub record AreOf (b : Around) (w : meaning.World) (block : Block) (c : Control16) (n : ℕ) : Type 0 where
  pub found : control_at b.syntax block ≡ Some c
  pub around : IsAround b w.around
  pub scope : w.around.scope ≡ scope_in_control b.syntax c
  pub locals : b.locals ≡ c.locals
  pub actions : b.actions ≡ action_places (scope_in_control b.syntax c) n c.locals

-- the action that is called does what the ready one does
abbrev pub CalledDoes : (Cells → Type 0) → Around → meaning.World → World → Scope → InScope → Exp16 → Type 0
CalledDoes P b w z s who (call (name text) handed) =
    (plane : Name) (hs : List Handed) → sort_of s text ≡ an_action plane hs → IfSome (action_found b text) (ActionDoes P b w z who)
CalledDoes P b w z s who e = Unit {0}

-- a call, or another expression, as a statement within a control, where its actions do what the ready ones do
abbrev pub ControlCallsShow : Type 0
ControlCallsShow =
    (b : Around) (w : meaning.World) (z : World) (block : Block) (c : Control16) (first from to n : ℕ) (s : Scope) (who : InScope)
    (e : Exp16) →
    BreaksNone b.syntax program_rules → AreOf b w block c first → FormsAgree b.syntax →
    InContext b.syntax w.around.roots from to n s who → IsWithin (scope_in_control b.syntax c) s → NamesPlain s →
    ((c : Cells) → TestsTell (IsSame c) b w z s who) → ((c : Cells) → SourcesTell (IsSame c) b w z s who) →
    CalledDoes (Waits true b.syntax) b w z s who e →
    OtherShows (Waits true b.syntax) b w z s who e → Keeps s statement e →
    list_any overflows (uses s statement e) ≡ false → list_any is_miscounted (uses s statement e) ≡ false → CallTold s e →
    CallShows (Waits true b.syntax) b w z s who e

-- the same, whatever holds of the frame in which arguments wait, where no table is applied in arguments: so in actions
abbrev pub ControlCallsShowAtOnce : Type 1
ControlCallsShowAtOnce =
    (P : Cells → Type 0) (b : Around) (w : meaning.World) (z : World) (block : Block) (c : Control16) (first from to n : ℕ) (s : Scope)
    (who : InScope) (e : Exp16) →
    BreaksNone b.syntax program_rules → AreOf b w block c first → FormsAgree b.syntax →
    InContext b.syntax w.around.roots from to n s who → IsWithin (scope_in_control b.syntax c) s → NamesPlain s →
    TestsTell P b w z s who → SourcesTell P b w z s who → CalledDoes P b w z s who e → AtOnce s e →
    OtherShows P b w z s who e → Keeps s statement e → list_any overflows (uses s statement e) ≡ false →
    list_any is_miscounted (uses s statement e) ≡ false → CallTold s e → CallShows P b w z s who e
