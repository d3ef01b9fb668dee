-- The statements of a control without others in them, put together: where assignments and initial values do the same, and what is
-- emitted is whole octets (P4_16 1.2, "Statements", "Control blocks").
use Rattle.std.specs.Prelude.{◌≡◌, ℕ, ◌+◌, ◌≤◌, List, [], ◌∷◌, Option, Some, IfSome}
use Rattle.p416_syntax.specs.declared.parts.Type16.{Type16}
use Rattle.p416_syntax.specs.declared.controls.Control16.{Control16}
use Rattle.p416_syntax.specs.declared.program.Syntax16.{Syntax16}
use Rattle.p416_syntax.specs.Tree.{Exp16, assign, var_is}
use Rattle.p416_syntax.specs.Names.{Name}
use Rattle.p416_syntax.specs.Scopes.{Scope, kind_of_type}
use Rattle.p416_syntax.specs.Calls.{value, target}
use Rattle.p416_syntax.specs.Expressions.{kind_of}
use Rattle.p416_syntax.specs.Statements.{assigned_place}
use Rattle.p416_syntax.specs.Breaks.{BreaksNone, program_rules}
use Rattle.p416_syntax.specs.Declarations.{layouts_of}
use Rattle.v1_core.specs.declared.block.Block.{Block}
use Rattle.v1_core.specs.Slots.{FramePart, variable_kinds}
use Rattle.v1_core.specs.Surroundings as meaning
use Rattle.v1_core.specs.Surroundings.{Setting}
use Rattle.v1_core.specs.Numbered.{Variable, InScope}
use Rattle.v1_core.specs.Blocks.{around_control, control_at}
use Rattle.v1_core.specs.Cells.{Cells}
use Rattle.v1_core.specs.Seats.{Form, header_form, stack_form, Seat}
use Rattle.v1_core.specs.Programs.{part_seat}
use Rattle.v1_ready_forms.specs.Named.{seats_in}
use Rattle.v1_ready_blocks.specs.Tests.{World}
use Rattle.v1_block_laws.specs.Standing.{AreOfKinds}
use Rattle.v1_block_laws.specs.Variables.{scope_in_control, variable}
use Rattle.v1_deed_laws.specs.Forms.{IsEmitted}
use Rattle.v1_ready_statements.specs.Statements.{assignment_ready, initial_ready}
use Rattle.v1_ready_statements.specs.Blocks as ready
use Rattle.v1_statement_laws.specs.Behind.{Within}
use Rattle.v1_statement_laws.specs.Meeting.{Judged}
use Rattle.v1_statement_laws.specs.Leaves.{RunsAlike}
use Rattle.v1_call_laws.specs.Telling.{TestsTell}
use Rattle.v1_call_laws.specs.Sourcing.{SourcesTell}
use Rattle.v1_call_laws.specs.Standing.{StandsIn}
use Rattle.v1_control_laws.specs.Controls.{Waiting, rule_tests, LeavesDo, ActionLeavesDo}

-- the headers of a program are whole octets (T2)

abbrev pub IsHeaded : Form → Type 0
IsHeaded (header_form type) = Unit {0}
IsHeaded (stack_form type size) = Unit {0}
IsHeaded form = ⊥

abbrev pub HeadersWhole : Syntax16 → Type 0
HeadersWhole syntax =
    (p : FramePart) (t : Seat) → part_seat syntax p ≡ Some t → IsHeaded t.form → IsEmitted (layouts_of syntax.decls) t.form

-- in these scopes of a control, where tests and sources tell what they are asked for
abbrev pub Told : Setting → Control16 → meaning.World → World → List Variable → ℕ → ℕ → ℕ → Option Cells → Scope → InScope → Type 0
Told c k w z vars from to n p s who =
    Within vars c.syntax w.around.roots from to n s who × StandsIn (scope_in_control c.syntax k) s
    × TestsTell (Waiting c.syntax p) (ready.around_control c.syntax k) w z s who
    × SourcesTell (Waiting c.syntax p) (ready.around_control c.syntax k) w z s who

-- assignments do the same
abbrev pub AssignmentsDo : Setting → Control16 → Type 0
AssignmentsDo c k =
    (w : meaning.World) (z : World) (vars : List Variable) (from to n : ℕ) (p : Option Cells) (s : Scope) (who : InScope)
    (e f : Exp16) →
    Told c k w z vars from to n p s who → Judged rule_tests s target e → Judged rule_tests s (assigned_place (kind_of s e)) f →
    IfSome (assignment_ready (ready.around_control c.syntax k) s (seats_in c.syntax w.around.roots who) e f)
    (RunsAlike (Waiting c.syntax p) (ready.around_control c.syntax k) w z s who [] (assign e f))

-- so do variables with initial values
abbrev pub BeginningsDo : Setting → Control16 → Type 0
BeginningsDo c k =
    (w : meaning.World) (z : World) (vars : List Variable) (from to n : ℕ) (p : Option Cells) (s : Scope) (who : InScope)
    (t : Type16) (called : Name) (e : Exp16) →
    Told c k w z vars from to n p s who → AreOfKinds (variable_kinds c.syntax) n (kind_of_type s.names t ∷ []) → n + 1 ≤ to →
    Judged rule_tests s (value (kind_of_type s.names t)) e →
    IfSome (initial_ready (ready.around_control c.syntax k) s (seats_in c.syntax w.around.roots who) n (kind_of_type s.names t) e)
    (RunsAlike (Waiting c.syntax p) (ready.around_control c.syntax k) w z s who (variable called n ∷ []) (var_is t called e))

-- then all statements without others in them do, in the body of a control of an accepted program
abbrev pub BodyLeavesDo : Type 0
BodyLeavesDo =
    (c : Setting) (place : Block) (k : Control16) → BreaksNone c.syntax program_rules → control_at c.syntax place ≡ Some k →
    AssignmentsDo c k → BeginningsDo c k →
    HeadersWhole c.syntax →
    LeavesDo rule_tests (around_control c place k) (ready.around_control c.syntax k)

-- and in its actions
abbrev pub ActionBodiesDo : Type 0
ActionBodiesDo =
    (c : Setting) (place : Block) (k : Control16) → BreaksNone c.syntax program_rules → control_at c.syntax place ≡ Some k →
    AssignmentsDo c k → BeginningsDo c k →
    HeadersWhole c.syntax →
    ActionLeavesDo rule_tests (around_control c place k) (ready.around_control c.syntax k)
