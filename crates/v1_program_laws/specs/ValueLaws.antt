-- That assignments and initial values in controls do the same, of single values and of those with parts, where tests tell the values
-- of expressions (P4_16 1.2, "Assignment statement", "Variable declarations").
use Rattle.std.specs.Prelude.{◌≡◌, ℕ, ◌+◌, ◌≤◌, true, [], ◌∷◌, Option, Some, IfSome}
use Rattle.p416_syntax.specs.declared.parts.Type16.{Type16}
use Rattle.p416_syntax.specs.declared.controls.Control16.{Control16}
use Rattle.p416_syntax.specs.Tree.{Exp16, assign, var_is}
use Rattle.p416_syntax.specs.Names.{Name}
use Rattle.p416_syntax.specs.Scopes.{Scope, kind_of_type}
use Rattle.p416_syntax.specs.Calls.{value, target}
use Rattle.p416_syntax.specs.Expressions.{kind_of, is_chosen}
use Rattle.p416_syntax.specs.Statements.{assigned_place}
use Rattle.p416_syntax.specs.Breaks.{BreaksNone, program_rules}
use Rattle.v1_core.specs.declared.block.Block.{Block}
use Rattle.v1_core.specs.Slots.{variable_kinds}
use Rattle.v1_core.specs.Surroundings as meaning
use Rattle.v1_core.specs.Surroundings.{Setting}
use Rattle.v1_core.specs.Numbered.{InScope}
use Rattle.v1_core.specs.Blocks.{around_control, control_world, control_at}
use Rattle.v1_core.specs.Cells.{Cells}
use Rattle.v1_ready_forms.specs.Named.{seats_in}
use Rattle.v1_ready_blocks.specs.Tests.{World}
use Rattle.v1_block_laws.specs.Standing.{AreOfKinds}
use Rattle.v1_block_laws.specs.Variables.{variable, scope_in_control, control_from, control_variables}
use Rattle.v1_parser_laws.specs.Shown.{in_block}
use Rattle.v1_ready_statements.specs.Around.{Around}
use Rattle.v1_ready_statements.specs.Statements.{assignment_ready, initial_ready}
use Rattle.v1_ready_statements.specs.Blocks as ready
use Rattle.v1_statement_laws.specs.Behind.{Waits, InContext}
use Rattle.v1_statement_laws.specs.Meeting.{Judged}
use Rattle.v1_statement_laws.specs.Leaves.{RunsAlike}
use Rattle.v1_call_laws.specs.Telling.{ToldNone, TestsTell}
use Rattle.v1_control_laws.specs.Controls.{Waiting, rule_tests, InitialsDo, BodyTablesDo}
use Rattle.v1_program_laws.specs.Giving.{Kept, LocalsTold, ConditionsTold}

-- an assignment whose target and value the rules find nothing in
abbrev pub ValuesAssigned : Type 0
ValuesAssigned =
    (o : Option Cells) (b : Around) (w : meaning.World) (z : World) (from to n : ℕ) (s : Scope) (who : InScope)
    (e f : Exp16) → BreaksNone b.syntax program_rules → InContext b.syntax w.around.roots from to n s who →
    TestsTell (Waiting b.syntax o) b w z s who → Kept s target e →
    Judged rule_tests s (assigned_place (kind_of s e)) f → (is_chosen (kind_of s e) ≡ true → ToldNone s f) → ConditionsTold s f →
    IfSome (assignment_ready b s (seats_in b.syntax w.around.roots who) e f)
    (RunsAlike (Waiting b.syntax o) b w z s who [] (assign e f))

-- a variable with an initial value
abbrev pub ValuesBegin : Type 0
ValuesBegin =
    (o : Option Cells) (b : Around) (w : meaning.World) (z : World) (from to n : ℕ) (s : Scope) (who : InScope)
    (t : Type16) (called : Name) (e : Exp16) → BreaksNone b.syntax program_rules →
    InContext b.syntax w.around.roots from to n s who → TestsTell (Waiting b.syntax o) b w z s who →
    AreOfKinds (variable_kinds b.syntax) n (kind_of_type s.names t ∷ []) → n + 1 ≤ to →
    Kept s (value (kind_of_type s.names t)) e →
    IfSome (initial_ready b s (seats_in b.syntax w.around.roots who) n (kind_of_type s.names t) e)
    (RunsAlike (Waiting b.syntax o) b w z s who (variable called n ∷ []) (var_is t called e))

-- the initial values of the variables of a control, in which no stack tells anything
abbrev pub InitialsOfControls : Type 0
InitialsOfControls =
    (c : Setting) (place : Block) (k : Control16) (z : World) → BreaksNone c.syntax program_rules →
    control_at c.syntax place ≡ Some k →
    TestsTell (Waits true c.syntax) (ready.around_control c.syntax k) (control_world (around_control c place k)) z
    (scope_in_control c.syntax k) (in_block (control_variables c.syntax k) []) →
    LocalsTold (scope_in_control c.syntax k) k.locals →
    InitialsDo (control_world (around_control c place k)) z c.syntax place k (control_from c.syntax k) k.locals

-- so they do where the tables of the control do
abbrev pub InitialsFollow : Type 0
InitialsFollow =
    (c : Setting) (place : Block) (k : Control16) (z : World) → BreaksNone c.syntax program_rules →
    control_at c.syntax place ≡ Some k → ((o : Option Cells) → BodyTablesDo c place k z o) →
    InitialsDo (control_world (around_control c place k)) z c.syntax place k (control_from c.syntax k) k.locals
