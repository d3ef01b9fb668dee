-- The statements of a control without others in them, put together.
use Rattle.std.proofs.Common.{◌≡◌, ℕ, Bool, Option, Some, None, List}
use Rattle.p416_syntax.specs.declared.controls.Control16.{Control16}
use Rattle.p416_syntax.specs.Scopes.{Scope}
use Rattle.p416_syntax.specs.Breaks.{BreaksNone, program_rules}
use Rattle.v1_core.specs.declared.block.Block.{Block}
use Rattle.v1_core.specs.Surroundings as meaning
use Rattle.v1_core.specs.Surroundings.{Setting}
use Rattle.v1_core.specs.Numbered.{Variable, InScope}
use Rattle.v1_core.specs.Blocks.{around_control, control_at}
use Rattle.v1_core.specs.Cells.{Cells}
use Rattle.v1_ready_blocks.specs.Tests.{World}
use Rattle.v1_block_laws.specs.Variables.{scope_in_control}
use Rattle.v1_ready_statements.specs.Blocks as ready
use Rattle.v1_statement_laws.specs.Behind.{Within}
use Rattle.v1_statement_laws.specs.Leaves.{Leaves}
use Rattle.v1_call_laws.specs.Standing.{StandsIn}
use Rattle.v1_control_laws.specs.Controls.{Waiting, Meets, InActions, rule_tests, ActionsDo, TablesDo}
use Rattle.v1_program_laws.specs.ControlLaws.{HeadersWhole, Told, AssignmentsDo, BeginningsDo, BodyLeavesDo, ActionBodiesDo}
use Rattle.v1_program_laws.proofs.ControlLeaves.{tell, sources, condition_shows, call_shows, action_call_shows}

module _ (c : Setting) (place : Block) (k : Control16) (accepted : BreaksNone c.syntax program_rules) (found : control_at c.syntax place ≡ Some k) (assigns : AssignmentsDo c k) (begins : BeginningsDo c k)
    (whole : HeadersWhole c.syntax)
    (w : meaning.World) (z : World) (vars : List Variable) (from to : ℕ) (may : ℕ → Bool) (is : w.around ≡ around_control c place k) (tables : (p : Option Cells) → TablesDo (Waiting c.syntax p) (ready.around_control c.syntax k) w z vars from to) where
  told : (p : Option Cells) (s : Scope) (who : InScope) (n : ℕ) → Within vars c.syntax w.around.roots from to n s who → StandsIn (scope_in_control c.syntax k) s → Told c k w z vars from to n p s who
  told p s who n at stands = (at, stands, tell c place k accepted found w z vars from to may is tables s who n at stands p, sources c place k accepted found w z vars from to may is tables s who n at stands p)

  body_leaves : ActionsDo (Waiting c.syntax None) (ready.around_control c.syntax k) w z vars from to may → Leaves (Meets rule_tests (scope_in_control c.syntax k) (ready.around_control c.syntax k) may) (Waiting c.syntax None) (ready.around_control c.syntax k) w z vars from to
  body_leaves actions = record {
    assigns = λ s who n e f at meets. assigns w z vars from to n None s who e f (told None s who n at meets.0.2) meets.0.0 meets.1.0;
    calls = λ s who n e at meets. call_shows c place k accepted found w z vars from to may is tables s who n at meets.2 whole actions e meets.0 meets.1;
    initials = λ s who n t called e at are le meets. begins w z vars from to n None s who t called e (told None s who n at meets.2) are le meets.0;
    conditions = λ s who n e at meets. condition_shows c place k accepted found w z vars from to may is tables s who n at meets.2 None e meets.0;
    tables = λ s who n text at. tables None s who n text at;
  }

  action_leaves : (o : Option Cells) → ActionsDo (Waiting c.syntax o) (ready.around_control c.syntax k) w z vars from to may → Leaves (InActions rule_tests (scope_in_control c.syntax k) (ready.around_control c.syntax k) may) (Waiting c.syntax o) (ready.around_control c.syntax k) w z vars from to
  action_leaves o actions = record {
    assigns = λ s who n e f at meets. assigns w z vars from to n o s who e f (told o s who n at meets.0.0.2) meets.0.0.0 meets.1.0.0;
    calls = λ s who n e at meets. action_call_shows c place k accepted found w z vars from to may is tables s who n at meets.0.2 o whole actions meets.1 e meets.0.0 meets.0.1;
    initials = λ s who n t called e at are le meets. begins w z vars from to n o s who t called e (told o s who n at meets.0.2) are le meets.0.0;
    conditions = λ s who n e at meets. condition_shows c place k accepted found w z vars from to may is tables s who n at meets.0.2 o e meets.0.0;
    tables = λ s who n text at. tables o s who n text at;
  }

pub body_leaves_do : BodyLeavesDo
body_leaves_do c place k accepted found assigns begins whole w z vars from to may is actions tables = body_leaves c place k accepted found assigns begins whole w z vars from to may is tables actions

pub action_bodies_do : ActionBodiesDo
action_bodies_do c place k accepted found assigns begins whole o w z vars from to may is actions tables = action_leaves c place k accepted found assigns begins whole w z vars from to may is tables o actions
