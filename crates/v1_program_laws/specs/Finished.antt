-- That controls of accepted programs run as their ready blocks (P4_16 1.2, "Control blocks").
use Rattle.std.specs.Prelude.{◌≡◌, Some, None}
use Rattle.match_core.specs.Fits.{Fits}
use Rattle.match_core.specs.Tables.{tables_of}
use Rattle.p416_syntax.specs.declared.controls.Control16.{Control16}
use Rattle.p416_syntax.specs.Breaks.{BreaksNone, program_rules}
use Rattle.v1_core.specs.declared.block.Block.{Block}
use Rattle.v1_core.specs.Frames as sem
use Rattle.v1_core.specs.Signatures.{signature16}
use Rattle.v1_core.specs.Surroundings.{Setting}
use Rattle.v1_core.specs.Blocks.{around_control, control_at, control16}
use Rattle.v1_core.specs.Numbered.{nobody}
use Rattle.v1_core.specs.PackedFrames.{IsFrameOf}
use Rattle.v1_ready_blocks.specs.Moments.{Moment}
use Rattle.v1_ready_blocks.specs.Tables as ready
use Rattle.v1_ready_blocks.specs.Blocks as blocks
use Rattle.v1_ready_blocks.specs.Blocks.{ready_run}
use Rattle.v1_parser_laws.specs.Shown.{Shows}
use Rattle.v1_ready_statements.specs.Blocks as ready_blocks
use Rattle.v1_ready_statements.specs.Blocks.{ready_control}
use Rattle.v1_control_laws.specs.Controls.{rule_tests, LeavesDo, ActionLeavesDo}
use Rattle.v1_program_laws.specs.ControlLaws.{HeadersWhole}

-- all statements without others in them do the same, in the body of a control and in its actions
abbrev pub ControlLeavesDo : Type 0
ControlLeavesDo =
    (c : Setting) (place : Block) (k : Control16) → BreaksNone c.syntax program_rules → control_at c.syntax place ≡ Some k →
    HeadersWhole c.syntax →
    LeavesDo rule_tests (around_control c place k) (ready_blocks.around_control c.syntax k)
    × ActionLeavesDo rule_tests (around_control c place k) (ready_blocks.around_control c.syntax k)

-- so a control of an accepted program runs as its ready block, with what fills the tables of the signature
abbrev pub ControlsDo : Type 0
ControlsDo =
    (c : Setting) (place : Block) (k : Control16) (r : blocks.Block) (fill : ready.Fill) →
    BreaksNone c.syntax program_rules → control_at c.syntax place ≡ Some k → ready_control c.syntax place k ≡ Some r →
    fill.tables ≡ tables_of (signature16 c.syntax) c.entries → fill.fills ≡ c.entries.tables →
    Fits c.entries (signature16 c.syntax) →
    HeadersWhole c.syntax →
    (m : sem.Moment) (j : Moment) → Shows c.syntax nobody m j → IsFrameOf c.syntax j.waiting → m.stopped ≡ None →
    Shows c.syntax nobody (control16 c place m) (ready_run fill r j)
