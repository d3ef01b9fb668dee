-- What controls do: that they emit octets, and that they run as their ready blocks (P4_16 1.2, "Control blocks"; `core.p4`,
-- `packet_out.emit`).
use Rattle.std.specs.Prelude.{◌≡◌, Option, Some, None}
use Rattle.p4x_bits.specs.BitLists.{IsOctets}
use Rattle.p416_syntax.specs.declared.controls.Control16.{Control16}
use Rattle.p416_syntax.specs.Breaks.{BreaksNone, program_rules}
use Rattle.v1_core.specs.declared.block.Block.{Block}
use Rattle.v1_core.specs.Frames.{Moment}
use Rattle.v1_core.specs.Surroundings.{Setting}
use Rattle.v1_core.specs.Numbered.{nobody}
use Rattle.v1_core.specs.Blocks.{around_control, control_world, control_at, control16}
use Rattle.v1_core.specs.Cells.{Cells}
use Rattle.v1_core.specs.PackedFrames.{IsFrameOf}
use Rattle.v1_ready_blocks.specs.Moments as blocks
use Rattle.v1_ready_blocks.specs.Tables.{Fill}
use Rattle.v1_ready_blocks.specs.Blocks as blocks_of
use Rattle.v1_ready_blocks.specs.Blocks.{world_of, ready_run}
use Rattle.v1_block_laws.specs.Variables.{control_from}
use Rattle.v1_parser_laws.specs.Shown.{Shows}
use Rattle.v1_ready_statements.specs.Blocks as ready
use Rattle.v1_ready_statements.specs.Blocks.{ready_control}
use Rattle.v1_control_laws.specs.Controls.{rule_tests, LeavesDo, ActionLeavesDo, InitialsDo, BodyActionsDo, BodyTablesDo}

-- Each block that is a control emits octets. Nothing is asked of the program: of a header that isn't whole octets those that
-- are whole are emitted.
abbrev pub OctetsEmitted : Type 0
OctetsEmitted =
    (c : Setting) (block : Block) (m : Moment) → IsOctets m.emitted → IsOctets (control16 c block m).emitted

-- A control of an accepted program runs as its ready block: where statements without others in them do the same where actions and
-- tables do, tables do where actions do, and initial values do where tables do.
abbrev pub ControlsShow : Type 0
ControlsShow =
    (c : Setting) (place : Block) (k : Control16) (r : blocks_of.Block) (fill : Fill) →
    BreaksNone c.syntax program_rules → control_at c.syntax place ≡ Some k → ready_control c.syntax place k ≡ Some r →
    ActionLeavesDo rule_tests (around_control c place k) (ready.around_control c.syntax k) →
    LeavesDo rule_tests (around_control c place k) (ready.around_control c.syntax k) →
    (((o : Option Cells) → BodyActionsDo c place k (world_of fill r) o) → (o : Option Cells) → BodyTablesDo c place k (world_of fill r) o) →
    (((o : Option Cells) → BodyTablesDo c place k (world_of fill r) o) →
    InitialsDo (control_world (around_control c place k)) (world_of fill r) c.syntax place k (control_from c.syntax k) k.locals) →
    (m : Moment) (j : blocks.Moment) → Shows c.syntax nobody m j → IsFrameOf c.syntax j.waiting → m.stopped ≡ None →
    Shows c.syntax nobody (control16 c place m) (ready_run fill r j)
