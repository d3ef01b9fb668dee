-- What is owed of the ready blocks of a program: that each does what the block of the program does (P4_16 1.2, "Packet parsing",
-- "Control blocks"; `v1model.p4`; ready blocks are this project's own).
use Rattle.std.specs.Prelude.{◌≡◌, ℕ, List, None}
use Rattle.p4x_bits.specs.BitLists.{IsOctets}
use Rattle.state_store.specs.declared.shapes.Shape.{Shape}
use Rattle.match_core.specs.Stores.{shapes_of}
use Rattle.v1_core.specs.declared.block.Block.{Block}
use Rattle.v1_core.specs.declared.block.Block.TheVariants.{Verify, Ingress, Egress, Compute, Deparse}
use Rattle.v1_core.specs.Frames as sem
use Rattle.v1_core.specs.Surroundings.{Setting}
use Rattle.v1_core.specs.Numbered.{nobody}
use Rattle.v1_core.specs.Signatures.{signature16}
use Rattle.v1_core.specs.Parsing.{parse16}
use Rattle.v1_core.specs.Blocks.{control16}
use Rattle.v1_core.specs.Programs.{layout16}
use Rattle.v1_core.specs.PackedFrames.{IsFrameOf}
use Rattle.v1_ready_blocks.specs.Moments.{Moment}
use Rattle.v1_ready_blocks.specs.Nodes.{Ground}
use Rattle.v1_ready_blocks.specs.Tables.{Fill}
use Rattle.v1_ready_blocks.specs.Blocks.{ready_run}
use Rattle.v1_statement_run.specs.Steps.{expressions_in, ground_of, trees_of}
use Rattle.v1_ready_states.specs.declared.states.ReadyParser.{ReadyParser}
use Rattle.v1_ready_states.specs.States.{ready_parse}
use Rattle.v1_ready_states.specs.Rows.{parser_of}
use Rattle.v1_parse_run.specs.Made.{FitsParser, Made}
use Rattle.v1_block_run.specs.declared.block.ReadyBlock.{ReadyBlock}
use Rattle.v1_block_run.specs.Blocks.{IsRunnable, seen_block}
use Rattle.v1_block_tables.specs.Parts.{CanApply}
use Rattle.v1_parser_laws.specs.Shown.{Shows}
use Rattle.v1_parser_laws.specs.Laws.{ParseShows}
use Rattle.v1_control_run.specs.declared.prepared.Prepared.{Prepared}

-- the program, and what stands in its tables
abbrev pub setting_of : Prepared → Setting
setting_of p = record { syntax = p.packets.now; entries = p.entries.now }

-- the shapes of its counters, registers and meters
abbrev pub objects_of : Setting → List Shape
objects_of c = shapes_of (signature16 c.syntax) c.entries

-- statements that speak of the frames and of the objects of the program
pub record IsGroundOf (c : Setting) (g : Ground) : Type 0 where
  pub layout : g.layout ≡ layout16 c.syntax
  pub shapes : g.shapes ≡ objects_of c

-- A ready block does what this control of the program does, from moments that are one, where no variable is in scope, nothing is
-- stopped, no action runs and the frame in which arguments wait is one of the program, to moments that are one; and what the
-- control emits are octets.
pub record DoesControl (c : Setting) (block : Block) (fill : Fill) (b : ReadyBlock) : Type 0 where
  pub ground : IsGroundOf c (ground_of b.code)
  pub applies : CanApply b
  pub emits : (m : sem.Moment) → IsOctets m.emitted → IsOctets (control16 c block m).emitted
  pub shows : (m : sem.Moment) (n : Moment) → Shows c.syntax nobody m n → IsFrameOf c.syntax n.waiting → m.stopped ≡ None → m.hit ≡ None → Shows c.syntax nobody (control16 c block m) (ready_run fill (seen_block b) n)

-- what a parser is made of whose statements stand in this block, on a packet of these octets
abbrev pub made_in : ReadyBlock → List ℕ → Made
made_in b octets = record {
  layout = (ground_of b.code).layout;
  shapes = (ground_of b.code).shapes;
  octets = octets;
  expressions = expressions_in b.code;
  statements = trees_of b.code;
}

-- a ready parser does what the parser of the program does, and the same error ends both
pub record DoesParser (c : Setting) (b : ReadyBlock) (r : ReadyParser) : Type 0 where
  pub ground : IsGroundOf c (ground_of b.code)
  pub runs : IsRunnable b
  pub fits : (octets : List ℕ) → FitsParser (made_in b octets) r
  pub shows : (m : sem.Moment) (n : Moment) → Shows c.syntax nobody m n → IsFrameOf c.syntax n.waiting → m.stopped ≡ None → ParseShows c.syntax (parse16 c m) (ready_parse (parser_of (expressions_in b.code) (trees_of b.code) r) n)

-- the ready block for a control
abbrev pub control_of : Prepared → Block → ReadyBlock
control_of p Verify = p.verify.now
control_of p Ingress = p.ingress.now
control_of p Egress = p.egress.now
control_of p Compute = p.compute.now
control_of p Deparse = p.deparse.now

-- a program is prepared: its parser and its five controls are
pub record IsPrepared (p : Prepared) : Type 0 where
  pub layout : p.layout.now ≡ layout16 p.packets.now
  pub parser : DoesParser (setting_of p) p.states.now p.parser.now
  pub controls : (block : Block) → DoesControl (setting_of p) block p.fill.now (control_of p block)
