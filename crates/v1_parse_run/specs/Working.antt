-- When a parser's machine works on a packet, what the parser is made of, and which moment that is (this project's own).
use Rattle.std.specs.Prelude.{ℕ, ◌≤◌, List, drop, length, Option, Some, None}
use Rattle.state_store.specs.State.{Contents}
use Rattle.v1_core.specs.declared.parser_error.ParserError.{ParserError}
use Rattle.v1_core.specs.Frames.{error_number}
use Rattle.v1_core.specs.Cells.{Cells, with_slot}
use Rattle.v1_ready_selects.specs.declared.rows.Led.{Led}
use Rattle.v1_ready_selects.specs.declared.rows.Led.TheVariants.{To, Failed}
use Rattle.v1_ready_selects.specs.declared.rows.Next.TheVariants.{State, End}
use Rattle.v1_ready_blocks.specs.Moments.{Moment}
use Rattle.v1_statement_run.specs.declared.run.Run.{Run}
use Rattle.v1_statement_run.specs.Seen.{moment}
use Rattle.v1_statement_run.specs.Steps.{IsOver, expressions_in, ground_of, stopped_by, trees_of}
use Rattle.v1_parse_run.specs.Made.{Made}
use Rattle.v1_block_run.specs.declared.block.ReadyBlock.{ReadyBlock}
use Rattle.v1_block_run.specs.Blocks.{IsRunnable}
use Rattle.v1_parse_run.specs.declared.machine.ParserMachine.{ParserMachine}

-- with this frame, this store and the octets of a packet
abbrev pub moment_of : Cells → Contents → List ℕ → ParserMachine → Moment
moment_of f s octets m = moment f s (drop m.parsed octets) m.run

-- a parser whose statements stand in a block, on a packet of these octets
abbrev pub made_of : ReadyBlock → List ℕ → Made
made_of b octets = record {
  layout = (ground_of b.code).layout;
  shapes = (ground_of b.code).shapes;
  octets = octets;
  expressions = expressions_in b.code;
  statements = trees_of b.code;
}

pub record Works (b : ReadyBlock) (f : Cells) (s : Contents) (octets : List ℕ) (m : ParserMachine) : Type 0 where
  pub runnable : IsRunnable b
  pub over : IsOver (ground_of b.code) (moment_of f s octets m)
  pub within : m.parsed ≤ length octets

-- where a transition leads: the number of the next state, or the end; an error stops the parser

abbrev pub led_next : Led → Option ℕ
led_next (To (State number)) = Some number
led_next (To End) = None
led_next (Failed e) = None

abbrev pub led_run : Led → Run → Run
led_run (To n) r = r
led_run (Failed e) r = stopped_by e r

-- parsing ended: an error that stopped it stands in a slot, and nothing is stopped any more

abbrev pub ended_cells : ℕ → Option ParserError → Cells → Cells
ended_cells slot None c = c
ended_cells slot (Some e) c = with_slot c slot (error_number e)

abbrev pub unstopped : Run → Run
unstopped r = record r { stopped = None }
