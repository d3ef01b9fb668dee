-- How a parser runs whose states are numbers, and whose statements and keys speak of slots, headers and stacks (P4_16 1.2,
-- "Packet parsing", "Parser states", "Transition statements"; that `reject` stops without an error, and the count of work, are
-- this project's own). It ends with `accept` or `reject`, which are one here, or with an error.
use Rattle.std.specs.Prelude.{ℕ, zero, suc, ◌+◌, ◌*◌, if◌then◌else◌, List, length, slice_get, Option, Some, None, unwrap_or}
use Rattle.v1_core.specs.declared.parser_error.ParserError.{ParserError}
use Rattle.v1_core.specs.declared.parser_error.ParserError.TheVariants.{NoError, PacketTooShort}
use Rattle.v1_core.specs.Frames.{error_number}
use Rattle.v1_core.specs.Cells.{with_slot}
use Rattle.v1_ready_selects.specs.declared.rows.Next.{Next}
use Rattle.v1_ready_selects.specs.declared.rows.Next.TheVariants as next
use Rattle.v1_ready_selects.specs.declared.rows.Led.{Led}
use Rattle.v1_ready_selects.specs.declared.rows.Led.TheVariants.{To, Failed}
use Rattle.v1_ready_selects.specs.Selects.{Transition, lead}
use Rattle.v1_ready_blocks.specs.declared.places.Range.{Range}
use Rattle.v1_ready_blocks.specs.Moments.{Moment, with_cells, ticked, is_stopped, raised}
use Rattle.v1_ready_blocks.specs.Places.{emptied}
use Rattle.v1_ready_blocks.specs.Statements.{Statement}
use Rattle.v1_ready_blocks.specs.Blocks.{parser_run}

-- states

pub record State : Type 0 where
  pub body : Statement
  pub transition : Transition

-- behind a state: the number of the next one, or the end
pub data Onward : Type 0 where
  onward : (number : ℕ) (moment : Moment) → Onward
  finished : (moment : Moment) → Onward

abbrev pub to_next : Next → Moment → Onward
to_next (next.State number) m = onward number m
to_next next.End m = finished m

-- an error in a key, and no case that takes the keys, end parsing
abbrev pub to_led : Led → Moment → Onward
to_led (To n) m = to_next n m
to_led (Failed e) m = finished (raised e m)

-- a transition counts one, before its keys are evaluated
abbrev pub passed : Transition → Moment → Onward
passed t m = if is_stopped m then finished m else to_led (lead m.cells m.unparsed t) (ticked m)

abbrev pub in_state : State → Moment → Onward
in_state x m = passed x.transition (parser_run x.body m)

-- a number that no state has ends parsing
abbrev pub from_state : Option State → Moment → Onward
from_state None m = finished m
from_state (Some x) m = in_state x m

abbrev pub followed : (ℕ → Moment → Moment) → Onward → Moment
followed parse (onward number m) = parse number m
followed parse (finished m) = m

-- parsing from a state on, in so many states at most; where no more may run, the packet counts as too short
abbrev pub parse_from : List State → ℕ → ℕ → Moment → Moment
parse_from states zero number m = raised PacketTooShort m
parse_from states (suc left) number m =
    if is_stopped m then m else followed (parse_from states left) (from_state (slice_get states number) m)

abbrev pub most_states : List State → Moment → ℕ
most_states states m = (length m.unparsed + 1) * (length states + 1)

-- parsers

pub record Parser : Type 0 where
  -- the parts of the headers, and the slot of `parser_error`
  pub headers : Range
  pub error : ℕ
  -- how the variables of the parser start
  pub variables : Statement
  pub states : List State
  -- the number of the state `start`
  pub first : ℕ

-- the headers are an `out` parameter
abbrev pub with_headers_empty : Range → Moment → Moment
with_headers_empty headers m = with_cells (emptied headers m.cells) m

abbrev pub run_states : Parser → Moment → Moment
run_states p m = parse_from p.states (most_states p.states m) p.first (parser_run p.variables m)

-- the end of parsing
pub record Parsed : Type 0 where
  pub error : ParserError
  pub moment : Moment

-- an error stands in `parser_error`
abbrev pub with_error : ℕ → Option ParserError → Moment → Moment
with_error slot None m = m
with_error slot (Some e) m = record m { cells = with_slot m.cells slot (error_number e); stopped = None }

abbrev pub parse_ended : ℕ → Moment → Parsed
parse_ended slot m = record { error = unwrap_or m.stopped NoError; moment = with_error slot m.stopped m }

-- a parser on a packet of which nothing is parsed yet; nothing stopped it yet
abbrev pub ready_parse : Parser → Moment → Parsed
ready_parse p m = parse_ended p.error (run_states p (with_headers_empty p.headers m))
