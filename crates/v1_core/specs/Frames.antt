-- The frame of a packet, and what a block reads and changes (P4_16 1.2, "L-values", "Variable declarations", "Block
-- statement", "Packet parsing"; `v1model.p4`; events, the count of work and the requests' form are this project's own).
use Rattle.std.specs.Prelude.{ℕ, zero, suc, ◌+◌, ◌-◌, ◌%◌, ◌^◌, Bool, if◌then◌else◌, is_some, List, [], ◌∷◌, ◌++◌, Option, Some, None}
use Rattle.state_store.specs.State.{Contents}
use Rattle.fabric.specs.declared.items.Event.{Event}
use Rattle.fabric.specs.declared.items.RequestKind.{RequestKind}
use Rattle.fabric.specs.declared.items.RequestKind.TheVariants.{CloneI2E, CloneE2E, Resubmit, Recirculate}
use Rattle.p416_syntax.specs.Names.{Name}
use Rattle.v1_core.specs.declared.parser_error.ParserError.{ParserError}
use Rattle.v1_core.specs.declared.parser_error.ParserError.TheVariants.{NoError, PacketTooShort, StackOutOfBounds, NoMatch}
use Rattle.v1_core.specs.Values.{Value, a_number, a_member, no_value, number_in, width_in, Step, to_member, part_at, with_part_at, Slice, sliced, spliced}

-- what was asked of the packet: the clone session, which is 0 for resubmit and recirculate, and the field list
abbrev pub Request : Type 0
Request = ℕ × ℕ

-- The parameters of a block are names for the packet's headers, its metadata and its standard metadata. Beside them
-- stand, as structs, the variables of the block, and those of the statements that run with the parameters of the action
-- that runs, the innermost first.
pub record Frame : Type 0 where
  pub headers : Value
  pub metadata : Value
  pub standard : Value
  pub variables : Value
  pub inner : Value
  -- the last request of each kind
  pub clone_i2e : Option Request
  pub clone_e2e : Option Request
  pub resubmit : Option Request
  pub recirculate : Option Request
  -- the applications of tables, in order
  pub events : List Event

-- an entry of a table that was hit, with the number of the table's direct counter
pub record Hit : Type 0 where
  pub counter : ℕ
  pub entry : ℕ

-- what a block works on
pub record Moment : Type 0 where
  pub frame : Frame
  pub store : Contents
  -- the octets that aren't parsed yet, and those that were emitted
  pub unparsed : List ℕ
  pub emitted : List ℕ
  -- the statements and transitions that began, modulo 2 ^ 64
  pub work : ℕ
  -- the error that stopped the parser
  pub stopped : Option ParserError
  -- the entry that was hit, while a table with a direct counter runs its action
  pub hit : Option Hit

-- parts of a moment

abbrev pub with_frame : Moment → Frame → Moment
with_frame m f = record m { frame = f }

abbrev pub with_store : Moment → Contents → Moment
with_store m store = record m { store = store }

-- one more statement or transition begins
abbrev pub ticked : Moment → Moment
ticked m = record m { work = (m.work + 1) % 2 ^ 64 }

abbrev pub is_stopped : Moment → Bool
is_stopped m = is_some m.stopped

-- An error stops the parser: the first one counts, and nothing runs behind it.
abbrev pub raised : ParserError → Moment → Moment
raised e m = if is_stopped m then m else record m { stopped = Some e }

-- what doesn't run once an error stopped the parser
abbrev pub going_on : (Moment → Moment) → Moment → Moment
going_on f m = if is_stopped m then m else f m

-- an error by its number in the order of `error`, which is that of the names in `error_names`
abbrev pub error_number : ParserError → ℕ
error_number NoError = 0
error_number PacketTooShort = 1
error_number StackOutOfBounds = 2
error_number NoMatch = 3

-- L-values: which of the frame's values is meant, which part of it, and which bits of that, where it is a slice; or nothing

pub data Owner : Type 0 where
  of_headers : Owner
  of_metadata : Owner
  of_standard : Owner
  of_variables : Owner
  of_inner : Owner
  of_nothing : Owner

pub record Reference : Type 0 where
  pub owner : Owner
  pub steps : List Step
  pub slice : Option Slice

abbrev pub nowhere : Reference
nowhere = record { owner = of_nothing; steps = []; slice = None }

abbrev pub whole : Owner → Reference
whole owner = record { owner = owner; steps = []; slice = None }

-- a part of what is meant
abbrev pub stepped : Reference → Step → Reference
stepped r step = record { owner = r.owner; steps = r.steps ++ step ∷ []; slice = r.slice }

-- a slice, also of a slice
abbrev pub cut_to : Slice → Option Slice → Slice
cut_to s None = s
cut_to s (Some outer) = record { low = outer.low + s.low; width = s.width }

abbrev pub sliced_to : Reference → Slice → Reference
sliced_to r s = record { owner = r.owner; steps = r.steps; slice = Some (cut_to s r.slice) }

abbrev pub owned : Frame → Owner → Value
owned f of_headers = f.headers
owned f of_metadata = f.metadata
owned f of_standard = f.standard
owned f of_variables = f.variables
owned f of_inner = f.inner
owned f of_nothing = no_value

abbrev pub with_owned : Frame → Owner → Value → Frame
with_owned f of_headers v = record f { headers = v }
with_owned f of_metadata v = record f { metadata = v }
with_owned f of_standard v = record f { standard = v }
with_owned f of_variables v = record f { variables = v }
with_owned f of_inner v = record f { inner = v }
with_owned f of_nothing v = f

-- the value that stands there
abbrev pub place_value : Frame → Reference → Value
place_value f r = part_at r.steps (owned f r.owner)

-- a value, or the slice of it
abbrev pub within_slice : Option Slice → Value → Value
within_slice None v = v
within_slice (Some s) v = a_number s.width (sliced s (number_in v))

abbrev pub read : Frame → Reference → Value
read f r = within_slice r.slice (place_value f r)

-- what is written there so that a slice has other bits
abbrev pub around_slice : Option Slice → Value → Value → Value
around_slice None old v = v
around_slice (Some s) old v = a_number (width_in old) (spliced s (number_in old) (number_in v))

-- A write: bits keep the width of what they are written to, a header, a stack or a struct is written whole, and a write
-- to a field of an invalid header does nothing.
abbrev pub write : Reference → Value → Frame → Frame
write r v f =
    with_owned f r.owner (with_part_at r.steps (around_slice r.slice (place_value f r) v) (owned f r.owner))

-- a number that an extern gives is cut or extended to the width of what it is written to
abbrev pub write_number : Reference → ℕ → Frame → Frame
write_number r n f = write r (a_number (width_in (read f r)) n) f

-- a moment with a value written there
abbrev pub put_at : Reference → Value → Moment → Moment
put_at r v m = record m { frame = write r v m.frame }

abbrev pub number_put_at : Reference → ℕ → Moment → Moment
number_put_at r n m = record m { frame = write_number r n m.frame }

-- a field of standard metadata

abbrev pub standard_number : Frame → Name → ℕ
standard_number f word = number_in (part_at (to_member word ∷ []) f.standard)

abbrev pub with_standard : Name → Value → Frame → Frame
with_standard word v f = record f { standard = with_part_at (to_member word ∷ []) v f.standard }

-- variables of statements

-- how many variables there are
abbrev pub variable_count : Value → ℕ
variable_count (a_member called of rest) = suc (variable_count rest)
variable_count _ = 0

-- without so many, the innermost first
abbrev pub without : ℕ → Value → Value
without zero v = v
without (suc n) (a_member called of rest) = without n rest
without (suc n) other = other

abbrev pub declared : Name → Value → Moment → Moment
declared called v m = record m { frame = record m.frame { inner = a_member called v m.frame.inner } }

abbrev pub with_inner : Value → Moment → Moment
with_inner v m = record m { frame = record m.frame { inner = v } }

-- at the end of a block the variables that were declared since an earlier moment are there no longer
abbrev pub closed : Moment → Moment → Moment
closed before m = with_inner (without (variable_count m.frame.inner - variable_count before.frame.inner) m.frame.inner) m

-- requests and events

abbrev pub request_of : Frame → RequestKind → Option Request
request_of f CloneI2E = f.clone_i2e
request_of f CloneE2E = f.clone_e2e
request_of f Resubmit = f.resubmit
request_of f Recirculate = f.recirculate

abbrev pub with_request : RequestKind → Option Request → Frame → Frame
with_request CloneI2E r f = record f { clone_i2e = r }
with_request CloneE2E r f = record f { clone_e2e = r }
with_request Resubmit r f = record f { resubmit = r }
with_request Recirculate r f = record f { recirculate = r }

-- nothing is requested, and no table was applied
abbrev pub without_requests_and_events : Frame → Frame
without_requests_and_events f =
    record f { clone_i2e = None; clone_e2e = None; resubmit = None; recirculate = None; events = [] }

abbrev pub with_event : Event → Frame → Frame
with_event e f = record f { events = f.events ++ e ∷ [] }
