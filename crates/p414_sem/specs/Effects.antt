-- What an action does (P4_14 1.0.5, "Actions", "Primitive Actions", "Counters", "Meters", "Registers"; that a program
-- can be run under two rules, and their exact meaning, is this project's own). A primitive has effects, for which it
-- reads all its operands in one moment, and the effects fall on another one. Under the sequential rule both are the
-- moment that the primitive before left. Under the parallel rule every primitive reads the moment of the action's entry,
-- and the effects fall one after another.
use Rattle.std.specs.Prelude.{ℕ, ◌+◌, ◌*◌, ◌/◌, ◌%◌, ◌^◌, ◌==◌, Bool, true, false, ◌&&◌, if◌then◌else◌, ℤ, pos, ◌+ℤ◌, ◌-ℤ◌, List, [], ◌∷◌, ◌++◌, length, map, take, drop, slice_index, Some}
use Rattle.state_store.specs.Cells.{width_of}
use Rattle.state_store.specs.State.{Contents, shape_at, count, read as read_cell, write as write_to_cell, colour, colour_taken}
use Rattle.fabric.specs.declared.items.RequestKind.{RequestKind}
use Rattle.p414_syntax.specs.declared.syntax.Decl.{Decl}
use Rattle.p414_syntax.specs.declared.syntax.Rule14.{Rule14}
use Rattle.p414_syntax.specs.declared.syntax.Rule14.TheVariants.{Sequential, Parallel}
use Rattle.p414_syntax.specs.Arguments.{Invocation}
use Rattle.p414_sem.specs.declared.requests.Request14.{Request14}
use Rattle.p414_sem.specs.Wholes.{wrapped, kept, natural, and_ℤ, or_ℤ, xor_ℤ, masked}
use Rattle.p414_sem.specs.Slots.{Slot, Element, Target}
use Rattle.p414_sem.specs.State.{Header, State, header_of, is_valid_at, elements_at, read, is_live, with_header, with_elements, written, with_request, cleared}
use Rattle.p414_sem.specs.Expanded.{Expanded, primitives_at}
use Rattle.p414_sem.specs.Calculations.{result_of}
use Rattle.p414_sem.specs.Operations.{Source, number, field, parameter, Term, just, on_mask, sum, difference, conjunction, disjunction, exclusive, left_shift, right_shift, cell, hashed, Primitive, write, add_header, remove_header, copy_header, push, pop, count_cell, write_cell, execute_meter, ask, nothing, primitive_of}

-- a packet's state, with the store
pub record Moment : Type 0 where
  pub state : State
  pub store : Contents

-- numbers

-- the whole number of a source; a parameter's is an argument
abbrev pub source_number : List ℕ → State → Source → ℤ
source_number arguments s (number value) = value
source_number arguments s (field slot) = pos (read s slot)
source_number arguments s (parameter n) = pos (slice_index arguments n)

-- a source as a number that isn't negative
abbrev pub natural_of : List ℕ → State → Source → ℕ
natural_of arguments s source = natural (source_number arguments s source)

-- a source as an index or a session, which is kept modulo 2 ^ 32
abbrev pub index_of : List ℕ → State → Source → ℕ
index_of arguments s source = wrapped 32 (source_number arguments s source)

-- the base and the result modulo the bound, or the base where the bound is 0
abbrev pub offset_of : ℕ → ℕ → ℕ → ℕ
offset_of base result bound = if bound == 0 then base else base + result % bound

-- the number that a term gives to the field at this slot
abbrev pub term_number : List Decl → List ℕ → Moment → Slot → Term → ℤ
term_number ds arguments r slot (just a) = source_number arguments r.state a
term_number ds arguments r slot (on_mask a mask) =
    masked (pos (read r.state slot)) (source_number arguments r.state a) (source_number arguments r.state mask)
term_number ds arguments r slot (sum a b) = source_number arguments r.state a +ℤ source_number arguments r.state b
term_number ds arguments r slot (difference a b) = source_number arguments r.state a -ℤ source_number arguments r.state b
term_number ds arguments r slot (conjunction a b) = and_ℤ (source_number arguments r.state a) (source_number arguments r.state b)
term_number ds arguments r slot (disjunction a b) = or_ℤ (source_number arguments r.state a) (source_number arguments r.state b)
term_number ds arguments r slot (exclusive a b) = xor_ℤ (source_number arguments r.state a) (source_number arguments r.state b)
term_number ds arguments r slot (left_shift a count) =
    pos (natural_of arguments r.state a * 2 ^ natural_of arguments r.state count)
term_number ds arguments r slot (right_shift a count) =
    pos (natural_of arguments r.state a / 2 ^ natural_of arguments r.state count)
term_number ds arguments r slot (cell object index) = pos (read_cell r.store object (index_of arguments r.state index))
term_number ds arguments r slot (hashed base calculation bound) =
    pos (offset_of (natural_of arguments r.state base) (result_of ds r.state calculation) (natural_of arguments r.state bound))

-- effects

pub data Effect : Type 0 where
  put_field : (slot : Slot) (number : ℕ) → Effect
  put_header : (at : Element) (header : Header) → Effect
  put_stack : (instance : ℕ) (elements : List Header) → Effect
  put_cell : (object index number : ℕ) → Effect
  count_packet : (object index : ℕ) → Effect
  -- a colour is taken, and goes to a field where the field's header was valid when the operands were read
  take_colour : (object index : ℕ) (target : Target) (live : Bool) → Effect
  put_request : (kind : RequestKind) (request : Request14) → Effect

-- a field's effect: none where its header is invalid when the operands are read
abbrev pub field_effect : List Decl → List ℕ → Moment → Bool → Target → Term → List Effect
field_effect ds arguments r sums target term =
    if is_live r.state target.slot then
    put_field target.slot
    (kept (sums && target.saturating) target.width (term_number ds arguments r target.slot term))
    ∷ []
    else []

-- elements moved up by so many, of which the first ones, at most all, become valid with fields 0; the last ones are gone,
-- and the stack's place stays (this project's own)
abbrev pub pushed : ℕ → List Header → List Header
pushed count elements = take (length elements) (map (cleared true) (take count elements) ++ elements)

-- elements moved down by so many, of which the last ones, at most all, become invalid; the stack's place stays
abbrev pub popped : ℕ → List Header → List Header
popped count elements = drop count elements ++ map (cleared false) (take count elements)

-- the effects of a primitive whose operands are read in r
abbrev pub effects : List Decl → List ℕ → Moment → Primitive → List Effect
effects ds arguments r (write sums target term) = field_effect ds arguments r sums target term
effects ds arguments r (add_header header) =
    if is_valid_at r.state header then [] else put_header header (cleared true (header_of r.state header)) ∷ []
effects ds arguments r (remove_header header) = put_header header (cleared false (header_of r.state header)) ∷ []
effects ds arguments r (copy_header header from) = put_header header (header_of r.state from) ∷ []
effects ds arguments r (push stack count) = put_stack stack (pushed count (elements_at r.state stack)) ∷ []
effects ds arguments r (pop stack count) = put_stack stack (popped count (elements_at r.state stack)) ∷ []
effects ds arguments r (count_cell object index) = count_packet object (index_of arguments r.state index) ∷ []
effects ds arguments r (write_cell object index value) =
    put_cell object (index_of arguments r.state index)
    (wrapped (width_of (shape_at r.store.shapes object)) (source_number arguments r.state value))
    ∷ []
effects ds arguments r (execute_meter object index target) =
    take_colour object (index_of arguments r.state index) target (is_live r.state target.slot) ∷ []
effects ds arguments r (ask kind session list) =
    put_request kind (record { session = index_of arguments r.state session; list = list }) ∷ []
effects ds arguments r nothing = []

-- a colour that was taken, written to its field
abbrev pub coloured : Target → Bool → ℕ → State → State
coloured target live taken s = if live then written s target.slot (wrapped target.width (pos taken)) else s

-- An effect falls. A number that goes to a field of a header that is invalid now is lost, and a colour is taken from the
-- store as it stands now.
abbrev pub fallen : Moment → Effect → Moment
fallen m (put_field slot n) = record { state = written m.state slot n; store = m.store }
fallen m (put_header at h) = record { state = with_header m.state at.instance at.element h; store = m.store }
fallen m (put_stack instance elements) = record { state = with_elements m.state instance elements; store = m.store }
fallen m (put_cell object index n) = record { state = m.state; store = write_to_cell m.store object index n }
fallen m (count_packet object index) =
    record { state = m.state; store = count m.store object index m.state.packet_length }
fallen m (take_colour object index target live) =
    record {
      state = coloured target live (colour m.store object index) m.state;
      store = colour_taken m.store object index;
    }
fallen m (put_request kind request) = record { state = with_request m.state kind (Some request); store = m.store }

-- effects one after another
abbrev pub all_fallen : Moment → List Effect → Moment
all_fallen m [] = m
all_fallen m (e ∷ rest) = all_fallen (fallen m e) rest

-- rules

-- each primitive reads what the one before left
abbrev pub in_sequence : List Decl → Expanded → List ℕ → List Invocation → Moment → Moment
in_sequence ds x arguments [] m = m
in_sequence ds x arguments (i ∷ rest) m =
    in_sequence ds x arguments rest (all_fallen m (effects ds arguments m (primitive_of ds x i)))

-- each primitive reads the moment r of the action's entry
abbrev pub in_parallel : List Decl → Expanded → List ℕ → Moment → List Invocation → Moment → Moment
in_parallel ds x arguments r [] m = m
in_parallel ds x arguments r (i ∷ rest) m =
    in_parallel ds x arguments r rest (all_fallen m (effects ds arguments r (primitive_of ds x i)))

-- an action that comes to these primitives, called with these arguments
abbrev pub acted : List Decl → Expanded → Rule14 → List ℕ → List Invocation → Moment → Moment
acted ds x Sequential arguments primitives m = in_sequence ds x arguments primitives m
acted ds x Parallel arguments primitives m = in_parallel ds x arguments m primitives m

-- the action with this number, in the order of declaration, called with these arguments
abbrev pub acted_by : List Decl → Expanded → Rule14 → ℕ → List ℕ → Moment → Moment
acted_by ds x rule action arguments m = acted ds x rule arguments (primitives_at x action) m
