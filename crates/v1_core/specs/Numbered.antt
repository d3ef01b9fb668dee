-- What stands at the numbers of a frame's parts: the number in a slot, whether a header is valid, the place of a stack, each
-- as it is read and written; and the frame of those variables that are in scope (P4_16 1.2, "Name resolution", "Operations on
-- headers", "Operations on header stacks"; the numbers are this project's own).
use Rattle.std.specs.Prelude.{ℕ, ◌^◌, Bool, not, ◌==◌, if◌then◌else◌, List, [], ◌∷◌, length, map, slice_index_or, slice_set, Option, Some, None}
use Rattle.std.specs.Str.{bytes_eq}
use Rattle.fabric.specs.declared.items.Event.{Event}
use Rattle.p416_syntax.specs.declared.program.Syntax16.{Syntax16}
use Rattle.p416_syntax.specs.Names.{Name}
use Rattle.p416_syntax.specs.BuiltIn.{standard}
use Rattle.p416_syntax.specs.Declarations.{layouts_of}
use Rattle.p416_syntax.specs.Main.{headers_kind, metadata_kind}
use Rattle.v1_core.specs.Values.{Value, a_number, a_truth, an_error, a_header, a_stack, no_members, a_member, no_value, Step, to_member, Header, as_number, header_in, place_in, elements_in, part_at, with_part_at, zero_value, cleared}
use Rattle.v1_core.specs.Numbers.{is_same_truth}
use Rattle.v1_core.specs.Frames.{Request, Frame, Owner, of_headers, of_metadata, of_standard, of_variables, of_inner, of_nothing, Reference}
use Rattle.v1_core.specs.Slots.{PartOwner, the_headers, the_metadata, the_standard, the_variable, FramePart, part_with, slots_of, headers_of, stacks_of, variable_kinds}

-- The values whose parts have numbers: the packet's headers, its metadata and its standard metadata, and one for each variable
-- of a block or a statement and each parameter of an action, by its number; and the requests and events of a frame. No action
-- runs within itself, so that one place for each parameter and each variable is enough. Before a variable is declared, and
-- between two blocks, the value at its number is left open: no program reads it.
pub record Numbered : Type 0 where
  pub headers : Value
  pub metadata : Value
  pub standard_metadata : Value
  pub variables : List Value
  -- the last request of each kind
  pub clone_i2e : Option Request
  pub clone_e2e : Option Request
  pub resubmit : Option Request
  pub recirculate : Option Request
  -- the applications of tables, in order
  pub events : List Event

abbrev pub owner_value : Numbered → PartOwner → Value
owner_value x the_headers = x.headers
owner_value x the_metadata = x.metadata
owner_value x the_standard = x.standard_metadata
owner_value x (the_variable number) = slice_index_or x.variables number no_value

abbrev pub with_owner_value : Numbered → PartOwner → Value → Numbered
with_owner_value x the_headers v = record x { headers = v }
with_owner_value x the_metadata v = record x { metadata = v }
with_owner_value x the_standard v = record x { standard_metadata = v }
with_owner_value x (the_variable number) v = record x { variables = slice_set x.variables number v }

-- the value of a part, and the values with another one there
abbrev pub part_value : Numbered → FramePart → Value
part_value x p = part_at p.path (owner_value x p.owner)

abbrev pub with_part_value : Numbered → FramePart → Value → Numbered
with_part_value x p v = with_owner_value x p.owner (with_part_at p.path v (owner_value x p.owner))

-- who is in scope

-- a variable or a parameter by its name, and its number among all of the program
pub record Variable : Type 0 where
  pub called : Name
  pub number : ℕ

-- the variables of the block, and those of the statements that run with the parameters of the action that runs, the innermost
-- first
pub record InScope : Type 0 where
  pub variables : List Variable
  pub inner : List Variable

-- between two blocks
abbrev pub nobody : InScope
nobody = record { variables = []; inner = [] }

-- with one more, the innermost
abbrev pub declared_at : Name → ℕ → InScope → InScope
declared_at called number s = record s { inner = record { called = called; number = number } ∷ s.inner }

-- their values, by name
abbrev pub named_values : List Value → List Variable → Value
named_values values [] = no_members
named_values values (v ∷ variables) =
    a_member v.called (slice_index_or values v.number no_value) (named_values values variables)

-- the frame with these variables
abbrev pub frame_in : InScope → Numbered → Frame
frame_in s x = record {
  headers = x.headers;
  metadata = x.metadata;
  standard = x.standard_metadata;
  variables = named_values x.variables s.variables;
  inner = named_values x.variables s.inner;
  clone_i2e = x.clone_i2e;
  clone_e2e = x.clone_e2e;
  resubmit = x.resubmit;
  recirculate = x.recirculate;
  events = x.events;
}

-- the number that a name has among these: that of the innermost one
abbrev pub number_of : List Variable → Name → Option ℕ
number_of [] text = None
number_of (v ∷ variables) text = if bytes_eq v.called text then Some v.number else number_of variables text

abbrev pub part_behind : List Step → Option ℕ → Option FramePart
part_behind path None = None
part_behind path (Some number) = Some (part_with (the_variable number) path)

-- the part of one of these variables to which steps lead
abbrev pub variable_part : List Variable → List Step → Option FramePart
variable_part variables (to_member text ∷ path) = part_behind path (number_of variables text)
variable_part variables _ = None

-- the part that an l-value means, whatever slice of it; none where it means nothing, or all variables
abbrev pub part_meant : InScope → Reference → Option FramePart
part_meant s r = of r.owner
  where
    of : Owner → Option FramePart
    of of_headers = Some (part_with the_headers r.steps)
    of of_metadata = Some (part_with the_metadata r.steps)
    of of_standard = Some (part_with the_standard r.steps)
    of of_variables = variable_part s.variables r.steps
    of of_inner = variable_part s.inner r.steps
    of of_nothing = None

-- the part with a number

abbrev pub no_part : FramePart
no_part = record { owner = the_headers; path = [] }

abbrev pub slot_part : Syntax16 → ℕ → FramePart
slot_part syntax slot = slice_index_or (slots_of syntax) slot no_part

abbrev pub header_part : Syntax16 → ℕ → FramePart
header_part syntax header = slice_index_or (headers_of syntax) header no_part

abbrev pub stack_part : Syntax16 → ℕ → FramePart
stack_part syntax stack = slice_index_or (stacks_of syntax) stack no_part

-- at first: all numbers are 0, all headers invalid, all stacks at place 0, nothing is requested and no table was applied
abbrev pub new_numbered : Syntax16 → Numbered
new_numbered syntax =
    let zeros = zero_value (layouts_of syntax.decls) in
    record {
      headers = zeros (headers_kind syntax);
      metadata = zeros (metadata_kind syntax);
      standard_metadata = zeros standard;
      variables = map zeros (variable_kinds syntax);
      clone_i2e = None;
      clone_e2e = None;
      resubmit = None;
      recirculate = None;
      events = [];
    }

-- slots

-- a value of the same kind with another number
abbrev pub renumbered : Value → ℕ → Value
renumbered (a_number width old) n = a_number width n
renumbered (a_truth old) n = a_truth (not (n == 0))
renumbered (an_error old) n = an_error n
renumbered other n = other

-- numbers below this one fit a value of its kind: bits by their width, a truth value is at most 1, an error at most 3
abbrev pub numbers_below : Value → ℕ
numbers_below (a_number width number) = 2 ^ width
numbers_below (a_truth holds) = 2
numbers_below (an_error number) = 4
numbers_below _ = 0

-- the number in a slot; in that of a field of an invalid header it is 0
abbrev pub slot_value : Syntax16 → Numbered → ℕ → ℕ
slot_value syntax x slot = as_number (part_value x (slot_part syntax slot))

-- with another number in a slot; where that is a field of an invalid header nothing changes
abbrev pub with_slot : Syntax16 → Numbered → ℕ → ℕ → Numbered
with_slot syntax x slot n =
    let p = slot_part syntax slot in with_part_value x p (renumbered (part_value x p) n)

-- the numbers below this one fit a slot
abbrev pub slot_limit : Syntax16 → ℕ → ℕ
slot_limit syntax slot = numbers_below (part_value (new_numbered syntax) (slot_part syntax slot))

-- headers

-- a header that is valid or not: where that changes its fields become 0, and else it stays as it is
abbrev pub made_valid : Bool → Header → Header
made_valid on h = if is_same_truth h.valid on then h else cleared on h

abbrev pub header_valid : Syntax16 → Numbered → ℕ → Bool
header_valid syntax x header = (header_in (part_value x (header_part syntax header))).valid

abbrev pub with_validity : Syntax16 → Numbered → ℕ → Bool → Numbered
with_validity syntax x header on =
    let p = header_part syntax header in
    with_part_value x p (a_header (made_valid on (header_in (part_value x p))))

-- stacks

abbrev pub stack_place : Syntax16 → Numbered → ℕ → ℕ
stack_place syntax x stack = place_in (part_value x (stack_part syntax stack))

abbrev pub with_stack_place : Syntax16 → Numbered → ℕ → ℕ → Numbered
with_stack_place syntax x stack place =
    let p = stack_part syntax stack in with_part_value x p (a_stack place (elements_in (part_value x p)))

-- how many elements the stack has; its place is at most that
abbrev pub stack_size : Syntax16 → ℕ → ℕ
stack_size syntax stack = length (elements_in (part_value (new_numbered syntax) (stack_part syntax stack)))
