-- When the primitives of an action don't depend on each other: none reads a part of the moment that an earlier one
-- changes (this project's own; P4_14 1.0.5, "Actions", "Primitive Actions"). Then both rules say the same
-- (`rules_agree`), and the parallel rule needs no copies. Where it would cost much to tell, the answer is no.
--
-- Code tells it in one way through the primitives (`apart_behind`): a part that is read costs a look-up or two, if the
-- fields that were written are kept by slot, by element and by instance, and the headers in whose place others stand by
-- element and by instance.
use Rattle.std.specs.Prelude.{ℕ, ◌==◌, Bool, true, false, not, ◌&&◌, List, [], ◌∷◌, ◌++◌, flat_map}
use Rattle.std.specs.List.{list_any}
use Rattle.p414_syntax.specs.declared.calculations.Item.{Item}
use Rattle.p414_syntax.specs.declared.calculations.Item.TheVariants as item
use Rattle.p414_syntax.specs.declared.syntax.Decl.{Decl}
use Rattle.p414_syntax.specs.declared.syntax.Rule14.{Rule14}
use Rattle.p414_syntax.specs.declared.syntax.Rule14.TheVariants.{Sequential, Parallel}
use Rattle.p414_sem.specs.declared.standard.Standard.{Standard}
use Rattle.p414_sem.specs.declared.standard.Standard.TheVariants.{IngressPort, EgressSpec, EgressPort, PacketLength, InstanceType}
use Rattle.p414_sem.specs.Slots.{Slot, standard, declared, Element, slot_of}
use Rattle.p414_sem.specs.Operations.{Source, field, Term, just, on_mask, sum, difference, conjunction, disjunction, exclusive, left_shift, right_shift, cell, hashed, Primitive, write, add_header, remove_header, copy_header, push, pop, count_cell, write_cell, execute_meter, ask, nothing}

-- what a primitive can read of a moment
pub data Part : Type 0 where
  -- the number of a field
  number_of : (slot : Slot) → Part
  -- whether a header is valid, and how many fields it has, whatever their numbers
  form_of : (header : Element) → Part
  -- a header with all its numbers
  whole_of : (header : Element) → Part
  -- all elements of a stack
  elements_of : (instance : ℕ) → Part
  -- the cells of a register
  cells_of : (object : ℕ) → Part

-- what is read

-- what an operand reads: the field that it is, or nothing
abbrev pub source_reads : Source → List Part
source_reads (field slot) = number_of slot ∷ []
source_reads _ = []

-- what two operands read
abbrev pub both_read : Source → Source → List Part
both_read a b = source_reads a ++ source_reads b

-- an item of a field list reads its field; a number, or the octets that aren't parsed yet, reads nothing that a
-- primitive changes
abbrev pub item_reads : List Decl → Item → List Part
item_reads ds (item.Field r) = number_of (slot_of ds r) ∷ []
item_reads ds _ = []

-- what a term reads that goes to the field at this slot
abbrev pub term_reads : List Decl → Slot → Term → List Part
term_reads ds slot (just a) = source_reads a
term_reads ds slot (on_mask a mask) = number_of slot ∷ both_read a mask
term_reads ds slot (sum a b) = both_read a b
term_reads ds slot (difference a b) = both_read a b
term_reads ds slot (conjunction a b) = both_read a b
term_reads ds slot (disjunction a b) = both_read a b
term_reads ds slot (exclusive a b) = both_read a b
term_reads ds slot (left_shift a count) = both_read a count
term_reads ds slot (right_shift a count) = both_read a count
term_reads ds slot (cell object index) = cells_of object ∷ source_reads index
term_reads ds slot (hashed base calculation bound) = both_read base bound ++ flat_map (item_reads ds) calculation.items

-- a field is written only where its header is valid; standard metadata always is
abbrev pub target_reads : Slot → List Part
target_reads (standard which) = []
target_reads (declared i e f) = form_of (record { instance = i; element = e }) ∷ []

-- What fills a header with zeros reads its form alone. The length that is counted and the colour that is taken are those at
-- the time when the effect falls, under both rules, and so nothing that is read.
abbrev pub reads : List Decl → Primitive → List Part
reads ds (write sums target term) = target_reads target.slot ++ term_reads ds target.slot term
reads ds (add_header header) = form_of header ∷ []
reads ds (remove_header header) = form_of header ∷ []
reads ds (copy_header header from) = whole_of from ∷ []
reads ds (push stack count) = elements_of stack ∷ []
reads ds (pop stack count) = elements_of stack ∷ []
reads ds (count_cell object index) = source_reads index
reads ds (write_cell object index value) = both_read index value
reads ds (execute_meter object index target) = target_reads target.slot ++ source_reads index
reads ds (ask kind session list) = source_reads session
reads ds nothing = []

-- what is changed

-- the fields of standard metadata, numbered so that they are told apart
abbrev pub standard_place : Standard → ℕ
standard_place IngressPort = 0
standard_place EgressSpec = 1
standard_place EgressPort = 2
standard_place PacketLength = 3
standard_place InstanceType = 4

-- the same element of the same instance
abbrev pub is_same_element : Element → Element → Bool
is_same_element a b = (a.instance == b.instance) && (a.element == b.element)

-- the same field
abbrev pub is_same_slot : Slot → Slot → Bool
is_same_slot (standard a) (standard b) = standard_place a == standard_place b
is_same_slot (declared i e f) (declared j k g) = (i == j) && (e == k) && (f == g)
is_same_slot _ _ = false

-- the slot is a field of this element
abbrev pub is_in_element : Element → Slot → Bool
is_in_element header (standard which) = false
is_in_element header (declared i e f) = is_same_element header (record { instance = i; element = e })

-- the slot is a field of this instance
abbrev pub is_in_instance : ℕ → Slot → Bool
is_in_instance instance (standard which) = false
is_in_instance instance (declared i e f) = instance == i

-- A part changes with the number of the field at this slot: a form doesn't.
abbrev pub is_written : Slot → Part → Bool
is_written slot (number_of other) = is_same_slot slot other
is_written slot (form_of header) = false
is_written slot (whole_of header) = is_in_element header slot
is_written slot (elements_of instance) = is_in_instance instance slot
is_written slot (cells_of object) = false

-- A part changes where another header, or the same one with another validity, is put in the place of this one.
abbrev pub is_replaced : Element → Part → Bool
is_replaced header (number_of slot) = is_in_element header slot
is_replaced header (form_of other) = is_same_element header other
is_replaced header (whole_of other) = is_same_element header other
is_replaced header (elements_of instance) = header.instance == instance
is_replaced header (cells_of object) = false

-- A part changes with the elements of a stack.
abbrev pub is_moved : ℕ → Part → Bool
is_moved stack (number_of slot) = is_in_instance stack slot
is_moved stack (form_of header) = stack == header.instance
is_moved stack (whole_of header) = stack == header.instance
is_moved stack (elements_of instance) = stack == instance
is_moved stack (cells_of object) = false

-- A part changes with a cell of a register (P4_14, "Registers").
abbrev pub is_stored : ℕ → Part → Bool
is_stored object (cells_of other) = object == other
is_stored object _ = false

-- A primitive can change a part. No primitive reads a counter or a request; a meter's colour goes to a field.
abbrev pub changes : Primitive → Part → Bool
changes (write sums target term) part = is_written target.slot part
changes (add_header header) part = is_replaced header part
changes (remove_header header) part = is_replaced header part
changes (copy_header header from) part = is_replaced header part
changes (push stack count) part = is_moved stack part
changes (pop stack count) part = is_moved stack part
changes (count_cell object index) part = false
changes (write_cell object index value) part = is_stored object part
changes (execute_meter object index target) part = is_written target.slot part
changes (ask kind session list) part = false
changes nothing part = false

-- together

-- no primitive reads what an earlier one changes
abbrev pub are_apart : List Decl → List Primitive → Bool
are_apart ds [] = true
are_apart ds (p ∷ ps) = not (list_any (changes p) (flat_map (reads ds) ps)) && are_apart ds ps

-- an action whose operands are to be read at copies of what stood at its entry: under the parallel rule, unless its
-- primitives are apart
abbrev pub needs_copies : List Decl → Rule14 → List Primitive → Bool
needs_copies ds Sequential ps = false
needs_copies ds Parallel ps = not (are_apart ds ps)
