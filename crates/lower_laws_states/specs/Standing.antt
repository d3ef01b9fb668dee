-- What is there of what an expanded primitive names: fields, headers, stacks, objects, calculations, and the parameters
-- of its action (this project's own; P4_14 1.0.5, "Primitive Actions", "Header and Metadata Instances", "Field Lists").
use Rattle.std.specs.Prelude.{is_some, ◌≡◌, ℕ, ◌<◌, ◌≤◌, Bool, true, List, length, Some, IfSome}
use Rattle.p414_syntax.specs.declared.lexeme.Literal.{Literal}
use Rattle.p414_syntax.specs.declared.calculations.Item.{Item}
use Rattle.p414_syntax.specs.declared.calculations.Item.TheVariants as item
use Rattle.p414_syntax.specs.declared.headers.Header.{Header}
use Rattle.p414_syntax.specs.declared.syntax.Decl.{Decl}
use Rattle.p414_syntax.specs.declared.syntax.Decl.TheVariants as decl
use Rattle.p414_syntax.specs.declared.syntax.Sort.TheVariants as sort
use Rattle.p414_syntax.specs.Names.{Name, numbered, is_declared}
use Rattle.p414_syntax.specs.Calls.{is_object, is_indirect_counter, is_register, is_meter}
use Rattle.p414_syntax.specs.Expansion.{lists}
use Rattle.p414_syntax.specs.Fields.{size_in}
use Rattle.p414_syntax.specs.Totals.{elements_of}
use Rattle.p414_sem.specs.Slots.{slot_of, Slot, standard, declared, Element, Target}
use Rattle.p414_sem.specs.Calculations.{Calculation, calculation_named}
use Rattle.p414_sem.specs.Expanded.{Expanded}
use Rattle.p414_sem.specs.Operations.{object_number, Source, number, field, parameter, Term, just, on_mask, sum, difference, conjunction, disjunction, exclusive, left_shift, right_shift, cell, hashed, Primitive, write, add_header, remove_header, copy_header, push, pop, count_cell, write_cell, execute_meter, ask, nothing}
use Rattle.lower_laws_states.specs.Fits.{widths_in, FitsTarget}
use Rattle.lower_laws_states.specs.Arrival.{IsWritable}

-- a field of an element that is there
pub record IsField (ds : List Decl) (i e f : ℕ) : Type 0 where
  pub instance : Decl
  pub numbered_so : numbered sort.Instance ds i ≡ Some instance
  pub element : e < elements_of (size_in instance)
  pub field : f < length (widths_in ds instance)

-- a field that is there: one of standard metadata, or one of an element that is there
abbrev pub SlotStands : List Decl → Slot → Type 0
SlotStands ds (standard which) = Unit {0}
SlotStands ds (declared i e f) = IsField ds i e f

-- the bits that a field may have: 1 to 128
abbrev pub IsWide : ℕ → Type 0
IsWide width = (1 ≤ width) × (width ≤ 128)

-- a field that an action writes: it is there, whatever the target keeps fits it, and it isn't how a packet came here
pub record TargetStands (ds : List Decl) (t : Target) : Type 0 where
  pub slot : SlotStands ds t.slot
  pub fits : FitsTarget ds t
  pub writable : IsWritable t.slot

-- a header, or an element of a stack, that is there
pub record HeaderStands (ds : List Decl) (at : Element) : Type 0 where
  pub header : Header
  pub numbered_so : numbered sort.Instance ds at.instance ≡ Some (decl.Header header)
  pub element : at.element < elements_of header.size

-- a header that is copied to one of its type
pub record CopyStands (ds : List Decl) (at from : Element) : Type 0 where
  pub to : HeaderStands ds at
  pub source : HeaderStands ds from
  pub same : to.header.header_type ≡ source.header.header_type

-- an instance that is a stack, with its number of elements
pub record StackStands (ds : List Decl) (i : ℕ) : Type 0 where
  pub header : Header
  pub size : Literal
  pub numbered_so : numbered sort.Instance ds i ≡ Some (decl.Header header)
  pub is_stack : header.size ≡ Some size

-- an object of a kind that is declared
pub record ObjectStands (ds : List Decl) (is_kind : Decl → Bool) (object : ℕ) : Type 0 where
  pub name : Name
  pub is_number : object ≡ object_number ds name
  pub is_one : is_object is_kind ds name ≡ true

-- the calculation that is declared under some name
pub record CalculationStands (ds : List Decl) (x : Expanded) (c : Calculation) : Type 0 where
  pub name : Name
  pub is : c ≡ calculation_named ds x name
  pub is_there : is_declared sort.Calculation ds name ≡ true

-- sources and terms of an action with so many parameters

-- an operand: a number, a field that is there, or one of so many parameters of the action
abbrev pub SourceStands : List Decl → ℕ → Source → Type 0
SourceStands ds count (number value) = Unit {0}
SourceStands ds count (field slot) = SlotStands ds slot
SourceStands ds count (parameter n) = n < count

-- the operands of a term stand, and so do the register and the calculation that it names
abbrev pub TermStands : List Decl → Expanded → ℕ → Term → Type 0
TermStands ds x count (just a) = SourceStands ds count a
TermStands ds x count (on_mask a b) = SourceStands ds count a × SourceStands ds count b
TermStands ds x count (sum a b) = SourceStands ds count a × SourceStands ds count b
TermStands ds x count (difference a b) = SourceStands ds count a × SourceStands ds count b
TermStands ds x count (conjunction a b) = SourceStands ds count a × SourceStands ds count b
TermStands ds x count (disjunction a b) = SourceStands ds count a × SourceStands ds count b
TermStands ds x count (exclusive a b) = SourceStands ds count a × SourceStands ds count b
TermStands ds x count (left_shift a b) = SourceStands ds count a × SourceStands ds count b
TermStands ds x count (right_shift a b) = SourceStands ds count a × SourceStands ds count b
TermStands ds x count (cell object index) = ObjectStands ds is_register object × SourceStands ds count index
TermStands ds x count (hashed base calculation bound) =
    SourceStands ds count base × CalculationStands ds x calculation × SourceStands ds count bound

-- a primitive names what is there
abbrev pub PrimitiveStands : List Decl → Expanded → ℕ → Primitive → Type 0
PrimitiveStands ds x count (write sums target term) = TargetStands ds target × TermStands ds x count term
PrimitiveStands ds x count (add_header at) = HeaderStands ds at
PrimitiveStands ds x count (remove_header at) = HeaderStands ds at
PrimitiveStands ds x count (copy_header at from) = CopyStands ds at from
PrimitiveStands ds x count (push i elements) = StackStands ds i
PrimitiveStands ds x count (pop i elements) = StackStands ds i
PrimitiveStands ds x count (count_cell object index) = ObjectStands ds is_indirect_counter object × SourceStands ds count index
PrimitiveStands ds x count (write_cell object index value) =
    ObjectStands ds is_register object × SourceStands ds count index × SourceStands ds count value
PrimitiveStands ds x count (execute_meter object index target) =
    ObjectStands ds is_meter object × SourceStands ds count index × TargetStands ds target
PrimitiveStands ds x count (ask kind session list) =
    SourceStands ds count session × IfSome list (λ number. number < length (lists ds))
PrimitiveStands ds x count nothing = Unit {0}

-- An item of an expanded list: a field that is there, a number with a width, or the payload. No list and no instance is left.
abbrev pub ItemStands : List Decl → Item → Type 0
ItemStands ds item.Payload = Unit {0}
ItemStands ds (item.Number n) = is_some n.width ≡ true
ItemStands ds (item.Field r) = SlotStands ds (slot_of ds r)
ItemStands ds (item.Instance i) = ⊥
