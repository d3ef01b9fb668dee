-- The primitives by number: what a call of a primitive writes, moves, counts or asks for, with its operands (P4_14
-- 1.0.5, "Primitive Actions"). A write is a destination and a number, so that both rules share one account of each.
-- What stands for an argument that isn't of the form that is wanted, which no accepted program has, is the number 0 or a
-- field, a header or an object that isn't there.
use Rattle.std.specs.Prelude.{ℕ, Bool, true, false, ◌==◌, if◌then◌else◌, ℤ, pos, List, [], length, fold, slice_get, slice_index_or, Option, Some, None, codes, unwrap_or}
use Rattle.std.specs.BTreeSet.{insert_key}
use Rattle.std.specs.Ordering.{nat_cmp}
use Rattle.std.specs.Cmp.Lexicographic.{slice_cmp}
use Rattle.std.specs.Str.{bytes_eq}
use Rattle.state_store.specs.Ports.{drop_port}
use Rattle.fabric.specs.declared.items.RequestKind.{RequestKind}
use Rattle.fabric.specs.declared.items.RequestKind.TheVariants.{CloneI2E, CloneE2E, Resubmit, Recirculate}
use Rattle.p414_syntax.specs.declared.syntax.Decl.{Decl}
use Rattle.p414_syntax.specs.declared.syntax.Sort.TheVariants as sort
use Rattle.p414_syntax.specs.Names.{Name, find_name, names_in}
use Rattle.p414_syntax.specs.Primitives.{hash}
use Rattle.p414_syntax.specs.Expansion.{list_number}
use Rattle.p414_syntax.specs.ParserGraph.{instance_number}
use Rattle.p414_syntax.specs.Arguments.{Argument, number_argument, field_argument, parameter_argument, name_argument, Invocation}
use Rattle.p414_sem.specs.declared.standard.Standard.TheVariants.{EgressSpec}
use Rattle.p414_sem.specs.Wholes.{whole}
use Rattle.p414_sem.specs.Slots.{Slot, standard, declared, Element, Target, element_of, slot_of, field_target}
use Rattle.p414_sem.specs.Expanded.{Expanded}
use Rattle.p414_sem.specs.Calculations.{Calculation, calculation_named}

-- a source: a number, a field, or the parameter with this number
pub data Source : Type 0 where
  number : (value : ℤ) → Source
  field : (slot : Slot) → Source
  parameter : (number : ℕ) → Source

-- what a field gets
pub data Term : Type 0 where
  just : (a : Source) → Term
  -- a on the bits of the mask, and the field's own bits elsewhere
  on_mask : (a mask : Source) → Term
  sum : (a b : Source) → Term
  difference : (a b : Source) → Term
  conjunction : (a b : Source) → Term
  disjunction : (a b : Source) → Term
  exclusive : (a b : Source) → Term
  left_shift : (a count : Source) → Term
  right_shift : (a count : Source) → Term
  -- the number of a register's cell
  cell : (object : ℕ) (index : Source) → Term
  -- the base, and the calculation's result modulo the bound
  hashed : (base : Source) (calculation : Calculation) (bound : Source) → Term

pub data Primitive : Type 0 where
  -- a field gets a number; the number is a sum or a difference, or not
  write : (sums : Bool) (target : Target) (term : Term) → Primitive
  add_header : (header : Element) → Primitive
  remove_header : (header : Element) → Primitive
  copy_header : (header from : Element) → Primitive
  push : (stack count : ℕ) → Primitive
  pop : (stack count : ℕ) → Primitive
  count_cell : (object : ℕ) (index : Source) → Primitive
  write_cell : (object : ℕ) (index value : Source) → Primitive
  execute_meter : (object : ℕ) (index : Source) (target : Target) → Primitive
  ask : (kind : RequestKind) (session : Source) (list : Option ℕ) → Primitive
  nothing : Primitive

-- names in the order of their octets, each once
abbrev pub in_order : List Name → List Name
in_order names = fold (insert_key (slice_cmp nat_cmp)) [] names

-- the number of a counter, a meter or a register: its place among all of them by the order of names, as the signature
-- has them
abbrev pub object_number : List Decl → Name → ℕ
object_number ds name =
    let names = in_order (names_in sort.Object ds) in unwrap_or (find_name names name) (length names)

-- arguments by their places, from 0

abbrev pub argument_at : Invocation → ℕ → Argument
argument_at i n = slice_index_or i.arguments n (number_argument (record { sign = None; literal = record { width = None; value = 0 } }))

abbrev pub no_slot : List Decl → Slot
no_slot ds = declared (length (names_in sort.Instance ds)) 0 0

abbrev pub no_target : List Decl → Target
no_target ds = record { slot = no_slot ds; width = 0; saturating = false }

abbrev pub source_of : List Decl → Argument → Source
source_of ds (number_argument n) = number (whole n)
source_of ds (field_argument r) = field (slot_of ds r)
source_of ds (parameter_argument n) = parameter n
source_of ds (name_argument i) = number (pos 0)

abbrev pub target_in : List Decl → Argument → Target
target_in ds (field_argument r) = field_target ds r
target_in ds _ = no_target ds

abbrev pub element_in : List Decl → Argument → Element
element_in ds (name_argument i) = element_of ds i
element_in ds _ = record { instance = length (names_in sort.Instance ds); element = 0 }

abbrev pub name_in_argument : Argument → Name
name_in_argument (name_argument i) = i.name
name_in_argument _ = []

abbrev pub source : List Decl → Invocation → ℕ → Source
source ds i n = source_of ds (argument_at i n)

abbrev pub target : List Decl → Invocation → ℕ → Target
target ds i n = target_in ds (argument_at i n)

abbrev pub element : List Decl → Invocation → ℕ → Element
element ds i n = element_in ds (argument_at i n)

abbrev pub stack : List Decl → Invocation → ℕ
stack ds i = instance_number ds (name_in_argument (argument_at i 0))

abbrev pub object : List Decl → Invocation → ℕ → ℕ
object ds i n = object_number ds (name_in_argument (argument_at i n))

abbrev pub calculation : List Decl → Expanded → Invocation → ℕ → Calculation
calculation ds x i n = calculation_named ds x (name_in_argument (argument_at i n))

-- how many elements move: 1 where no number stands
abbrev pub element_count : Invocation → ℕ
element_count i = counted (slice_get i.arguments 1) where
  counted : Option Argument → ℕ
  counted (Some (number_argument n)) = n.literal.value
  counted _ = 1

-- the field list at a place, if one stands there
abbrev pub list_at : List Decl → Invocation → ℕ → Option ℕ
list_at ds i n = named (slice_get i.arguments n) where
  named : Option Argument → Option ℕ
  named (Some (name_argument l)) = list_number ds l.name
  named _ = None

-- calls

-- the target gets a term of the sources behind it
abbrev pub writes : List Decl → Invocation → (Source → Source → Term) → Primitive
writes ds i term = write false (target ds i 0) (term (source ds i 1) (source ds i 2))

-- the same where what is written is a sum or a difference
abbrev pub writes_sum : List Decl → Invocation → (Source → Source → Term) → Primitive
writes_sum ds i term = write true (target ds i 0) (term (source ds i 1) (source ds i 2))

-- the target gets a sum or a difference of its own number and the source behind it
abbrev pub changes : List Decl → Invocation → (Source → Source → Term) → Primitive
changes ds i term = write true (target ds i 0) (term (field (target ds i 0).slot) (source ds i 1))

abbrev pub modifies : List Decl → Invocation → Primitive
modifies ds i =
    if length i.arguments == 3 then writes ds i on_mask else write false (target ds i 0) (just (source ds i 1))

abbrev pub egress_spec : Target
egress_spec = record { slot = standard EgressSpec; width = 9; saturating = false }

abbrev pub clones : List Decl → Invocation → RequestKind → Primitive
clones ds i kind = ask kind (source ds i 0) (list_at ds i 1)

-- a request of resubmit or recirculate
abbrev pub repeats_packet : List Decl → Invocation → RequestKind → Primitive
repeats_packet ds i kind = ask kind (number (pos 0)) (list_at ds i 0)

abbrev pub primitive_of : List Decl → Expanded → Invocation → Primitive
primitive_of ds x i =
    if bytes_eq i.callee (codes "modify_field") then modifies ds i
    else if bytes_eq i.callee (codes "add") then writes_sum ds i sum
    else if bytes_eq i.callee (codes "subtract") then writes_sum ds i difference
    else if bytes_eq i.callee (codes "add_to_field") then changes ds i sum
    else if bytes_eq i.callee (codes "subtract_from_field") then changes ds i difference
    else if bytes_eq i.callee (codes "bit_and") then writes ds i conjunction
    else if bytes_eq i.callee (codes "bit_or") then writes ds i disjunction
    else if bytes_eq i.callee (codes "bit_xor") then writes ds i exclusive
    else if bytes_eq i.callee (codes "shift_left") then writes ds i left_shift
    else if bytes_eq i.callee (codes "shift_right") then writes ds i right_shift
    else if bytes_eq i.callee (codes "add_header") then add_header (element ds i 0)
    else if bytes_eq i.callee (codes "remove_header") then remove_header (element ds i 0)
    else if bytes_eq i.callee (codes "copy_header") then copy_header (element ds i 0) (element ds i 1)
    else if bytes_eq i.callee (codes "push") then push (stack ds i) (element_count i)
    else if bytes_eq i.callee (codes "pop") then pop (stack ds i) (element_count i)
    else if bytes_eq i.callee (codes "count") then count_cell (object ds i 0) (source ds i 1)
    else if bytes_eq i.callee (codes "register_read") then
    write false (target ds i 0) (cell (object ds i 1) (source ds i 2))
    else if bytes_eq i.callee (codes "register_write") then
    write_cell (object ds i 0) (source ds i 1) (source ds i 2)
    else if bytes_eq i.callee (codes "execute_meter") then
    execute_meter (object ds i 0) (source ds i 1) (target ds i 2)
    else if bytes_eq i.callee hash then
    write false (target ds i 0) (hashed (source ds i 1) (calculation ds x i 2) (source ds i 3))
    else if bytes_eq i.callee (codes "drop") then write false egress_spec (just (number (pos drop_port)))
    else if bytes_eq i.callee (codes "resubmit") then repeats_packet ds i Resubmit
    else if bytes_eq i.callee (codes "recirculate") then repeats_packet ds i Recirculate
    else if bytes_eq i.callee (codes "clone_ingress_pkt_to_egress") then clones ds i CloneI2E
    else if bytes_eq i.callee (codes "clone_i2e") then clones ds i CloneI2E
    else if bytes_eq i.callee (codes "clone_egress_pkt_to_egress") then clones ds i CloneE2E
    else if bytes_eq i.callee (codes "clone_e2e") then clones ds i CloneE2E
    else nothing
