-- What the names in scope are declared as, and what a type is there (P4_16 1.2, "Name resolution", "P4 data types"). A name
-- means its innermost declaration, whatever that declares.
use Rattle.std.specs.Prelude.{ℕ, Bool, true, false, if◌then◌else◌, List, [], ◌∷◌, ◌++◌, Option, Some, None}
use Rattle.std.specs.Str.{bytes_eq}
use Rattle.p416_syntax.specs.declared.parts.Note.{Note}
use Rattle.p416_syntax.specs.declared.parts.Type16.{Type16}
use Rattle.p416_syntax.specs.declared.parts.Type16.TheVariants.{Bit, Bool as BoolType, Named}
use Rattle.p416_syntax.specs.declared.parts.Direction.{Direction}
use Rattle.p416_syntax.specs.declared.parts.Direction.TheVariants.{In, Out, InOut}
use Rattle.p416_syntax.specs.declared.parts.Param.{Param}
use Rattle.p416_syntax.specs.declared.controls.ActionName.{ActionName}
use Rattle.p416_syntax.specs.Properties.{name_note_of}
use Rattle.p416_syntax.specs.Names.{Name}
use Rattle.p416_syntax.specs.Kinds.{Enumeration, ObjectKind, Kind, header, stack, bits, boolean, unknown}

-- a parameter of an action, as a call sees it: whether it has a direction, whether the call writes what it is given, and
-- what it is
pub record Handed : Type 0 where
  pub is_directed : Bool
  pub is_written : Bool
  pub kind : Kind

-- What a name is declared as. A value is a variable or a parameter, and says whether it can be written. An action has its
-- control-plane name and its parameters, a table the actions that it lists and the name of its direct counter. A block is
-- a parser or a control.
pub data Sort : Type 0 where
  a_type : (kind : Kind) → Sort
  a_value : (kind : Kind) (can_write : Bool) → Sort
  an_enumeration : (of : Enumeration) → Sort
  a_function : Sort
  an_object : (of : ObjectKind) → Sort
  an_action : (plane_name : Name) (parameters : List Handed) → Sort
  a_table : (actions : List ActionName) (counters : Option Name) → Sort
  a_state : Sort
  a_block : Sort
  undeclared : Sort

pub record Known : Type 0 where
  pub called : Name
  pub sort : Sort

abbrev pub known : Sort → Name → Known
known sort called = record { called = called; sort = sort }

abbrev pub called_of : Known → Name
called_of k = k.called

-- what a name means, the innermost declarations first
abbrev pub sort_in : List Known → Name → Sort
sort_in [] text = undeclared
sort_in (k ∷ names) text = if bytes_eq k.called text then k.sort else sort_in names text

-- the fields of a header or a struct
pub record FieldKind : Type 0 where
  pub called : Name
  pub kind : Kind

pub record Layout : Type 0 where
  pub called : Name
  pub fields : List FieldKind

-- the fields of the type with this name
abbrev pub fields_in : List Layout → Name → List FieldKind
fields_in [] text = []
fields_in (l ∷ layouts) text = if bytes_eq l.called text then l.fields else fields_in layouts text

-- the part of a declaration that something stands in: a parser; the action with this name; a key of a table; what else
-- stands in a control; what stands in neither a parser nor a control
pub data Part : Type 0 where
  in_parser : Part
  in_apply : Part
  in_action : (called : Name) → Part
  in_key : Part
  elsewhere : Part

-- Where an expression, a type or a statement stands: the fields of the types that the program declares; the names in
-- scope, the innermost first; at which places of `main`, counted from 0, its block stands; and in which part.
pub record Scope : Type 0 where
  pub layouts : List Layout
  pub names : List Known
  pub positions : List ℕ
  pub part : Part

abbrev pub sort_of : Scope → Name → Sort
sort_of s text = sort_in s.names text

-- the same scope with these names inside it
abbrev pub inside : Scope → List Known → Scope
inside s names = record s { names = names ++ s.names }

-- types

abbrev pub type_sort : Sort → Kind
type_sort (a_type k) = k
type_sort _ = unknown

abbrev pub stack_kind : ℕ → Kind → Kind
stack_kind size (header type) = stack type size
stack_kind size _ = unknown

abbrev pub kind_of_type : List Known → Type16 → Kind
kind_of_type names (Bit w) = bits w.value
kind_of_type names BoolType = boolean
kind_of_type names (Named text None) = type_sort (sort_in names text)
kind_of_type names (Named text (Some size)) = stack_kind size.value (type_sort (sort_in names text))

-- parameters and other declared names

abbrev pub is_directed : Option Direction → Bool
is_directed (Some d) = true
is_directed None = false

-- `out` and `inout` parameters can be written; `in` ones and those without a direction can't ("L-values")
abbrev pub is_written : Option Direction → Bool
is_written (Some In) = false
is_written (Some Out) = true
is_written (Some InOut) = true
is_written None = false

abbrev pub known_parameter : List Known → Param → Known
known_parameter names p = known (a_value (kind_of_type names p.of) (is_written p.direction)) p.name

abbrev pub handed : List Known → Param → Handed
handed names p =
    record { is_directed = is_directed p.direction; is_written = is_written p.direction; kind = kind_of_type names p.of }

-- the name by which the control plane knows what has these annotations: that of `@name`, else its own
abbrev pub plane_name : List Note → Name → Name
plane_name notes called = of (name_note_of notes)
  where
    of : Option Name → Name
    of (Some text) = text
    of None = called
