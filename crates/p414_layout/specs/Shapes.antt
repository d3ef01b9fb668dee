-- What the instances of a program are made of (P4_14 1.0.5, "Header Type Declarations", "Header and Metadata Instances").
use Rattle.std.specs.Prelude.{ℕ, true, false, List, [], map, length, slice_index_or, Option, Some, None, option_map}
use Rattle.p414_syntax.specs.declared.syntax.Decl.{Decl}
use Rattle.p414_syntax.specs.declared.syntax.Decl.TheVariants as decl
use Rattle.p414_syntax.specs.declared.syntax.Sort.TheVariants as sort
use Rattle.p414_syntax.specs.Names.{declared_in}
use Rattle.p414_syntax.specs.Cells.{literal_value}
use Rattle.p414_sem.specs.State.{Instance, blank_instance}
use Rattle.p414_sem.specs.Packing.{widths_of_type}
use Rattle.p414_layout.specs.declared.shape.Shape.{Shape}

-- the elements: those of a stack, or one
abbrev pub count_by : Option ℕ → ℕ
count_by (Some n) = n
count_by None = 1

abbrev pub element_count : Shape → ℕ
element_count s = count_by s.stack

-- the greatest place of a stack: the one behind its last element
abbrev pub last_place_by : Option ℕ → ℕ
last_place_by (Some n) = n
last_place_by None = 0

abbrev pub last_place : Shape → ℕ
last_place s = last_place_by s.stack

-- what a declaration makes; one that declares no instance has no elements
abbrev pub no_shape : Shape
no_shape = record { metadata = false; stack = Some 0; widths = [] }

abbrev pub shape_in : List Decl → Decl → Shape
shape_in ds (decl.Header x) =
    record { metadata = false; stack = option_map literal_value x.size; widths = widths_of_type ds x.header_type }
shape_in ds (decl.Metadata x) = record { metadata = true; stack = None; widths = widths_of_type ds x.header_type }
shape_in ds _ = no_shape

-- the instances of a program, in the order of declaration
abbrev pub layout_of : List Decl → List Shape
layout_of ds = map (shape_in ds) (declared_in sort.Instance ds)

-- the instance with this number
abbrev pub shape_at : List Shape → ℕ → Shape
shape_at layout i = slice_index_or layout i no_shape

-- an instance in a state in which nothing is parsed: metadata is valid, and all fields are 0
abbrev pub blank_of : Shape → Instance
blank_of s = blank_instance s.metadata (element_count s) (length s.widths)
