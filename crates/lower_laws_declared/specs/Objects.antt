-- Counters, meters and registers by their numbers in P4_14: new names, kinds and widths (this project's own; P4_14
-- 1.0.5, "Counters", "Meters", "Registers"; `v1model.p4`, `counter`, `direct_counter`, `meter`, `register`).
use Rattle.std.specs.Prelude.{ℕ, List, [], map, Option, Some, None}
use Rattle.std.specs.Option.{option_map_or}
use Rattle.p414_syntax.specs.declared.syntax.Decl.{Decl}
use Rattle.p414_syntax.specs.declared.syntax.Decl.TheVariants as decl
use Rattle.p414_syntax.specs.declared.syntax.Sort.TheVariants as sort
use Rattle.p414_syntax.specs.Attributes.{direct_table_of, width_of}
use Rattle.p414_syntax.specs.Names.{Name, names_in, declaration_of}
use Rattle.p414_syntax.specs.Cells.{literal_value}
use Rattle.p414_sem.specs.Operations.{in_order}
use Rattle.p416_syntax.specs.Kinds.{ObjectKind, counter, direct_counter, register, meter}
use Rattle.lower_laws_names.specs.NewNames.{new_name}
use Rattle.lower_laws_base.specs.Context.{ObjectName}

-- a counter of cells, or the direct one of a table
abbrev pub counter_kind : Option Name → ObjectKind
counter_kind None = counter
counter_kind (Some table) = direct_counter

-- the kind of a declared object
abbrev pub kind_in : Decl → ObjectKind
kind_in (decl.Counter x) = counter_kind (direct_table_of x.attributes)
kind_in (decl.Register x) = register
kind_in _ = meter

-- the bits of a register's cells
abbrev pub cell_width_in : Decl → ℕ
cell_width_in (decl.Register x) = option_map_or literal_value (width_of x.attributes) 0
cell_width_in _ = 0

-- an object by its name: its new name, its kind and its width
abbrev pub object_called : List Decl → Name → ObjectName
object_called ds name = record {
  called = new_name ds sort.Object name;
  kind = option_map_or kind_in (declaration_of sort.Object ds name) meter;
  width = option_map_or cell_width_in (declaration_of sort.Object ds name) 0;
}

-- in the order of the signature, by which objects have numbers
abbrev pub objects_by_number : List Decl → List ObjectName
objects_by_number ds = map (object_called ds) (in_order (names_in sort.Object ds))
