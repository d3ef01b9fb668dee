-- What is asked of a lowering: how it shows the instances, the objects and the preserved lists of a program (this
-- project's own; P4_14 1.0.5, "Header and Metadata Instances", "Counters", "Meters", "Registers", "Field Lists"; P4_16
-- 1.2, "Header types", "Header stacks", "Derived types"; `v1model.p4`, the stateful objects, `field_list`).
use Rattle.std.specs.Prelude.{◌≡◌, ℕ, ◌<◌, ◌≤◌, true, if◌then◌else◌, is_some, List, length, map, get_or, Some}
use Rattle.std.specs.Option.{option_map_or}
use Rattle.p414_syntax.specs.declared.headers.Header.{Header}
use Rattle.p414_syntax.specs.declared.syntax.Decl.{Decl}
use Rattle.p414_syntax.specs.declared.syntax.Decl.TheVariants as decl
use Rattle.p414_syntax.specs.declared.syntax.Sort.TheVariants as sort
use Rattle.p414_syntax.specs.Attributes.{direct_table_of, width_of}
use Rattle.p414_syntax.specs.Names.{Name, has_name, names_in, declared_in, declaration_of, numbered}
use Rattle.p414_syntax.specs.Cells.{literal_value}
use Rattle.p414_syntax.specs.Expansion.{list_number}
use Rattle.p414_syntax.specs.Preserved.{preserved_lists}
use Rattle.p414_sem.specs.Operations.{in_order}
use Rattle.p416_syntax.specs.Kinds.{ObjectKind, counter, direct_counter, register, meter}
use Rattle.v1_core.specs.Frames.{of_headers, of_metadata, of_standard}
use Rattle.agreement_of_meanings.specs.Shown.{fields_of, width_of as width_of_field}
use Rattle.agreement_of_meanings.specs.Agrees.{mark_of, MarksNone}
use Rattle.lower_laws_base.specs.Context.{Lowering, ObjectName, instances_of, shown_in, HasRoot}
use Rattle.lower_laws_states.specs.Fits.{widths_at}
use Rattle.lower_laws_base.specs.Types.{DeclsShown}
use Rattle.lower_laws_program.specs.TypesFit.{StackShown}

-- Instances are shown as they are declared, stacks as stacks, with the widths of their fields; headers of one type have the same
-- fields and one type.
pub record ShowsInstances (c : Lowering) (ds : List Decl) : Type 0 where
  pub decls : DeclsShown c.layout ds
  pub stacks : (k : ℕ) → k < length (instances_of c) → (d : Decl) → StackShown (get_or (declared_in sort.Instance ds) k d) (shown_in c k)
  pub widths : (k : ℕ) → k < length (instances_of c) → widths_at ds k ≡ map width_of_field (fields_of (shown_in c k))
  pub fields : (i j : ℕ) (h k : Header) → numbered sort.Instance ds i ≡ Some (decl.Header h) → numbered sort.Instance ds j ≡ Some (decl.Header k) → h.header_type ≡ k.header_type → fields_of (shown_in c i) ≡ fields_of (shown_in c j)
  pub types : (i j : ℕ) (h k : Header) → numbered sort.Instance ds i ≡ Some (decl.Header h) → numbered sort.Instance ds j ≡ Some (decl.Header k) → h.header_type ≡ k.header_type → c.type_of i ≡ c.type_of j

-- the block has the parameters of headers, of metadata and of standard metadata
pub record HasRoots (c : Lowering) : Type 0 where
  pub headers : HasRoot c.layout of_headers
  pub metadata : HasRoot c.layout of_metadata
  pub standard : HasRoot c.layout of_standard

-- objects: those of the program in the order of their names, under new names

-- the kind of a declared object
abbrev pub object_kind : Decl → ObjectKind
object_kind (decl.Counter x) = if is_some (direct_table_of x.attributes) then direct_counter else counter
object_kind (decl.Register x) = register
object_kind _ = meter

-- the bits of a register's cells
abbrev pub cell_width : Decl → ℕ
cell_width (decl.Register x) = option_map_or literal_value (width_of x.attributes) 0
cell_width _ = 0

-- an object of the program under its new name
abbrev pub object_shown : (Name → Name) → List Decl → Name → ObjectName
object_shown new ds name = record {
  called = new name;
  kind = option_map_or object_kind (declaration_of sort.Object ds name) meter;
  width = option_map_or cell_width (declaration_of sort.Object ds name) 0;
}

-- all objects, by their numbers
abbrev pub objects_shown : (Name → Name) → List Decl → List ObjectName
objects_shown new ds = map (object_shown new ds) (in_order (names_in sort.Object ds))

-- marks

-- each list that is preserved has a mark, no greater than there are such lists, and none is 0
pub record ShowsMarks (c : Lowering) (ds : List Decl) : Type 0 where
  pub marked : (name : Name) (list : ℕ) → has_name (preserved_lists ds) name ≡ true → list_number ds name ≡ Some list → (number : ℕ) × (mark_of c.layout.names.marks list ≡ Some number) × (number ≤ length (preserved_lists ds))
  pub zero : MarksNone c.layout.names.marks 0

-- the lowering shows the instances, the objects and the preserved lists of the program, and has all three parameters
pub record Shows (c : Lowering) (ds : List Decl) : Type 0 where
  pub instances : ShowsInstances c ds
  pub roots : HasRoots c
  pub new : Name → Name
  pub objects : c.objects ≡ objects_shown new ds
  pub marks : ShowsMarks c ds
