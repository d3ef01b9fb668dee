-- What the types that are written give, and nothing of the blocks: which header and struct stands for each instance,
-- what stands in the two structs, and the marks (this project's own; P4_14 1.0.5, "Header Type Declarations", "Header
-- and Metadata Instances", "Field Lists"; P4_16 1.2, "Header types", "Header stacks", "Derived types"; `v1model.p4`,
-- `field_list`).
use Rattle.std.specs.Prelude.{◌≡◌, ℕ, suc, ◌<◌, true, false, List, [], ◌∷◌, length, map, Some}
use Rattle.std.specs.List.{list_any}
use Rattle.std.specs.Prelude.{get_or, is_some}
use Rattle.p414_syntax.specs.Names.{declared_in}
use Rattle.p414_syntax.specs.declared.syntax.Sort.TheVariants as sort
use Rattle.p414_syntax.specs.declared.syntax.Decl.TheVariants as decl14
use Rattle.p414_syntax.specs.declared.syntax.Decl.{Decl}
use Rattle.p414_sem.specs.Expanded.{Expanded, items_in_list}
use Rattle.p416_syntax.specs.declared.parts.Note.{Note}
use Rattle.p416_syntax.specs.declared.parts.BitField.{BitField}
use Rattle.p416_syntax.specs.declared.parts.StructField.{StructField}
use Rattle.p416_syntax.specs.declared.parts.Type16.{Type16}
use Rattle.p416_syntax.specs.declared.program.Decl16.{Decl16}
use Rattle.p416_syntax.specs.declared.program.Decl16.TheVariants as decl
use Rattle.p416_syntax.specs.Names.{Name, repeats}
use Rattle.p416_syntax.specs.BuiltIn.{standard_layout}
use Rattle.p416_syntax.specs.Scopes.{FieldKind}
use Rattle.v1_core.specs.Frames.{of_headers, of_metadata, of_standard}
use Rattle.v1_core.specs.Passes.{is_in_list}
use Rattle.agreement_of_meanings.specs.Shown.{NamedField, Shown, as_header, as_stack, as_metadata, is_metadata, name_of, fields_of, width_of, NamesDiffer}
use Rattle.agreement_of_meanings.specs.Agrees.{mark_of, MarksNone}
use Rattle.lower_laws_base.specs.Context.{StateLayout, shown_on}
use Rattle.lower_laws_base.specs.Mirror.{plain}
use Rattle.lower_laws_states.specs.Fits.{widths_at}
use Rattle.lower_laws_base.specs.Types.{DeclsShown}
use Rattle.lower_laws_passes.specs.Preserving.{ItemsAtFirst, is_item, struct_field_at}
use Rattle.lower_laws_passes.specs.Types.{member_of}
use Rattle.lower_laws_program.specs.Program.{named_type, stack_type, bit_type, root_struct}
use Rattle.lower_laws_states.specs.Expansions.{Has}

-- a field of a header, of so many bits
abbrev pub bit_field_of : NamedField → BitField
bit_field_of f = record { width = plain f.width; name = f.called }

-- the fields of a struct of metadata, each with its notes
abbrev pub marked_from : (ℕ → List Note) → ℕ → List NamedField → List StructField
marked_from notes k [] = []
marked_from notes k (f ∷ fields) = record { notes = notes k; of = bit_type f.width; name = f.called } ∷ marked_from notes (suc k) fields

-- the type of an instance among the headers or the metadata
abbrev pub instance_type : Shown → Name → ℕ → Type16
instance_type (as_header called fields) type size = named_type type
instance_type (as_stack called fields) type size = stack_type type size
instance_type (as_metadata called fields) type size = named_type type

-- a member of one of the two structs
abbrev pub member : Type16 → Name → StructField
member of text = record { notes = []; of = of; name = text }

-- a field by its name
abbrev pub field_called : FieldKind → Name
field_called f = f.called

-- the words of the types: which type each instance has, which annotations each field, and the members of both structs
pub record TypeWords : Type 0 where
  pub type_of : ℕ → Name
  pub notes : ℕ → ℕ → List Note
  pub headers : List StructField
  pub metadata : List StructField

-- the fields of the struct of an instance of metadata
abbrev pub fields_written : StateLayout → TypeWords → ℕ → List StructField
fields_written g t k = marked_from (t.notes k) 0 (fields_of (shown_on g k))

-- a struct with these fields
abbrev pub struct_of : Name → List StructField → Decl16
struct_of text fields = decl.Struct (record { name = text; fields = fields })

-- an instance is shown as a stack
abbrev pub IsStack : Shown → Type 0
IsStack x = (called : Name) × (fields : List NamedField) × (x ≡ as_stack called fields)

-- an instance with a size is shown as a stack
abbrev pub StackShown : Decl → Shown → Type 0
StackShown (decl14.Header d) x = is_some d.size ≡ true → IsStack x
StackShown _ x = Unit {0}

-- Instances are shown as they are declared, with a header or a struct for each; the two structs hold them; and a field
-- of metadata bears the mark of each list that has it, and of no other.
pub record TypesFit (g : StateLayout) (ds : List Decl) (x : Expanded) (t : TypeWords) (types : List Decl16) : Type 0 where
  pub differ : NamesDiffer g.names.instances
  pub shown : DeclsShown g ds
  pub stacks : (k : ℕ) → k < length g.names.instances → (d : Decl) → StackShown (get_or (declared_in sort.Instance ds) k d) (shown_on g k)
  pub widths : (k : ℕ) → k < length g.names.instances → widths_at ds k ≡ map width_of (fields_of (shown_on g k))
  -- what is declared
  pub headers_struct : Has types (struct_of (root_struct of_headers) t.headers)
  pub metadata_struct : Has types (struct_of (root_struct of_metadata) t.metadata)
  pub header : (k : ℕ) → k < length g.names.instances → is_metadata (shown_on g k) ≡ false → Has types (decl.Header (record { name = t.type_of k; fields = map bit_field_of (fields_of (shown_on g k)) }))
  pub struct : (k : ℕ) → k < length g.names.instances → is_metadata (shown_on g k) ≡ true → Has types (struct_of (t.type_of k) (fields_written g t k))
  -- what the two structs hold
  pub header_member : (k : ℕ) → k < length g.names.instances → is_metadata (shown_on g k) ≡ false → Has t.headers (member (instance_type (shown_on g k) (t.type_of k) (g.size_of k)) (name_of (shown_on g k)))
  pub metadata_member : (k : ℕ) → k < length g.names.instances → is_metadata (shown_on g k) ≡ true → Has t.metadata (member (named_type (t.type_of k)) (name_of (shown_on g k)))
  pub headers_once : repeats (map member_of t.headers) ≡ false
  pub metadata_once : repeats (map member_of t.metadata) ≡ false
  pub header_members : g.members of_headers ≡ map member_of t.headers
  pub metadata_members : g.members of_metadata ≡ map member_of t.metadata
  pub standard_members : g.members of_standard ≡ map field_called standard_layout.fields
  -- the marks
  pub first : (list k : ℕ) → k < length g.names.instances → is_metadata (shown_on g k) ≡ true → ItemsAtFirst ds k (items_in_list x list)
  pub marked : (list number : ℕ) → mark_of g.names.marks list ≡ Some number → (k f : ℕ) → k < length g.names.instances → is_metadata (shown_on g k) ≡ true → f < length (fields_written g t k) → is_in_list number (struct_field_at (fields_written g t k) f) ≡ list_any (is_item ds k f) (items_in_list x list)
  pub unmarked : (number : ℕ) → MarksNone g.names.marks number → (k f : ℕ) → k < length g.names.instances → is_metadata (shown_on g k) ≡ true → f < length (fields_written g t k) → is_in_list number (struct_field_at (fields_written g t k) f) ≡ false
