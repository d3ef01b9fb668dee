-- The layout that the moments of a program are measured by, and the words of its types, as its declarations are written
-- (this project's own; P4_14 1.0.5, "Header Type Declarations", "Header and Metadata Instances"; P4_16 1.2, "Header
-- types", "Header stacks", "Derived types").
use Rattle.std.specs.Prelude.{◌≡◌, ℕ, ◌≤◌, ◌^◌, List, [], map, length, filter_map, flat_map, slice_index_or, Some}
use Rattle.state_store.specs.declared.shapes.Shape.{Shape}
use Rattle.match_core.specs.declared.entries.Entries.{Entries}
use Rattle.match_core.specs.Stores.{shapes_of}
use Rattle.p414_syntax.specs.declared.syntax.Decl.{Decl}
use Rattle.p414_syntax.specs.Views.{HeaderTypeTree}
use Rattle.p414_syntax.specs.Fields.{type_of}
use Rattle.p414_syntax.specs.Tables.{tables, listed_in}
use Rattle.p414_sem.specs.Expanded.{Expanded}
use Rattle.p414_sem.specs.Signatures.{signature14}
use Rattle.p416_syntax.specs.declared.parts.Note.{Note}
use Rattle.p416_syntax.specs.declared.parts.StructField.{StructField}
use Rattle.p416_syntax.specs.Names.{Name}
use Rattle.p416_syntax.specs.BuiltIn.{standard_layout}
use Rattle.v1_core.specs.Frames.{Owner, of_headers, of_metadata, of_standard}
use Rattle.agreement_of_meanings.specs.Shown.{nothing_shown}
use Rattle.agreement_of_meanings.specs.Agrees.{NewNames}
use Rattle.lower_laws_names.specs.Instances.{shown_instances}
use Rattle.lower_laws_names.specs.Marks.{marks, marks_of_field}
use Rattle.lower_laws_names.specs.Types.{Member, members, header_member, metadata_member, notes_of}
use Rattle.lower_laws_base.specs.Context.{StateLayout}
use Rattle.lower_laws_base.specs.Between.{every}
use Rattle.lower_laws_passes.specs.Types.{member_of}
use Rattle.lower_laws_program.specs.TypesFit.{TypeWords, field_called}

-- what stands where the program has no such instance
abbrev pub no_member : Member
no_member = record { number = 0; shown = nothing_shown; type = []; size = 0 }

-- the instance with this number, as it is written
abbrev pub member_at : List Decl → ℕ → Member
member_at ds k = slice_index_or (members ds) k no_member

-- the new names of the program's instances, and the marks of its lists
abbrev pub new_names_of : List Decl → NewNames
new_names_of ds = record { instances = shown_instances ds; marks = marks ds }

-- the fields of the struct of headers
abbrev pub header_fields : List Decl → List StructField
header_fields ds = filter_map header_member (members ds)

-- the fields of the struct of metadata
abbrev pub metadata_fields : List Decl → List StructField
metadata_fields ds = filter_map metadata_member (members ds)

-- the names of the members of the three structs, in order
abbrev pub members_in : List Decl → Owner → List Name
members_in ds of_headers = map member_of (header_fields ds)
members_in ds of_metadata = map member_of (metadata_fields ds)
members_in ds of_standard = map field_called standard_layout.fields
members_in ds _ = []

-- how many elements an instance has
abbrev pub size_at : List Decl → ℕ → ℕ
size_at ds k = (member_at ds k).size

-- the new name of an instance's type
abbrev pub type_at : List Decl → ℕ → Name
type_at ds k = (member_at ds k).type

-- the layout of a program whose objects have these shapes
abbrev pub layout_shaped : List Decl → List Shape → StateLayout
layout_shaped ds shapes = record {
  names = new_names_of ds;
  size_of = size_at ds;
  has = every;
  members = members_in ds;
  variables = [];
  shapes = shapes;
}

-- that under entries: a direct counter has as many cells as its table has entries
abbrev pub program_layout : List Decl → Entries → StateLayout
program_layout ds entries = layout_shaped ds (shapes_of (signature14 ds) entries)

-- the annotations of a field of a metadata instance (`v1model.p4`, `field_list`)
abbrev pub notes_at : List Decl → Expanded → ℕ → ℕ → List Note
notes_at ds x k f = notes_of (marks_of_field ds x k f)

-- the words of the program's types: their new names, the notes of fields, and the fields of both structs
abbrev pub type_words : List Decl → Expanded → TypeWords
type_words ds x = record {
  type_of = type_at ds;
  notes = notes_at ds x;
  headers = header_fields ds;
  metadata = metadata_fields ds;
}

-- No more declarations, actions listed by tables, and fields of a type, than have numbers of 32 bits: no rule says so, but the
-- length of a text does.
pub record IsShort (ds : List Decl) : Type 0 where
  pub few : length ds ≤ 2 ^ 32
  pub few_lines : length (flat_map listed_in (tables ds)) ≤ 2 ^ 32
  pub few_fields : (type : Name) (t : HeaderTypeTree) → type_of ds type ≡ Some t → length t.fields ≤ 2 ^ 32
