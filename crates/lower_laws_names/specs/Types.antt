-- The types that are written: each header type that a header has, a struct for each metadata instance, since marks are
-- an instance's, the struct of the headers and that of the metadata (this project's own; P4_14 1.0.5, "Header Type
-- Declarations", "Header and Metadata Instances"; P4_16 1.2, "Header types", "Header stacks", "Derived types";
-- `v1model.p4`, `field_list`).
use Rattle.std.specs.Prelude.{ℕ, ◌+◌, Bool, false, List, [], ◌∷◌, ◌++◌, map, filter, filter_map, codes, Option, Some, None}
use Rattle.std.specs.List.{list_any}
use Rattle.std.specs.Str.{bytes_eq}
use Rattle.p414_syntax.specs.declared.syntax.Decl.{Decl}
use Rattle.p414_syntax.specs.declared.syntax.Decl.TheVariants as decl
use Rattle.p414_syntax.specs.declared.syntax.Sort.TheVariants as sort
use Rattle.p414_syntax.specs.Views.{HeaderTypeTree}
use Rattle.p414_syntax.specs.Names.{Name}
use Rattle.p414_syntax.specs.Fields.{types}
use Rattle.p414_syntax.specs.Totals.{elements_of}
use Rattle.p414_sem.specs.Expanded.{Expanded}
use Rattle.p416_syntax.specs.declared.lexeme.Literal16.{Literal16}
use Rattle.p416_syntax.specs.declared.parts.BitField.{BitField}
use Rattle.p416_syntax.specs.declared.parts.Note.{Note}
use Rattle.p416_syntax.specs.declared.parts.Note.TheVariants as note
use Rattle.p416_syntax.specs.declared.parts.StructField.{StructField}
use Rattle.p416_syntax.specs.declared.parts.Type16.TheVariants as type_of
use Rattle.p416_syntax.specs.declared.program.Decl16.{Decl16}
use Rattle.p416_syntax.specs.declared.program.Decl16.TheVariants as decl16
use Rattle.agreement_of_meanings.specs.Shown.{NamedField, Shown, as_header, as_stack, as_metadata}
use Rattle.lower_laws_names.specs.Made.{called}
use Rattle.lower_laws_names.specs.NewNames.{new_name, struct_thing}
use Rattle.lower_laws_names.specs.Instances.{type_fields, named_fields, shown_header}
use Rattle.lower_laws_names.specs.Marks.{marks_of_field}

-- a number without a width
abbrev pub plain : ℕ → Literal16
plain n = record { width = None; value = n }

-- header types

-- a field of a header, of so many bits
abbrev pub bit_field : NamedField → BitField
bit_field f = record { width = plain f.width; name = f.called }

-- a header type (P4_16, "Header types")
abbrev pub header_decl : List Decl → HeaderTypeTree → Decl16
header_decl ds t =
    decl16.Header (record { name = new_name ds sort.HeaderType t.name; fields = map bit_field (type_fields t) })

-- the declaration is one of a header of this type
abbrev pub has_type : Name → Decl → Bool
has_type type (decl.Header x) = bytes_eq x.header_type type
has_type type _ = false

-- a declared header has the type
abbrev pub is_used : List Decl → HeaderTypeTree → Bool
is_used ds t = list_any (has_type t.name) ds

-- the header types that a header has, in the order of declaration
abbrev pub header_decls : List Decl → List Decl16
header_decls ds = map (header_decl ds) (filter (is_used ds) (types ds))

-- instances

-- an instance by its number, with how it is shown, the new name of its type, and its elements
pub record Member : Type 0 where
  pub number : ℕ
  pub shown : Shown
  pub type : Name
  pub size : ℕ

-- the instances among these declarations, of which the first has this number, and the first metadata instance that number
abbrev pub members_from : List Decl → ℕ → ℕ → List Decl → List Member
members_from ds k m [] = []
members_from ds k m (decl.Header x ∷ es) =
    record {
      number = k;
      shown = shown_header ds x.header_type x.name x.size;
      type = new_name ds sort.HeaderType x.header_type;
      size = elements_of x.size;
    }
    ∷ members_from ds (k + 1) m es
members_from ds k m (decl.Metadata x ∷ es) =
    record {
      number = k;
      shown = as_metadata (new_name ds sort.Instance x.name) (named_fields ds x.header_type);
      type = called (struct_thing m x.header_type);
      size = 1;
    }
    ∷ members_from ds (k + 1) (m + 1) es
members_from ds k m (d ∷ es) = members_from ds k m es

-- all instances, numbered from 0
abbrev pub members : List Decl → List Member
members ds = members_from ds 0 0 ds

-- structs of metadata

-- the annotation of a field that has marks; none without one (`v1model.p4`, `field_list`)
abbrev pub notes_of : List ℕ → List Note
notes_of [] = []
notes_of (n ∷ numbers) = note.FieldList (map plain (n ∷ numbers)) ∷ []

-- a field of metadata, with its marks
abbrev pub struct_field : List Decl → Expanded → ℕ → ℕ → NamedField → StructField
struct_field ds x k f field =
    record { notes = notes_of (marks_of_field ds x k f); of = type_of.Bit (plain field.width); name = field.called }

-- the fields of the instance k, of which the first has the number f
abbrev pub struct_fields_from : List Decl → Expanded → ℕ → ℕ → List NamedField → List StructField
struct_fields_from ds x k f [] = []
struct_fields_from ds x k f (field ∷ fields) =
    struct_field ds x k f field ∷ struct_fields_from ds x k (f + 1) fields

-- the struct of an instance, if it is one of metadata (P4_16, "Derived types")
abbrev pub struct_decl : List Decl → Expanded → Member → Option Decl16
struct_decl ds x m = of m.shown where
  of : Shown → Option Decl16
  of (as_metadata name fields) = Some (decl16.Struct (record { name = m.type; fields = struct_fields_from ds x m.number 0 fields }))
  of _ = None

-- the structs of all metadata instances
abbrev pub struct_decls : List Decl → Expanded → List Decl16
struct_decls ds x = filter_map (struct_decl ds x) (members ds)

-- the struct of the headers and that of the metadata

-- a member of a struct by its name, its type and its size where it is a stack (P4_16, "Header stacks")
abbrev pub member_field : Name → Name → Option Literal16 → StructField
member_field name type size = record { notes = []; of = type_of.Named type size; name = name }

-- the member of the struct of headers that an instance is, if it is a header or a stack
abbrev pub header_member : Member → Option StructField
header_member m = of m.shown where
  of : Shown → Option StructField
  of (as_header name fields) = Some (member_field name m.type None)
  of (as_stack name fields) = Some (member_field name m.type (Some (plain m.size)))
  of (as_metadata name fields) = None

-- the member of the struct of metadata that an instance is, if it is metadata
abbrev pub metadata_member : Member → Option StructField
metadata_member m = of m.shown where
  of : Shown → Option StructField
  of (as_metadata name fields) = Some (member_field name m.type None)
  of _ = None

-- the struct of the headers, `hs`
abbrev pub headers_decl : List Decl → Decl16
headers_decl ds = decl16.Struct (record { name = codes "hs"; fields = filter_map header_member (members ds) })

-- the struct of the metadata, `ms`
abbrev pub metadata_decl : List Decl → Decl16
metadata_decl ds = decl16.Struct (record { name = codes "ms"; fields = filter_map metadata_member (members ds) })

-- all declarations of types, in the order in which they stand
abbrev pub type_decls : List Decl → Expanded → List Decl16
type_decls ds x = header_decls ds ++ (struct_decls ds x ++ headers_decl ds ∷ metadata_decl ds ∷ [])
