-- The declarations at the top, by what tables say: which header types are used, and which marks each field has
-- (this project's own; P4_14 1.0.5, "Header and Metadata Instances"; P4_16 1.2, "Header types", "Struct types"; `v1model.p4`, `@field_list`).
use Rattle.std.specs.Prelude.{◌≡◌, ℕ, ◌+◌, Bool, false, if◌then◌else◌, List, [], ◌∷◌, ◌++◌, map, filter_map, codes, slice_index_or, Option, Some, None}
use Rattle.p414_syntax.specs.declared.syntax.Decl.{Decl}
use Rattle.p414_syntax.specs.Views.{HeaderTypeTree}
use Rattle.p414_syntax.specs.Fields.{types}
use Rattle.p416_syntax.specs.declared.parts.StructField.{StructField}
use Rattle.p416_syntax.specs.declared.parts.Type16.TheVariants as type_of
use Rattle.p416_syntax.specs.declared.program.Decl16.{Decl16}
use Rattle.p416_syntax.specs.declared.program.Decl16.TheVariants as decl16
use Rattle.agreement_of_meanings.specs.Shown.{NamedField, Shown, as_header, as_stack, as_metadata}
use Rattle.lower_marks.specs.FieldMarks.{marks_at, marks_in}
use Rattle.lower_laws_names.specs.Types.{Member, is_used, notes_of, plain, header_member, metadata_member}

-- the types that have a flag, of which the first has this number
abbrev pub used_from : List Bool → ℕ → List HeaderTypeTree → List HeaderTypeTree
used_from flags number [] = []
used_from flags number (t ∷ ts) =
    if slice_index_or flags number false then t ∷ used_from flags (number + 1) ts else used_from flags (number + 1) ts

-- the flags are those of the header types that a header has
abbrev pub AreUsed : List Decl → List Bool → Type 0
AreUsed ds flags = flags ≡ map (is_used ds) (types ds)

-- a field of a struct, with its marks
abbrev pub marked_field : List ℕ → NamedField → StructField
marked_field numbers field =
    record { notes = notes_of numbers; of = type_of.Bit (plain field.width); name = field.called }

-- fields with their marks, of which the first has this number
abbrev pub marked_from : List (List ℕ) → ℕ → List NamedField → List StructField
marked_from marks f [] = []
marked_from marks f (field ∷ fields) = marked_field (marks_at marks f) field ∷ marked_from marks (f + 1) fields

-- the struct of a metadata instance
abbrev pub struct_by : List (List (List ℕ)) → Member → Option Decl16
struct_by marks m = of m.shown where
  of : Shown → Option Decl16
  of (as_metadata name fields) = Some (decl16.Struct (record { name = m.type; fields = marked_from (marks_in marks m.number) 0 fields }))
  of _ = None

-- the struct of the headers and that of the metadata
abbrev pub headers_struct : List Member → Decl16
headers_struct ms = decl16.Struct (record { name = codes "hs"; fields = filter_map header_member ms })

-- the struct of the metadata instances
abbrev pub metadata_struct : List Member → Decl16
metadata_struct ms = decl16.Struct (record { name = codes "ms"; fields = filter_map metadata_member ms })

-- all structs
abbrev pub structs : List (List (List ℕ)) → List Member → List Decl16
structs marks ms = filter_map (struct_by marks) ms ++ headers_struct ms ∷ metadata_struct ms ∷ []
