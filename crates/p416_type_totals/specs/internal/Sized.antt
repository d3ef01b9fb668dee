-- What the values of types count by a measure: their fields, or the octets of their headers.
use Rattle.std.specs.Prelude.{ℕ, ◌*◌, ◌/◌, List, [], ◌∷◌, map, length, sum_by, slice_index, slice_get}
use Rattle.std.specs.Option.{option_map_or}
use Rattle.p416_syntax.specs.declared.program.Decl16.{Decl16}
use Rattle.p416_syntax.specs.Names.{Name}
use Rattle.p416_syntax.specs.Kinds.{Kind, header, stack, struct}
use Rattle.p416_syntax.specs.Scopes.{FieldKind, Layout, fields_in}
use Rattle.p416_syntax.specs.BuiltIn.{standard_layout}
use Rattle.p416_syntax.specs.Declarations.{layouts_of}
use Rattle.p416_syntax.specs.Unknown.{declared_name, declaration_number}
use Rattle.p416_syntax.specs.Totals.{field_bits, fields_within, octets_within}
use Rattle.p416_type_totals.specs.declared.measure.Measure.{Measure}
use Rattle.p416_type_totals.specs.declared.measure.Measure.TheVariants as measure
use Rattle.p416_type_totals.specs.Limit.{up_to}

abbrev pub bit_limit : ℕ
bit_limit = 8388608

-- what a value of a kind counts, through so many structs within each other, and through all

abbrev pub within : Measure → List Layout → ℕ → Kind → ℕ
within measure.Fields layouts n k = fields_within layouts n k
within measure.Octets layouts n k = octets_within layouts n k

abbrev pub of_kind : Measure → List Layout → Kind → ℕ
of_kind m layouts k = within m layouts (length layouts) k

-- a header of these fields
abbrev pub as_header : Measure → List FieldKind → ℕ
as_header measure.Fields fields = length fields
as_header measure.Octets fields = sum_by field_bits fields / 8

abbrev pub header_of : Measure → List Decl16 → Name → ℕ
header_of m ds type = as_header m (fields_in (layouts_of ds) type)

-- a value that is no header, no stack and no struct
abbrev pub of_other : Measure → ℕ
of_other measure.Fields = 1
of_other measure.Octets = 0

-- a struct of a type that the program doesn't declare
abbrev pub standard_size : Measure → Name → ℕ
standard_size measure.Fields type = length (fields_in (standard_layout ∷ []) type)
standard_size measure.Octets type = 0

-- what is written down of the headers and of the structs of each declared type, by the numbers of the declarations

abbrev pub header_total : Measure → List Decl16 → Decl16 → ℕ
header_total m ds d = up_to (header_of m ds (declared_name d))

abbrev pub headers_of : Measure → List Decl16 → List ℕ
headers_of m ds = map (header_total m ds) ds

abbrev pub struct_total : Measure → List Decl16 → Decl16 → ℕ
struct_total m ds d = up_to (of_kind m (layouts_of ds) (struct (declared_name d)))

abbrev pub structs_of : Measure → List Decl16 → List ℕ
structs_of m ds = map (struct_total m ds) ds

-- what a value of a kind is looked up to count, where this is written down of structs
abbrev pub looked : Measure → List Decl16 → List ℕ → Kind → ℕ
looked m ds structs (header type) = up_to (header_of m ds type)
looked m ds structs (stack type size) = up_to (size * header_of m ds type)
looked m ds structs (struct type) = option_map_or (slice_index structs) (declaration_number ds type) (standard_size m type)
looked m ds structs _ = of_other m

-- fields together, and a struct of the type that the declaration with a number declares

abbrev pub looked_fields : Measure → List Decl16 → List ℕ → List FieldKind → ℕ
looked_fields m ds structs fields = up_to (sum_by (λ f. looked m ds structs f.kind) fields)

abbrev pub looked_struct : Measure → List Decl16 → List ℕ → Decl16 → ℕ
looked_struct m ds structs d = looked_fields m ds structs (fields_in (layouts_of ds) (declared_name d))

abbrev pub looked_at : Measure → List Decl16 → List ℕ → ℕ → ℕ
looked_at m ds structs number = option_map_or (looked_struct m ds structs) (slice_get ds number) 0
