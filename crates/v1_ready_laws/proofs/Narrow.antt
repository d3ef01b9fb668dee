-- Where no size is left, no field of a type is wider than 128 bits, and each has a width of its own.
use Rattle.std.proofs.Common.{◌≡◌, ℕ, ◌≤◌, nat_lt, Bool, true, false, cond, Some, None, List, [], ◌∷◌, ◌++◌, map, flat_map, refl, arith}
use Rattle.std.specs.List.{list_any}
use Rattle.std.specs.Str.{bytes_eq}
use Rattle.std.proofs.lemmas.Bool.{ltb-false}
use Rattle.p416_syntax.specs.declared.lexeme.Literal16.{Literal16}
use Rattle.p416_syntax.specs.declared.parts.Type16.{Type16}
use Rattle.p416_syntax.specs.declared.parts.Type16.TheVariants.{Bit, Bool as BoolType, Named}
use Rattle.p416_syntax.specs.declared.parts.BitField.{BitField}
use Rattle.p416_syntax.specs.declared.parts.StructField.{StructField}
use Rattle.p416_syntax.specs.declared.controls.Instance.{Instance}
use Rattle.p416_syntax.specs.declared.controls.Instance.TheVariants as instance
use Rattle.p416_syntax.specs.declared.program.Decl16.{Decl16}
use Rattle.p416_syntax.specs.declared.program.Decl16.TheVariants as decl
use Rattle.p416_syntax.specs.declared.program.Syntax16.{Syntax16}
use Rattle.p416_syntax.specs.Names.{Name}
use Rattle.p416_syntax.specs.Kinds.{Kind, bits, unsized, boolean, error_code, header, stack, struct, packet_in, packet_out, errors, enumeration, one_of, table, applied, object, items, nothing, unknown, is_unsized}
use Rattle.p416_syntax.specs.Scopes.{Layout as TypeLayout, FieldKind, fields_in, Sort, a_type, a_value, an_enumeration, a_function, an_object, an_action, a_table, a_state, a_block, undeclared, Known, known, Scope, sort_in, type_sort, stack_kind, kind_of_type}
use Rattle.p416_syntax.specs.Totals.{bits_in}
use Rattle.p416_syntax.specs.BuiltIn.{functions, built_in, standard_layout}
use Rattle.p416_syntax.specs.Uses.{TypePlace, of_field, type_uses, a_header}
use Rattle.p416_syntax.specs.Sizes.{is_bad_width, leaves_size}
use Rattle.p416_syntax.specs.Declarations.{instance_sort, top_name, top_names, bit_field, struct_field, layout_in, layouts_of, field_width, note_uses, struct_field_uses, declaration_uses}
use Rattle.p416_syntax.specs.Breaks.{scope_of, uses_in, program_uses}
use Rattle.v1_ready_laws.specs.Widths.{FieldsNarrow, TypesNarrow}
use Rattle.v1_ready_laws.specs.Kinds.{FieldsSized, TypesSized}
use Rattle.v1_ready_laws.proofs.Rules.{second_false, front_none, rest_none, first_false}

-- a kind of at most 128 bits, which has a width of its own
abbrev pub IsPlain : Kind → Type 0
IsPlain k = (bits_in k ≤ 128) × (is_unsized k ≡ false)

abbrev ArePlain : List FieldKind → Type 0
ArePlain [] = Unit {0}
ArePlain (f ∷ fields) = IsPlain f.kind × ArePlain fields

abbrev LayoutsPlain : List TypeLayout → Type 0
LayoutsPlain [] = Unit {0}
LayoutsPlain (l ∷ layouts) = ArePlain l.fields × LayoutsPlain layouts

plain_found : (layouts : List TypeLayout) (type : Name) → LayoutsPlain layouts → ArePlain (fields_in layouts type)
plain_found [] type plain = tt
plain_found (l ∷ layouts) type plain = by (bytes_eq l.called type) (plain_found layouts type plain.1) where
  by : (b : Bool) → ArePlain (fields_in layouts type) → ArePlain (cond b l.fields (fields_in layouts type))
  by true rest = plain.0
  by false rest = rest

narrow_fields : (fields : List FieldKind) → ArePlain fields → FieldsNarrow fields
narrow_fields [] plain = tt
narrow_fields (f ∷ fields) plain = (plain.0.0, narrow_fields fields plain.1)

sized_fields : (fields : List FieldKind) → ArePlain fields → FieldsSized fields
sized_fields [] plain = tt
sized_fields (f ∷ fields) plain = (plain.0.1, sized_fields fields plain.1)

joined_plain : (front back : List TypeLayout) → LayoutsPlain front → LayoutsPlain back → LayoutsPlain (front ++ back)
joined_plain [] back x y = y
joined_plain (l ∷ front) back x y = (x.0, joined_plain front back x.1 y)

-- what names declare as types

abbrev pub SortPlain : Sort → Type 0
SortPlain (a_type k) = IsPlain k
SortPlain sort = Unit {0}

abbrev pub AllPlain : List Known → Type 0
AllPlain [] = Unit {0}
AllPlain (k ∷ names) = SortPlain k.sort × AllPlain names

found_plain : (names : List Known) (text : Name) → AllPlain names → SortPlain (sort_in names text)
found_plain [] text plain = tt
found_plain (k ∷ names) text plain = by (bytes_eq k.called text) (found_plain names text plain.1) where
  by : (b : Bool) → SortPlain (sort_in names text) → SortPlain (cond b k.sort (sort_in names text))
  by true rest = plain.0
  by false rest = rest

pub small : 0 ≤ 128
small = omega arith

sort_type : (sort : Sort) → SortPlain sort → IsPlain (type_sort sort)
sort_type (a_type k) plain = plain
sort_type (a_value k can) plain = (small, refl)
sort_type (an_enumeration enum) plain = (small, refl)
sort_type a_function plain = (small, refl)
sort_type (an_object kind) plain = (small, refl)
sort_type (an_action plane handed) plain = (small, refl)
sort_type (a_table actions counters) plain = (small, refl)
sort_type a_state plain = (small, refl)
sort_type a_block plain = (small, refl)
sort_type undeclared plain = (small, refl)

stack_plain : (size : ℕ) (k : Kind) → IsPlain (stack_kind size k)
stack_plain size (header type) = (small, refl)
stack_plain size (bits width) = (small, refl)
stack_plain size unsized = (small, refl)
stack_plain size boolean = (small, refl)
stack_plain size error_code = (small, refl)
stack_plain size (stack type many) = (small, refl)
stack_plain size (struct type) = (small, refl)
stack_plain size packet_in = (small, refl)
stack_plain size packet_out = (small, refl)
stack_plain size errors = (small, refl)
stack_plain size (enumeration enum) = (small, refl)
stack_plain size (one_of enum) = (small, refl)
stack_plain size table = (small, refl)
stack_plain size applied = (small, refl)
stack_plain size (object kind) = (small, refl)
stack_plain size items = (small, refl)
stack_plain size nothing = (small, refl)
stack_plain size unknown = (small, refl)

pub instance_plain : (i : Instance) → SortPlain (instance_sort i)
instance_plain (instance.Counter size m text) = tt
instance_plain (instance.DirectCounter m text) = tt
instance_plain (instance.Register width size text) = tt
instance_plain (instance.Meter size m text) = tt

functions_plain : (names : List Name) → AllPlain (map (known a_function) names)
functions_plain [] = tt
functions_plain (text ∷ names) = (tt, functions_plain names)

built_plain : AllPlain built_in
built_plain = ((small, refl), ((small, refl), ((small, refl), (tt, (tt, (tt, (tt, functions_plain functions)))))))

pub top_plain : (ds : List Decl16) → AllPlain (map top_name ds ++ built_in)
top_plain [] = built_plain
top_plain (decl.Header h ∷ ds) = ((small, refl), top_plain ds)
top_plain (decl.Struct x ∷ ds) = ((small, refl), top_plain ds)
top_plain (decl.Instance notes i ∷ ds) = (instance_plain i, top_plain ds)
top_plain (decl.Parser p ∷ ds) = (tt, top_plain ds)
top_plain (decl.Control c ∷ ds) = (tt, top_plain ds)

-- fields

width_small : (n : Literal16) → is_bad_width n ≡ false → n.value ≤ 128
width_small n kept = ltb-false 128 n.value (second_false (nat_lt n.value 1) (nat_lt 128 n.value) kept)

bit_fields_plain : (fields : List BitField) → list_any leaves_size (map field_width fields) ≡ false → ArePlain (map bit_field fields)
bit_fields_plain [] kept = tt
bit_fields_plain (f ∷ fields) kept = (
  (width_small f.width (first_false (is_bad_width f.width) (list_any leaves_size (map field_width fields)) kept), refl),
  bit_fields_plain fields (second_false (is_bad_width f.width) (list_any leaves_size (map field_width fields)) kept),
)

pub type_plain : (names : List Known) (s : Scope) (place : TypePlace) (of : Type16) → AllPlain names → list_any leaves_size (type_uses s place of) ≡ false → IsPlain (kind_of_type names of)
type_plain names s place (Bit w) plain kept = (width_small w (first_false (is_bad_width w) false kept), refl)
type_plain names s place BoolType plain kept = (small, refl)
type_plain names s place (Named text None) plain kept = sort_type (sort_in names text) (found_plain names text plain)
type_plain names s place (Named text (Some size)) plain kept = stack_plain size.value (type_sort (sort_in names text))

struct_fields_plain : (names : List Known) (s : Scope) (fields : List StructField) → AllPlain names → list_any leaves_size (flat_map (struct_field_uses s) fields) ≡ false → ArePlain (map (struct_field names) fields)
struct_fields_plain names s [] plain kept = tt
struct_fields_plain names s (f ∷ fields) plain kept = (
  type_plain names s of_field f.of plain (rest_none leaves_size (note_uses f.notes) (type_uses s of_field f.of) (front_none leaves_size (struct_field_uses s f) (flat_map (struct_field_uses s) fields) kept)),
  struct_fields_plain names s fields plain (rest_none leaves_size (struct_field_uses s f) (flat_map (struct_field_uses s) fields) kept),
)

declared_plain : (names : List Known) (s : Scope) (d : Decl16) → AllPlain names → list_any leaves_size (declaration_uses s d) ≡ false → LayoutsPlain (layout_in names d)
declared_plain names s (decl.Header h) plain kept =
    (bit_fields_plain h.fields (second_false (leaves_size (a_header h)) (list_any leaves_size (map field_width h.fields)) kept), tt)
declared_plain names s (decl.Struct x) plain kept = (struct_fields_plain names s x.fields plain kept, tt)
declared_plain names s (decl.Instance notes i) plain kept = tt
declared_plain names s (decl.Parser p) plain kept = tt
declared_plain names s (decl.Control c) plain kept = tt

all_plain : (names : List Known) (syntax : Syntax16) (ds : List Decl16) → AllPlain names → list_any leaves_size (flat_map (uses_in syntax) ds) ≡ false → LayoutsPlain (flat_map (layout_in names) ds)
all_plain names syntax [] plain kept = tt
all_plain names syntax (d ∷ ds) plain kept =
    joined_plain (layout_in names d) (flat_map (layout_in names) ds)
    (declared_plain names (scope_of syntax d) d plain (front_none leaves_size (uses_in syntax d) (flat_map (uses_in syntax) ds) kept))
    (all_plain names syntax ds plain (rest_none leaves_size (uses_in syntax d) (flat_map (uses_in syntax) ds) kept))

standard_plain : LayoutsPlain (standard_layout ∷ [])
standard_plain = (((omega arith, refl), ((omega arith, refl), ((omega arith, refl), ((omega arith, refl), ((omega arith, refl), ((small, refl), ((omega arith, refl), tt))))))), tt)

layouts_plain : (syntax : Syntax16) → list_any leaves_size (program_uses syntax) ≡ false → LayoutsPlain (layouts_of syntax.decls)
layouts_plain syntax kept =
    joined_plain (flat_map (layout_in (top_names syntax.decls)) syntax.decls) (standard_layout ∷ [])
    (all_plain (top_names syntax.decls) syntax syntax.decls (top_plain syntax.decls) kept) standard_plain

pub types_kept : (syntax : Syntax16) → list_any leaves_size (program_uses syntax) ≡ false → TypesNarrow (layouts_of syntax.decls) × TypesSized (layouts_of syntax.decls)
types_kept syntax kept = (
  λ type. narrow_fields (fields_in (layouts_of syntax.decls) type) (plain_found (layouts_of syntax.decls) type (layouts_plain syntax kept)),
  λ type. sized_fields (fields_in (layouts_of syntax.decls) type) (plain_found (layouts_of syntax.decls) type (layouts_plain syntax kept)),
)
