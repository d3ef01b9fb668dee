-- What is written down of a type is found by its name.
use Rattle.std.proofs.Common.{◌≡◌, ℕ, zero, suc, Option, Some, None, List, [], ◌∷◌, ◌++◌, length, map, refl, sym, ap, subst, ◌∙◌, get_or, slice_get, replicate}
use Rattle.std.specs.Option.{option_map}
use Rattle.std.specs.Prelude.{slice_set}
use Rattle.std.specs.Str.{bytes_eq}
use Rattle.std.proofs.lemmas.List.Quantifiers.{position-Some}
use Rattle.std.proofs.lemmas.Option.{slice_get-map}
use Rattle.std.proofs.lemmas.Slice.Eq.{bytes_eq-Decides}
use Rattle.name_numbers.specs.Names.{find_name}
use Rattle.p416_syntax.specs.declared.parts.BitField.{BitField}
use Rattle.p416_syntax.specs.declared.parts.StructField.{StructField}
use Rattle.p416_syntax.specs.Names.{Name}
use Rattle.p416_syntax.specs.Scopes.{Known, FieldKind, fields_in, Layout}
use Rattle.p416_syntax.specs.Declarations.{bit_field, struct_field, field_name, member_name}
use Rattle.p416_names.specs.SeenKinds.{seen_kind}
use Rattle.v1_seats.specs.declared.rows.Row.{Row}
use Rattle.v1_seats.specs.declared.rows.Place.{Place}
use Rattle.v1_seats.specs.declared.laying.Laid.{Laid}
use Rattle.p416_syntax.specs.Kinds.{Kind}
use Rattle.p416_names.specs.declared.kind.Kind.{Kind as CodeKind}
use Rattle.v1_layout.specs.Left.{kind_of_field}
use Rattle.v1_core.specs.Seats.{Form, form_of}
use Rattle.v1_seats.specs.Extents.{form_of_field, forms_in}
use Rattle.v1_seats.specs.internal.Rows.{called_of_field, IsRow, AreRows, IsRowAt, name_at, Written, IsPlace, IsLaid, IsLaidOf, AreStructs, form_of_kind}

-- the names of fields

bits_called : (fields : List BitField) → map field_name fields ≡ map called_of_field (map bit_field fields)
bits_called [] = refl
bits_called (f ∷ fields) = ap (λ ns. f.name ∷ ns) (bits_called fields)

members_called : (top : List Known) (fields : List StructField) → map member_name fields ≡ map called_of_field (map (struct_field top) fields)
members_called top [] = refl
members_called top (f ∷ fields) = ap (λ ns. f.name ∷ ns) (members_called top fields)

pub bits_named : (names : List Name) (fields : List BitField) (whole : List FieldKind) → names ≡ map field_name fields → map bit_field fields ≡ whole → names ≡ map called_of_field whole
bits_named names fields whole are is = are ∙ (bits_called fields ∙ ap (map called_of_field) is)

pub members_named : (top : List Known) (names : List Name) (fields : List StructField) (whole : List FieldKind) → names ≡ map member_name fields → map (struct_field top) fields ≡ whole → names ≡ map called_of_field whole
members_named top names fields whole are is = are ∙ (members_called top fields ∙ ap (map called_of_field) is)

-- the first field with a name

pub place_found : (fields : List FieldKind) (r : Row) (word : Name) (p : Place) → IsRow fields r → find_name r.names word ≡ Some p.number → slice_get r.kinds.items p.number ≡ Some p.kind → IsPlace fields word p
place_found fields r word p row is at = record {
  number = ap (λ ns. find_name ns word) (sym row.names) ∙ is;
  kind =
      ap (λ ks. slice_get ks p.number) (sym row.kinds)
      ∙ (slice_get-map seen_kind r.kinds.items p.number ∙ ap (option_map seen_kind) at);
}

pub place_missing : (fields : List FieldKind) (r : Row) (word : Name) → IsRow fields r → find_name r.names word ≡ None → find_name (map called_of_field fields) word ≡ None
place_missing fields r word row is = ap (λ ns. find_name ns word) (sym row.names) ∙ is

-- the name with the number that was found

named_at : (w : Written) (of : Name) (n : ℕ) → find_name w.names of ≡ Some n → name_at w n ≡ of
named_at w of n is =
    let found = position-Some (bytes_eq of) w.names n [] is in sym ((bytes_eq-Decides of (name_at w n)).0 found.1)

pub row_named : (w : Written) (of : Name) (n : ℕ) (r : Row) → find_name w.names of ≡ Some n → IsRowAt w n r → IsRow (fields_in w.types of) r
row_named w of n r is row = subst (λ name. IsRow (fields_in w.types name) r) (named_at w of n is) row

-- what stands in a list of rows
pub row_at : (types : List Layout) (names : List Name) (rows : List Row) (n : ℕ) (r : Row) → AreRows types names rows → slice_get rows n ≡ Some r → IsRow (fields_in types (get_or names n [])) r
row_at types [] [] n r all is = absurd (cc is)
row_at types [] (x ∷ rows) n r all is = absurd all
row_at types (name ∷ names) [] n r all is = absurd all
row_at types (name ∷ names) (x ∷ rows) zero r all is = let same : x ≡ r = cc is in subst (λ y. IsRow (fields_in types name) y) same all.0
row_at types (name ∷ names) (x ∷ rows) (suc n) r all is = row_at types names rows n r all.1 is

pub one_row_more : (types : List Layout) (names : List Name) (rows : List Row) (name : Name) (r : Row) → AreRows types names rows → IsRow (fields_in types name) r → AreRows types (names ++ name ∷ []) (rows ++ r ∷ [])
one_row_more types [] [] name r all is = (is, tt)
one_row_more types [] (x ∷ rows) name r all is = absurd all
one_row_more types (m ∷ names) [] name r all is = absurd all
one_row_more types (m ∷ names) (x ∷ rows) name r all is = (all.0, one_row_more types names rows name r all.1 is)

-- structs

struct_at : (types : List Layout) (names : List Name) (laid : List (Option Laid)) (n : ℕ) (l : Laid) → AreStructs types names laid → slice_get laid n ≡ Some (Some l) → IsLaid types (forms_in types (get_or names n [])) l
struct_at types [] [] n l all is = absurd (cc is)
struct_at types [] (x ∷ laid) n l all is = absurd all
struct_at types (name ∷ names) [] n l all is = absurd all
struct_at types (name ∷ names) (x ∷ laid) zero l all is = let same : x ≡ Some l = cc is in subst (IsLaidOf types name) same all.0
struct_at types (name ∷ names) (x ∷ laid) (suc n) l all is = struct_at types names laid n l all.1 is

pub struct_named : (w : Written) (laid : List (Option Laid)) (of : Name) (n : ℕ) (l : Laid) → AreStructs w.types w.names laid → find_name w.names of ≡ Some n → slice_get laid n ≡ Some (Some l) → IsLaid w.types (forms_in w.types of) l
struct_named w laid of n l all is at =
    subst (λ name. IsLaid w.types (forms_in w.types name) l) (named_at w of n is) (struct_at w.types w.names laid n l all at)

pub struct_put : (types : List Layout) (names : List Name) (laid : List (Option Laid)) (n : ℕ) (l : Laid) → AreStructs types names laid → IsLaid types (forms_in types (get_or names n [])) l → AreStructs types names (slice_set laid n (Some l))
struct_put types [] [] zero l all is = tt
struct_put types [] [] (suc n) l all is = tt
struct_put types [] (x ∷ laid) n l all is = absurd all
struct_put types (name ∷ names) [] n l all is = absurd all
struct_put types (name ∷ names) (x ∷ laid) zero l all is = (is, all.1)
struct_put types (name ∷ names) (x ∷ laid) (suc n) l all is = (all.0, struct_put types names laid n l all.1 is)

pub none_laid : (types : List Layout) (names : List Name) → AreStructs types names (replicate (length names) None)
none_laid types [] = tt
none_laid types (name ∷ names) = (tt, none_laid types names)

-- the forms of members by their kinds
pub forms_named : (kinds : List CodeKind) (fields : List FieldKind) → map seen_kind kinds ≡ map kind_of_field fields → map form_of_kind kinds ≡ map form_of_field fields
forms_named [] [] e = refl
forms_named [] (f ∷ fields) e = absurd (cc e)
forms_named (k ∷ kinds) [] e = absurd (cc e)
forms_named (k ∷ kinds) (f ∷ fields) e =
    let first : seen_kind k ≡ f.kind = cc e in
    let rest : map seen_kind kinds ≡ map kind_of_field fields = cc e in
    ap (λ (y : Kind). form_of y ∷ map form_of_kind kinds) first ∙ ap (λ (r : List Form). form_of f.kind ∷ r) (forms_named kinds fields rest)
