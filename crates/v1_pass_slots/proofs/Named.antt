-- The struct of a name is the first type of that name, where that is a struct.
use Rattle.std.proofs.Common.{◌≡◌, ℕ, Bool, cond, Option, Some, List, [], ◌∷◌, map, filter, slice_get, sym, ap, ◌∙◌, subst, IfSome}
use Rattle.std.specs.Option.{option_and_then, option_map_or}
use Rattle.std.specs.Str.{bytes_eq}
use Rattle.name_numbers.specs.Names.{find_name}
use Rattle.p416_syntax.specs.declared.parts.StructField.{StructField}
use Rattle.p416_syntax.specs.declared.program.Decl16.{Decl16}
use Rattle.p416_syntax.specs.declared.program.Decl16.TheVariants as decl
use Rattle.p416_syntax.specs.Names.{Name}
use Rattle.p416_syntax.specs.Scopes.{fields_in}
use Rattle.p416_syntax.specs.Unknown.{declared_name}
use Rattle.p416_syntax.specs.Declarations.{top_names, layouts_of, struct_field}
use Rattle.p416_names.specs.internal.Tables.{is_type, fields_of}
use Rattle.p416_names.proofs.Found.{first_named, first_step, fields_there}
use Rattle.v1_core.specs.Passes.{struct_called}
use Rattle.v1_core.proofs.Reading.{by_truth}
use Rattle.v1_pass_slots.specs.Found.{IsStruct}
use Rattle.v1_pass_slots.specs.internal.Structs.{HasFields, FieldsAt}

-- the first type of a name, where it is a struct, is the first struct of the name
abbrev IsFirst : List StructField → Decl16 → Type 0
IsFirst fields d = (own : List StructField) → HasFields d own → fields ≡ own

struct_first : (ds : List Decl16) (text : Name) → IfSome (first_named declared_name (filter is_type ds) text) (IsFirst (struct_called ds text))
struct_first [] text = tt
struct_first (decl.Header h ∷ ds) text =
    subst (λ (o : Option Decl16). IfSome o (IsFirst (struct_called ds text))) (sym (first_step declared_name (decl.Header h) (filter is_type ds) text))
    (by_truth (λ (b : Bool). IfSome (cond b (Some (decl.Header h)) (first_named declared_name (filter is_type ds) text)) (IsFirst (struct_called ds text)))
    (λ own has. absurd has) (struct_first ds text) (bytes_eq h.name text))
struct_first (decl.Struct x ∷ ds) text =
    subst (λ (o : Option Decl16). IfSome o (IsFirst (struct_called (decl.Struct x ∷ ds) text))) (sym (first_step declared_name (decl.Struct x) (filter is_type ds) text))
    (by_truth (λ (b : Bool). IfSome (cond b (Some (decl.Struct x)) (first_named declared_name (filter is_type ds) text)) (IsFirst (cond b x.fields (struct_called ds text))))
    (λ own has. has) (struct_first ds text) (bytes_eq x.name text))
struct_first (decl.Instance notes i ∷ ds) text = struct_first ds text
struct_first (decl.Parser p ∷ ds) text = struct_first ds text
struct_first (decl.Control c ∷ ds) text = struct_first ds text

own_kinds : (ds : List Decl16) (d : Decl16) (fields : List StructField) → HasFields d fields → fields_of (top_names ds) d ≡ map (struct_field (top_names ds)) fields
own_kinds ds (decl.Struct x) fields has = ap (map (struct_field (top_names ds))) has
own_kinds ds (decl.Header h) fields has = absurd has
own_kinds ds (decl.Instance notes i) fields has = absurd has
own_kinds ds (decl.Parser p) fields has = absurd has
own_kinds ds (decl.Control c) fields has = absurd has

pub struct_is : (ds types : List Decl16) (names : List Name) (text : Name) (place : ℕ) (fields : List StructField) → names ≡ map declared_name (filter is_type ds) → types ≡ filter is_type ds → find_name names text ≡ Some place → FieldsAt types place fields → IsStruct ds text fields
struct_is ds types names text place fields named typed found at = record {
  called = called;
  kinds = kinds;
} where
  there : find_name (map declared_name (filter is_type ds)) text ≡ Some place
  there = subst (λ (ns : List Name). find_name ns text ≡ Some place) named found

  here : slice_get (filter is_type ds) place ≡ Some at.of
  here = subst (λ (ts : List Decl16). slice_get ts place ≡ Some at.of) typed at.at

  first : first_named declared_name (filter is_type ds) text ≡ Some at.of
  first = ap (option_and_then (slice_get (filter is_type ds))) there ∙ here

  called : struct_called ds text ≡ fields
  called =
      let is : IsFirst (struct_called ds text) at.of = subst (λ (o : Option Decl16). IfSome o (IsFirst (struct_called ds text))) first (struct_first ds text) in is fields at.has

  kinds : fields_in (layouts_of ds) text ≡ map (struct_field (top_names ds)) fields
  kinds =
      sym (fields_there ds text place there) ∙ ap (λ (o : Option Decl16). option_map_or (fields_of (top_names ds)) o []) here ∙ own_kinds ds at.of fields at.has
