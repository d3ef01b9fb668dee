-- What is found by number is what the names mean.
use Rattle.std.proofs.Common.{◌≡◌, ℕ, Bool, true, false, cond, List, [], map, slice_get, Option, Some, None, option_map, option_and_then, refl, sym, ap, ◌∙◌}
use Rattle.std.specs.Prelude.{sum, unwrap_or}
use Rattle.std.specs.Option.{option_map_or}
use Rattle.std.proofs.lemmas.Option.{slice_get-map, unwrap_or-slice_get}
use Rattle.p414_syntax.specs.declared.parts.Ref.{Ref}
use Rattle.p414_syntax.specs.declared.syntax.Decl.{Decl}
use Rattle.p414_syntax.specs.declared.syntax.Sort.TheVariants as sort
use Rattle.p414_syntax.specs.Views.{HeaderTypeTree}
use Rattle.p414_syntax.specs.Names.{Name, number_of}
use Rattle.p414_syntax.specs.Expansion.{type_fields}
use Rattle.p414_syntax.specs.Fields.{types, type_of, instance_type}
use Rattle.p414_syntax.specs.Primitives.{is_standard}
use Rattle.p414_sem.specs.declared.standard.Standard.{Standard}
use Rattle.p414_sem.specs.Packing.{type_widths, widths_of}
use Rattle.p414_sem.specs.Slots.{Slot, standard, declared_slot, field_number, slot_of, standard_field}
use Rattle.p414_slots.specs.declared.slot.FieldSlot.{FieldSlot}
use Rattle.p414_slots.specs.Shown.{kept_slot}
use Rattle.p414_slots.specs.internal.Found.{AreFound, bits_by, bits_together, fields_at, type_number, number_among, number_in, slot_by, slot_found, type_named}

at_number : (ds : List Decl) (o : Option ℕ) → option_and_then (slice_get (map type_fields (types ds))) o ≡ option_map type_fields (option_and_then (slice_get (types ds)) o)
at_number ds None = refl
at_number ds (Some n) = slice_get-map type_fields (types ds) n

by_type : (ds : List Decl) (o : Option Name) → option_and_then (slice_get (map type_fields (types ds))) (option_and_then (number_of sort.HeaderType ds) o) ≡ option_map type_fields (option_and_then (type_of ds) o)
by_type ds None = refl
by_type ds (Some name) = at_number ds (number_of sort.HeaderType ds name)

found_at : (ds : List Decl) (fields : List (List Name)) (instance : Name) → fields ≡ map type_fields (types ds) → fields_at ds fields instance ≡ option_map type_fields (instance_type ds instance)
found_at ds fields instance e =
    ap (λ l. option_and_then (slice_get l) (option_and_then (number_of sort.HeaderType ds) (type_named ds instance))) e
    ∙ by_type ds (type_named ds instance)

number_by : (o : Option HeaderTypeTree) (field : Name) → option_map_or (λ (l : List Name). number_among l field) (option_map type_fields o) 0 ≡ number_among (option_map_or type_fields o []) field
number_by None field = refl
number_by (Some t) field = refl

field_is : (ds : List Decl) (fields : List (List Name)) (instance field : Name) → fields ≡ map type_fields (types ds) → number_in ds fields instance field ≡ field_number ds instance field
field_is ds fields instance field e =
    ap (λ o. option_map_or (λ (l : List Name). number_among l field) o 0) (found_at ds fields instance e)
    ∙ number_by (instance_type ds instance) field

-- what is found by the fields of all types
pub field_found : (ds view : List Decl) (fields items : List (List Name)) (bits : List ℕ) (of_instances : List Name) (instance field : Name) (n : ℕ) → ds ≡ view → AreFound ds items bits of_instances → fields ≡ items → n ≡ number_in ds fields instance field → n ≡ field_number view instance field
field_found ds view fields items bits of_instances instance field n same found is told =
    told
    ∙ (ap (λ l. number_in ds l instance field) is
    ∙ (field_is ds items instance field found.fields ∙ ap (λ (d : List Decl). field_number d instance field) same))

-- the bits of the fields of an instance

bits_there : (types : List HeaderTypeTree) (o : Option ℕ) → bits_by (map bits_together types) o ≡ sum (option_map_or type_widths (option_and_then (slice_get types) o) [])
bits_there types None = refl
bits_there types (Some n) =
    sym (unwrap_or-slice_get (map bits_together types) n 0)
    ∙ ap (λ (o : Option ℕ). unwrap_or o 0) (slice_get-map bits_together types n)
    ∙ of_type (slice_get types n) where
      of_type : (o : Option HeaderTypeTree) → unwrap_or (option_map bits_together o) 0 ≡ sum (option_map_or type_widths o [])
      of_type None = refl
      of_type (Some t) = refl

bits_named : (ds : List Decl) (o : Option Name) → option_and_then (slice_get (types ds)) (option_and_then (number_of sort.HeaderType ds) o) ≡ option_and_then (type_of ds) o
bits_named ds None = refl
bits_named ds (Some name) = refl

bits_is : (ds : List Decl) (instance : Name) → bits_by (map bits_together (types ds)) (type_number ds instance) ≡ sum (widths_of ds instance)
bits_is ds instance =
    bits_there (types ds) (type_number ds instance)
    ∙ ap (λ (o : Option HeaderTypeTree). sum (option_map_or type_widths o [])) (bits_named ds (type_named ds instance))

pub bits_found : (ds view : List Decl) (items : List (List Name)) (read bits : List ℕ) (of_instances : List Name) (instance : Name) (n : ℕ) → ds ≡ view → AreFound ds items bits of_instances → read ≡ bits → n ≡ bits_by read (type_number ds instance) → n ≡ sum (widths_of view instance)
bits_found ds view items read bits of_instances instance n same found is told =
    told
    ∙ ap (λ (l : List ℕ). bits_by l (type_number ds instance)) (is ∙ found.bits_are)
    ∙ bits_is ds instance
    ∙ ap (λ (d : List Decl). sum (widths_of d instance)) same

-- standard metadata

slot_either : (b : Bool) (o : Option Standard) (d : Slot) → slot_by (cond b o None) d ≡ cond b (option_map_or standard o d) d
slot_either true None d = refl
slot_either true (Some which) d = refl
slot_either false o d = refl

slot_is : (ds : List Decl) (r : Ref) → slot_found ds r ≡ slot_of ds r
slot_is ds r = slot_either (is_standard r.instance.name) (standard_field r.field) (declared_slot ds r)

pub slot_kept : (ds : List Decl) (r : Ref) (slot : FieldSlot) → slot ≡ kept_slot (slot_found ds r) → slot ≡ kept_slot (slot_of ds r)
slot_kept ds r slot is = is ∙ ap kept_slot (slot_is ds r)
