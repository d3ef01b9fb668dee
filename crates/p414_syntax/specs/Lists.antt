-- C8: a field list holds itself, has over 4,096 items when expanded, or has a number without a width prefix; a
-- calculated field isn't a header's field, has over 16 `update` or over 16 `verify` entries, has a calculation whose
-- output width isn't the field's, or reads `standard_metadata`; or all entries of calculated fields together have
-- over 65,536 items (P4_14 1.0.5, "Field Lists", "Checksums and Hash-value Generators"; the limits are this project's
-- own). Each declared list is judged, also one that nothing uses. The joined input of one entry isn't bound by 4,096.
-- A calculated field reads `standard_metadata` in the input of an entry, expanded, or in its condition. A field of
-- width `*` counts as 0 bits, so that no calculation has its width.
use Rattle.std.specs.Prelude.{◌≡◌, ℕ, ◌<◌, ◌⊎◌, Bool, true, false, not, ◌||◌, nat_lt, nat_eq, is_none, IsTrue, List, [], ◌∷◌, length, flat_map, count_by, Option, Some, None, option_and_then}
use Rattle.std.specs.List.{list_any}
use Rattle.std.specs.Option.{option_map_or}
use Rattle.p414_syntax.specs.declared.parts.Ref.{Ref}
use Rattle.p414_syntax.specs.declared.calculations.Item.{Item}
use Rattle.p414_syntax.specs.declared.calculations.Item.TheVariants as item
use Rattle.p414_syntax.specs.declared.calculations.FieldListCalculation.{FieldListCalculation}
use Rattle.p414_syntax.specs.declared.calculations.CalcUse.{CalcUse}
use Rattle.p414_syntax.specs.declared.calculations.CalcUse.TheVariants as calc_use
use Rattle.p414_syntax.specs.declared.calculations.CalcCond.{CalcCond}
use Rattle.p414_syntax.specs.declared.calculations.CalcCond.TheVariants as calc_cond
use Rattle.p414_syntax.specs.declared.calculations.Calc.{Calc}
use Rattle.p414_syntax.specs.declared.calculations.CalculatedField.{CalculatedField}
use Rattle.p414_syntax.specs.declared.syntax.Decl.{Decl}
use Rattle.p414_syntax.specs.declared.syntax.Decl.TheVariants as decl
use Rattle.p414_syntax.specs.declared.syntax.Sort.TheVariants as sort
use Rattle.p414_syntax.specs.Names.{Name, declaration_of}
use Rattle.p414_syntax.specs.Primitives.{is_standard}
use Rattle.p414_syntax.specs.Fields.{is_header, ref_width}
use Rattle.p414_syntax.specs.Walks.{IsCycle}
use Rattle.p414_syntax.specs.Expansion.{items_at, held_by, Expands, Joins}

-- a number without a width prefix stands in a list
abbrev pub is_bare_item : Item → Bool
is_bare_item (item.Number n) = is_none n.width
is_bare_item _ = false

abbrev pub has_bare_number : Decl → Bool
has_bare_number (decl.FieldList x) = list_any is_bare_item x.items
has_bare_number _ = false

-- a list holds itself, through others or directly
abbrev pub HoldsItself : List Decl → Type 0
HoldsItself ds = (l : ℕ) × (between : List ℕ) × IsCycle (held_by ds) l between

-- a list has over 4,096 items when expanded
pub record ListTooLong (ds : List Decl) : Type 0 where
  pub list : ℕ
  pub items : List Item
  pub all : List Item
  pub numbered : items_at ds list ≡ Some items
  pub expands : Expands ds items all
  pub long : 4096 < length all

-- calculated fields: those that a program declares, and their entries

abbrev pub calculated_in : Decl → List CalculatedField
calculated_in (decl.CalculatedField x) = x ∷ []
calculated_in _ = []

abbrev pub calculated_fields : List Decl → List CalculatedField
calculated_fields ds = flat_map calculated_in ds

abbrev pub is_update : Calc → Bool
is_update c = is_to_update c.used_to where
  is_to_update : CalcUse → Bool
  is_to_update calc_use.Update = true
  is_to_update calc_use.Verify = false

abbrev pub is_verify : Calc → Bool
is_verify c = not (is_update c)

-- the calculation with this name
abbrev pub calculation_in : Decl → Option FieldListCalculation
calculation_in (decl.FieldListCalculation x) = Some x
calculation_in _ = None

abbrev pub calculation_of : List Decl → Name → Option FieldListCalculation
calculation_of ds name = option_and_then calculation_in (declaration_of sort.Calculation ds name)

-- the lists of an entry's calculation
abbrev pub input_names : FieldListCalculation → List Name
input_names c = c.input

abbrev pub input_of : List Decl → Calc → List Name
input_of ds c = option_map_or input_names (calculation_of ds c.calculation) []

-- an entry's calculation gives another width than the field has, if both are there
abbrev pub is_other_width : List Decl → Ref → FieldListCalculation → Bool
is_other_width ds field c = option_map_or (λ width. not (nat_eq c.output_width.value width)) (ref_width ds field) false

abbrev pub gives_other_width : List Decl → Ref → Calc → Bool
gives_other_width ds field c = option_map_or (is_other_width ds field) (calculation_of ds c.calculation) false

-- an entry's condition reads `standard_metadata`
abbrev pub condition_reads_standard : CalcCond → Bool
condition_reads_standard (calc_cond.Valid i) = is_standard i.name
condition_reads_standard (calc_cond.Equal r n) = is_standard r.instance.name

abbrev pub is_standard_condition : Calc → Bool
is_standard_condition c = option_map_or condition_reads_standard c.condition false

-- the tests of one calculated field that need no expansion
abbrev pub is_bad_calculated : List Decl → CalculatedField → Bool
is_bad_calculated ds c =
    not (is_header ds c.field.instance.name)
    || (nat_lt 16 (count_by is_update c.entries) || nat_lt 16 (count_by is_verify c.entries))
    || (list_any (gives_other_width ds c.field) c.entries || list_any is_standard_condition c.entries)

-- an item of the expanded input of an entry is a field of `standard_metadata`
abbrev pub is_standard_item : Item → Bool
is_standard_item (item.Field r) = is_standard r.instance.name
is_standard_item _ = false

-- the lists of all entries of calculated fields, entry after entry
abbrev pub inputs_of_field : List Decl → CalculatedField → List Name
inputs_of_field ds c = flat_map (input_of ds) c.entries

abbrev pub all_inputs : List Decl → List Name
all_inputs ds = flat_map (inputs_of_field ds) (calculated_fields ds)

-- all entries together read `standard_metadata`, or have over 65,536 items
abbrev pub is_bad_input : List Item → Bool
is_bad_input items = list_any is_standard_item items || nat_lt 65536 (length items)

abbrev pub InputsAreBad : List Decl → Type 0
InputsAreBad ds = (items : List Item) × Joins ds (all_inputs ds) items × IsTrue (is_bad_input items)

-- what needs no expansion
abbrev pub has_flat_fault : List Decl → Bool
has_flat_fault ds = list_any has_bare_number ds || list_any (is_bad_calculated ds) (calculated_fields ds)

abbrev pub HasBadList : List Decl → Type 0
HasBadList ds = IsTrue (has_flat_fault ds) ⊎ HoldsItself ds ⊎ ListTooLong ds ⊎ InputsAreBad ds
