-- Calculated fields: how they are verified and updated (P4_14 1.0.5, "Checksums and Hash-value Generators"; that they are
-- done in the order of declaration is this project's own). Each is done only while its header is valid, by its first
-- entry of that use whose condition holds.
use Rattle.std.specs.Prelude.{ℕ, Bool, true, false, not, ◌&&◌, ◌==◌, if◌then◌else◌, pos, List, [], ◌∷◌, filter, fold, Option, Some, None}
use Rattle.std.specs.List.{list_any}
use Rattle.std.specs.Option.{option_map_or}
use Rattle.p414_syntax.specs.declared.calculations.CalcCond.{CalcCond}
use Rattle.p414_syntax.specs.declared.calculations.CalcCond.TheVariants as calc_cond
use Rattle.p414_syntax.specs.declared.calculations.Calc.{Calc}
use Rattle.p414_syntax.specs.declared.calculations.CalculatedField.{CalculatedField}
use Rattle.p414_syntax.specs.declared.syntax.Decl.{Decl}
use Rattle.p414_syntax.specs.Lists.{calculated_fields, is_update, is_verify}
use Rattle.p414_sem.specs.Wholes.{wrapped}
use Rattle.p414_sem.specs.Slots.{slot_of, field_target, element_of}
use Rattle.p414_sem.specs.State.{State, is_valid_at, read, is_live, written}
use Rattle.p414_sem.specs.Expanded.{Expanded}
use Rattle.p414_sem.specs.Calculations.{calculation_named, result_of}

-- a condition compares whole numbers
abbrev pub condition_holds : List Decl → State → CalcCond → Bool
condition_holds ds s (calc_cond.Valid i) = is_valid_at s (element_of ds i)
condition_holds ds s (calc_cond.Equal r n) = read s (slot_of ds r) == n.value

-- an entry without a condition always holds
abbrev pub entry_holds : List Decl → State → Calc → Bool
entry_holds ds s c = option_map_or (condition_holds ds s) c.condition true

-- the first of these entries whose condition holds
abbrev pub first_holding : List Decl → State → List Calc → Option Calc
first_holding ds s [] = None
first_holding ds s (c ∷ rest) = if entry_holds ds s c then Some c else first_holding ds s rest

abbrev pub entry_result : List Decl → Expanded → State → Calc → ℕ
entry_result ds x s c = result_of ds s (calculation_named ds x c.calculation)

-- p4_pe_checksum: the field isn't what its calculation gives
abbrev pub is_wrong : List Decl → Expanded → State → CalculatedField → Bool
is_wrong ds x s f =
    is_live s (slot_of ds f.field)
    && option_map_or (λ (c : Calc). not (entry_result ds x s c == read s (slot_of ds f.field)))
    (first_holding ds s (filter is_verify f.entries)) false

abbrev pub fails_verification : List Decl → Expanded → State → Bool
fails_verification ds x s = list_any (is_wrong ds x s) (calculated_fields ds)

-- the field becomes what its calculation gives; later fields see it
abbrev pub updated_by : List Decl → Expanded → State → CalculatedField → Option Calc → State
updated_by ds x s f None = s
updated_by ds x s f (Some c) =
    written s (slot_of ds f.field) (wrapped (field_target ds f.field).width (pos (entry_result ds x s c)))

abbrev pub updated_field : List Decl → Expanded → State → CalculatedField → State
updated_field ds x s f =
    if is_live s (slot_of ds f.field) then updated_by ds x s f (first_holding ds s (filter is_update f.entries)) else s

abbrev pub updated : List Decl → Expanded → State → State
updated ds x s = fold (updated_field ds x) s (calculated_fields ds)
