-- The results of calculations by number (P4_14 1.0.5, "Field Lists", "Checksums and Hash-value Generators").
use Rattle.std.specs.Prelude.{ℕ, ◌%◌, ◌^◌, Bool, if◌then◌else◌, List, filter_map, flat_map, slice_get, codes}
use Rattle.std.specs.Option.{option_map_or}
use Rattle.std.specs.Str.{bytes_eq}
use Rattle.calc_core.specs.Calculations.{csum16, crc16, crc32, identity}
use Rattle.p414_syntax.specs.declared.calculations.FieldListCalculation.{FieldListCalculation}
use Rattle.p414_syntax.specs.declared.syntax.Decl.{Decl}
use Rattle.p414_syntax.specs.Names.{Name}
use Rattle.p414_syntax.specs.Expansion.{list_number}
use Rattle.p414_syntax.specs.Lists.{calculation_in}
use Rattle.p414_sem.specs.State.{State}
use Rattle.p414_field_lists.specs.declared.rows.ItemRow.{ItemRow}
use Rattle.p414_field_lists.specs.Rows.{rows_at, rows_bits}
use Rattle.p414_act_run.specs.declared.calculations.Algorithm.{Algorithm}
use Rattle.p414_act_run.specs.declared.calculations.Algorithm.TheVariants as algorithm
use Rattle.p414_act_run.specs.declared.calculations.ReadyCalculation.{ReadyCalculation}
use Rattle.p414_act_run.specs.declared.calculations.Calculations.{Calculations}

abbrev pub summed_by : Algorithm → List Bool → ℕ
summed_by algorithm.Csum16 bits = csum16 bits
summed_by algorithm.Crc16 bits = crc16 bits
summed_by algorithm.Crc32 bits = crc32 bits
summed_by algorithm.Identity bits = identity bits

-- the bits of these lists, one behind the other
abbrev pub list_bits : List (List ItemRow) → State → ℕ → List Bool
list_bits lists s list = rows_bits s (rows_at lists list)

abbrev pub inputs_bits : List (List ItemRow) → State → List ℕ → List Bool
inputs_bits lists s inputs = flat_map (list_bits lists s) inputs

abbrev pub result_by : List (List ItemRow) → State → ReadyCalculation → ℕ
result_by lists s c = summed_by c.algorithm (inputs_bits lists s c.inputs) % 2 ^ c.width

-- the result of the calculation with this number; 0 where there is none
abbrev pub sums_in : Calculations → ℕ → State → ℕ
sums_in c number s = option_map_or (result_by c.lists s) (slice_get c.rows number) 0

-- the calculations of a program

abbrev pub calculations : List Decl → List FieldListCalculation
calculations ds = filter_map calculation_in ds

abbrev pub algorithm_of : Name → Algorithm
algorithm_of name =
    if bytes_eq name (codes "csum16") then algorithm.Csum16
    else if bytes_eq name (codes "crc16") then algorithm.Crc16
    else if bytes_eq name (codes "crc32") then algorithm.Crc32
    else algorithm.Identity

abbrev pub kept_calculation : List Decl → FieldListCalculation → ReadyCalculation
kept_calculation ds c = record {
  inputs = filter_map (list_number ds) c.input;
  algorithm = algorithm_of c.algorithm;
  width = c.output_width.value;
}
