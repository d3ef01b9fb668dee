-- Field lists as bits, and calculations over them (P4_14 1.0.5, "Field Lists", "Checksums and Hash-value Generators").
use Rattle.std.specs.Prelude.{ℕ, ◌%◌, ◌^◌, Bool, if◌then◌else◌, List, [], flat_map, codes, unwrap_or}
use Rattle.std.specs.Option.{option_map_or}
use Rattle.std.specs.Str.{bytes_eq}
use Rattle.p4x_bits.specs.BitLists.{bits, octet_bits}
use Rattle.calc_core.specs.Calculations.{csum16, crc16, crc32, identity}
use Rattle.p414_syntax.specs.declared.calculations.Item.{Item}
use Rattle.p414_syntax.specs.declared.calculations.Item.TheVariants as item
use Rattle.p414_syntax.specs.declared.calculations.FieldListCalculation.{FieldListCalculation}
use Rattle.p414_syntax.specs.declared.syntax.Decl.{Decl}
use Rattle.p414_syntax.specs.Names.{Name}
use Rattle.p414_syntax.specs.Expansion.{list_number}
use Rattle.p414_syntax.specs.Lists.{calculation_of}
use Rattle.p414_sem.specs.Slots.{slot_of, bits_of_ref}
use Rattle.p414_sem.specs.State.{State, read}
use Rattle.p414_sem.specs.Expanded.{Expanded, items_in_list}

-- the bits of one item; an expanded list has no instances, but their fields
abbrev pub item_bits : List Decl → State → Item → List Bool
item_bits ds s item.Payload = octet_bits s.unparsed
item_bits ds s (item.Number n) = bits (unwrap_or n.width 0) n.value
item_bits ds s (item.Field r) = bits (bits_of_ref ds r) (read s (slot_of ds r))
item_bits ds s (item.Instance i) = []

-- the bits of the items of an expanded list, item after item; `payload` is the octets that aren't parsed
abbrev pub list_bits : List Decl → State → List Item → List Bool
list_bits ds s items = flat_map (item_bits ds s) items

-- the items of the list with this name
abbrev pub items_named : List Decl → Expanded → Name → List Item
items_named ds x name = option_map_or (items_in_list x) (list_number ds name) []

-- a calculation with the items of its input, joined in order
pub record Calculation : Type 0 where
  pub items : List Item
  pub algorithm : Name
  pub width : ℕ

abbrev pub no_calculation : Calculation
no_calculation = record { items = []; algorithm = codes "identity"; width = 0 }

abbrev pub joined_calculation : List Decl → Expanded → FieldListCalculation → Calculation
joined_calculation ds x c =
    record { items = flat_map (items_named ds x) c.input; algorithm = c.algorithm; width = c.output_width.value }

-- the calculation with this name
abbrev pub calculation_named : List Decl → Expanded → Name → Calculation
calculation_named ds x name = option_map_or (joined_calculation ds x) (calculation_of ds name) no_calculation

-- the algorithm with this name; any other name is left out
abbrev pub summed : Name → List Bool → ℕ
summed name list =
    if bytes_eq name (codes "csum16") then csum16 list
    else if bytes_eq name (codes "crc16") then crc16 list
    else if bytes_eq name (codes "crc32") then crc32 list
    else identity list

-- the result, of as many bits as the calculation gives
abbrev pub result_of : List Decl → State → Calculation → ℕ
result_of ds s c = summed c.algorithm (list_bits ds s c.items) % 2 ^ c.width
