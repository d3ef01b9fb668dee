-- What is kept of calculated fields (P4_14 1.0.5, "Checksums and Hash-value Generators"): names stand by number, and the entries
-- of each use by themselves, in order.
use Rattle.std.specs.Prelude.{List, filter, map, Option, Some, None}
use Rattle.p414_syntax.specs.declared.calculations.CalcCond.{CalcCond}
use Rattle.p414_syntax.specs.declared.calculations.CalcCond.TheVariants as calc_cond
use Rattle.p414_syntax.specs.declared.calculations.Calc.{Calc}
use Rattle.p414_syntax.specs.declared.calculations.CalculatedField.{CalculatedField}
use Rattle.p414_syntax.specs.declared.syntax.Decl.{Decl}
use Rattle.p414_syntax.specs.Lists.{calculated_fields, is_update, is_verify}
use Rattle.p414_sem.specs.Slots.{slot_of, Element, element_of}
use Rattle.p414_slots.specs.Shown.{kept_slot}
use Rattle.p414_ready_actions.specs.Words.{calculation_number}
use Rattle.p414_calculated_fields.specs.declared.rows.EntryTest.{EntryTest}
use Rattle.p414_calculated_fields.specs.declared.rows.EntryTest.TheVariants as test
use Rattle.p414_calculated_fields.specs.declared.rows.EntryRow.{EntryRow}
use Rattle.p414_calculated_fields.specs.declared.rows.CalculatedRow.{CalculatedRow}

abbrev pub element_test : Element → EntryTest
element_test at = test.Valid at.instance at.element

abbrev pub condition_test : List Decl → CalcCond → EntryTest
condition_test ds (calc_cond.Valid i) = element_test (element_of ds i)
condition_test ds (calc_cond.Equal r n) = test.Equal (kept_slot (slot_of ds r)) n.value

abbrev pub entry_test : List Decl → Option CalcCond → EntryTest
entry_test ds None = test.Always
entry_test ds (Some c) = condition_test ds c

abbrev pub entry_row : List Decl → Calc → EntryRow
entry_row ds c = record { test = entry_test ds c.condition; calculation = calculation_number ds c.calculation }

abbrev pub field_row : List Decl → CalculatedField → CalculatedRow
field_row ds f = record {
  slot = kept_slot (slot_of ds f.field);
  verify = map (entry_row ds) (filter is_verify f.entries);
  update = map (entry_row ds) (filter is_update f.entries);
}

-- the calculated fields of a program, in the order of declaration
abbrev pub field_rows : List Decl → List CalculatedRow
field_rows ds = map (field_row ds) (calculated_fields ds)
