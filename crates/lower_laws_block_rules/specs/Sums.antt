-- What the rules ask of calculated fields, beside what their meaning asks (this project's own, the limits, too; P4_14
-- 1.0.5, "Checksums and Hash-value Generators", "Field Lists"; `v1model.p4`, `HashAlgorithm`).
use Rattle.std.specs.Prelude.{◌≡◌, ◌≤◌, Bool, true, List, length, filter, unwrap_or}
use Rattle.std.specs.List.{AllByRecursion}
use Rattle.p414_syntax.specs.declared.calculations.Item.{Item}
use Rattle.p414_syntax.specs.declared.calculations.Item.TheVariants as item
use Rattle.p414_syntax.specs.declared.calculations.Calc.{Calc}
use Rattle.p414_syntax.specs.declared.calculations.CalculatedField.{CalculatedField}
use Rattle.p414_syntax.specs.declared.syntax.Decl.{Decl}
use Rattle.p414_sem.specs.Expanded.{Expanded}
use Rattle.p414_sem.specs.Calculations.{calculation_named}
use Rattle.p416_syntax.specs.Names.{has_name}
use Rattle.p416_syntax.specs.Kinds.{hash_algorithm}
use Rattle.p416_syntax.specs.BuiltIn.{members_of}
use Rattle.lower_laws_base.specs.Context.{StateLayout}
use Rattle.lower_laws_controls.specs.Listing.{Each}
use Rattle.lower_laws_sums.specs.Sums.{is_used, FieldFits}
use Rattle.lower_laws_block_rules.specs.Widths.{IsWidth}

-- a number in a list has a width prefix (C8) of 1 to 128 bits (as literals are read)
abbrev pub ItemWide : Item → Type 0
ItemWide (item.Number n) = IsWidth (unwrap_or n.width 0)
ItemWide _ = Unit {0}

-- the algorithm of an entry's calculation is one of P4_16 (C25)
pub record EntryHere (ds : List Decl) (x : Expanded) (c : Calc) : Type 0 where
  pub algorithm : has_name (members_of hash_algorithm) (calculation_named ds x c.calculation).algorithm ≡ true
  pub wide : AllByRecursion ItemWide (calculation_named ds x c.calculation).items

-- a calculated field: its entries, of which at most 16 update and at most 16 verify (C8)
pub record FieldHere (g : StateLayout) (ds : List Decl) (x : Expanded) (updates : Bool) (f : CalculatedField) : Type 0 where
  pub fits : FieldFits g ds x f
  pub entries : Each (EntryHere ds x) f.entries
  pub few : length (filter (is_used updates) f.entries) ≤ 16
