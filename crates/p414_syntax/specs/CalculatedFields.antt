-- C21: a condition of a calculated field reads a calculated field, its own or another (P4_14 1.0.5, "Checksums and
-- Hash-value Generators"; the rule is this project's own). Two fields are the same where their names and those of
-- their instances are, and an index stands behind neither or the same behind both. `valid` reads no field.
use Rattle.std.specs.Prelude.{Bool, true, false, ◌&&◌, nat_eq, List, Option, Some, None}
use Rattle.std.specs.List.{list_any}
use Rattle.std.specs.Option.{option_map_or}
use Rattle.std.specs.Str.{bytes_eq}
use Rattle.p414_syntax.specs.declared.parts.Index.{Index}
use Rattle.p414_syntax.specs.declared.parts.Index.TheVariants.{At, Next, Last}
use Rattle.p414_syntax.specs.declared.parts.Ref.{Ref}
use Rattle.p414_syntax.specs.declared.calculations.CalcCond.{CalcCond}
use Rattle.p414_syntax.specs.declared.calculations.CalcCond.TheVariants as calc_cond
use Rattle.p414_syntax.specs.declared.calculations.Calc.{Calc}
use Rattle.p414_syntax.specs.declared.calculations.CalculatedField.{CalculatedField}
use Rattle.p414_syntax.specs.declared.syntax.Decl.{Decl}
use Rattle.p414_syntax.specs.Lists.{calculated_fields}

abbrev pub is_same_place : Index → Index → Bool
is_same_place (At m) (At n) = nat_eq m.value n.value
is_same_place Next Next = true
is_same_place Last Last = true
is_same_place _ _ = false

abbrev pub is_same_index : Option Index → Option Index → Bool
is_same_index None None = true
is_same_index (Some i) (Some j) = is_same_place i j
is_same_index _ _ = false

abbrev pub is_same_field : Ref → Ref → Bool
is_same_field r s =
    bytes_eq r.instance.name s.instance.name
    && (is_same_index r.instance.index s.instance.index && bytes_eq r.field s.field)

-- a field that a program calculates
abbrev pub is_field_of : Ref → CalculatedField → Bool
is_field_of r c = is_same_field r c.field

abbrev pub is_calculated : List Decl → Ref → Bool
is_calculated ds r = list_any (is_field_of r) (calculated_fields ds)

abbrev pub reads_calculated : List Decl → CalcCond → Bool
reads_calculated ds (calc_cond.Valid i) = false
reads_calculated ds (calc_cond.Equal r n) = is_calculated ds r

abbrev pub is_calculated_entry : List Decl → Calc → Bool
is_calculated_entry ds c = option_map_or (reads_calculated ds) c.condition false

abbrev pub has_calculated_entry : List Decl → CalculatedField → Bool
has_calculated_entry ds c = list_any (is_calculated_entry ds) c.entries

abbrev pub has_calculated_condition : List Decl → Bool
has_calculated_condition ds = list_any (has_calculated_entry ds) (calculated_fields ds)
