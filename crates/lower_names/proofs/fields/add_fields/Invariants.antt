use Rattle.std.proofs.Common.{◌≡◌, ◌++◌, drop}
use Rattle.lower_names.specs.FieldNames.{field_names_from}
use Rattle.lower_names.proofs.fields.add_fields.Given as goal

abbrev pub invariant-loop-i : goal.invariant-loop-i
invariant-loop-i l = l.found ++ field_names_from l.instance l.i (drop l.i l.fields) ≡ l.fn.found ++ field_names_from l.instance 0 l.fields
