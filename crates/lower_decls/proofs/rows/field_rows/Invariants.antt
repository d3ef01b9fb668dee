use Rattle.std.proofs.Common.{◌≡◌, ◌++◌, map, drop}
use Rattle.lower_rows.specs.Named.{named_field}
use Rattle.lower_laws_names.specs.Instances.{named_from}
use Rattle.lower_decls.proofs.rows.field_rows.Given as goal

abbrev pub invariant-loop-i : goal.invariant-loop-i
invariant-loop-i l = map named_field l.found ++ named_from l.i (drop l.i l.fields) ≡ named_from 0 l.fields
