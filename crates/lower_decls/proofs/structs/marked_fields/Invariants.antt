use Rattle.std.proofs.Common.{◌≡◌, ◌++◌, map, drop}
use Rattle.lower_rows.specs.Named.{named_field}
use Rattle.lower_decls.specs.Tops.{marked_from}
use Rattle.lower_decls.proofs.structs.marked_fields.Given as goal

abbrev pub invariant-loop-i : goal.invariant-loop-i
invariant-loop-i l = l.found ++ marked_from l.marks l.i (map named_field (drop l.i l.fields)) ≡ marked_from l.marks 0 (map named_field l.fields)
