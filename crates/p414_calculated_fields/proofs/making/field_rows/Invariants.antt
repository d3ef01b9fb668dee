use Rattle.std.proofs.Common.{◌≡◌, ◌++◌, map, drop}
use Rattle.p414_syntax.specs.Lists.{calculated_fields}
use Rattle.p414_calculated_fields.specs.Rows.{field_row}
use Rattle.p414_calculated_fields.proofs.making.field_rows.Given as goal

abbrev pub invariant-loop-decl : goal.invariant-loop-decl
invariant-loop-decl l = l.rows ++ map (field_row l.slots) (calculated_fields (drop l.decl-index l.decls)) ≡ map (field_row l.slots) (calculated_fields l.decls)
