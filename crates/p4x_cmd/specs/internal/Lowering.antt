-- The program of the one-table form of P4_16 that a program of the one-table form of P4_14 becomes (this project's
-- own).
use Rattle.std.specs.Prelude.{◌++◌, map, codes}
use Rattle.p414_one_table.specs.declared.program.Field.{Field}
use Rattle.p414_one_table.specs.declared.program.OneTable14.{OneTable14}
use Rattle.one_table_text.specs.declared.one_table.OneTable16.{OneTable16}

-- `f_` in front keeps every field's name from being a reserved word of P4_16
abbrev pub lowered_field : Field → Field
lowered_field f = record { name = codes "f_" ++ f.name; width = f.width }

-- the action and the table keep their names for the control plane
abbrev pub lowered : OneTable14 → OneTable16
lowered p = record { fields = map lowered_field p.fields; action = p.action; port = p.port; table = p.table }
