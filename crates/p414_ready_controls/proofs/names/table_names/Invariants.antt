use Rattle.std.proofs.Common.{◌≡◌, map, take}
use Rattle.p414_syntax.specs.References.{referred}
use Rattle.p414_ready_controls.specs.Nodes.{table_name}
use Rattle.p414_ready_controls.proofs.names.table_names.Given as goal

abbrev pub invariant-loop-table : goal.invariant-loop-table
invariant-loop-table l = map referred l.names.items ≡ map table_name (take l.table-index l.tables)
