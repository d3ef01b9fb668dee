use Rattle.std.proofs.Common.{◌≡◌, ◌++◌, map, drop}
use Rattle.v1_ready_operands.specs.Callees.{table_name}
use Rattle.v1_ready_locals.proofs.own.table_names.Given as goal

abbrev pub invariant-loop-table : goal.invariant-loop-table
invariant-loop-table l = map (λ name. name.now) l.names.items ++ map table_name (map (λ t. t.now) (drop l.table-index l.tables)) ≡ map table_name (map (λ t. t.now) l.tables)
