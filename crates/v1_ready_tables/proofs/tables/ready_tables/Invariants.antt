use Rattle.std.proofs.Common.{◌≡◌, All, drop}
use Rattle.p416_scopes.specs.Seen.{seen_scope}
use Rattle.v1_ready_program.specs.Seen.{seen_seats}
use Rattle.v1_ready_nodes.specs.Held.{Grows}
use Rattle.v1_ready_statements.specs.Blocks.{all_of}
use Rattle.v1_ready_bodies.specs.Fronts.{in_front}
use Rattle.v1_ready_tables.specs.Seen.{seen_tables, IsTableIn}
use Rattle.v1_ready_tables.specs.Tables.{table_by}
use Rattle.v1_ready_tables.proofs.tables.ready_tables.Given as goal

abbrev pub invariant-loop-table : goal.invariant-loop-table
invariant-loop-table l = record {
  tables : in_front (seen_tables l.nodes l.rows) (all_of (λ table. table_by l.names (seen_scope l.scope) (seen_seats l.keys.seats.now) table.now) (drop l.table-index l.tables)) ≡ all_of (λ table. table_by l.names (seen_scope l.scope) (seen_seats l.keys.seats.now) table.now) l.tables;
  within : All (IsTableIn l.nodes) l.rows;
  grows : Grows l.fn.nodes l.nodes;
}
