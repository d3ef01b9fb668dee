use Rattle.std.proofs.Common.{◌≡◌, Some, option_map, sym, ap, subst, ◌∙◌}
use Rattle.std.specs.Prelude.{IfSome}
use Rattle.p416_scopes.specs.Seen.{seen_scope}
use Rattle.v1_ready_program.specs.Seen.{seen_seats}
use Rattle.v1_ready_nodes.proofs.Growing.{grows_further}
use Rattle.v1_ready_tables.specs.Seen.{seen_table, IsTableIn}
use Rattle.v1_ready_tables.specs.Tables.{table_by}
use Rattle.v1_ready_bodies.proofs.Grown.{all_more, grown_more}
use Rattle.v1_ready_tables.proofs.Keeping.{table_kept, table_wider}
use Rattle.v1_ready_tables.proofs.tables.ready_tables.Goals as goal

pub loop-table-preserved : goal.loop-table-preserved
loop-table-preserved c =
    let h = c.loop-table.nodes in
    let g = c.ready_table.new.nodes in
    let grows = c.in_ok-row.ensures.grows in
    let row = c.in-Some.row in
    let is : Some (seen_table g row) ≡ table_by c.args.names (seen_scope c.args.scope.now) (seen_seats c.args.keys.seats.now) c.table-item.result.now = sym (ap (option_map (seen_table g)) c.in-Some.is) ∙ c.in_ok-row.ensures.table in
    let here : IsTableIn g row = subst (λ v. IfSome v (IsTableIn g)) c.in-Some.is c.in_ok-row.ensures.within in
    record {
      tables = grown_more seen_table IsTableIn h g (table_kept h g grows) (table_wider h g grows) (λ table. table_by c.args.names (seen_scope c.args.scope.now) (seen_seats c.args.keys.seats.now) table.now) c.args.tables.now c.loop-table.table-index c.table-item.result c.loop-table-test.true c.table-item.is c.loop-table.rows row _ _ c.in_ok-push-in-Some.ensures.ok c.loop-table.invariant.within is c.loop-table.invariant.tables;
      within = all_more seen_table IsTableIn h g (table_kept h g grows) (table_wider h g grows) c.loop-table.rows row _ c.in_ok-push-in-Some.ensures.ok c.loop-table.invariant.within here;
      grows = grows_further c.args.nodes.now h g c.loop-table.invariant.grows grows;
    }
