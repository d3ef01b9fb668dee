use Rattle.std.proofs.Common.{map, ap, sym, subst}
use Rattle.std.specs.Prelude.{option_to_list}
use Rattle.name_numbers.specs.Names.{find_name}
use Rattle.p416_syntax.specs.Declarations.{top_names}
use Rattle.p416_scopes.specs.Seen.{seen_scope}
use Rattle.p416_typing.specs.Seen.{seen_row}
use Rattle.v1_ready_program.specs.Seen.{seen_seats}
use Rattle.v1_ready_program.specs.internal.Coded.{seen_ways, seen_asks}
use Rattle.v1_ready_program.proofs.Turning.{rows_turn}
use Rattle.v1_ready_nodes.proofs.Growing.{grows_further}
use Rattle.v1_ready_operands.specs.internal.Coded.{AreFoundIn}
use Rattle.v1_ready_operands.proofs.KeepingSources.{founds_wider, found_behind}
use Rattle.v1_ready_operands.proofs.Seeking.{found_turn}
use Rattle.v1_ready_operands.proofs.found.all_found.Goals as goal

pub next_found-requires-clause-row : goal.next_found-requires-clause-row
next_found-requires-clause-row c =
    let top = top_names c.args.around.scope.now.top.now in
    (rows_turn (seen_scope c.args.around.scope.now) c.args.views.now c.loop-view.view-index c.view-item.result (map (seen_row top) c.loop-view.rows) (seen_row top c.in-Some.row) (map (seen_row top) c.pop.new.self) c.loop-view-test.true c.view-item.is
    (ap (map (seen_row top)) c.in-Some.ensures) c.loop-view.invariant.rows).row_is

pub loop-view-preserved : goal.loop-view-preserved
loop-view-preserved c =
    let s = seen_scope c.args.around.scope.now in
    let top = top_names c.args.around.scope.now.top.now in
    let h = c.loop-view.nodes in
    let g = c.next_found.new.nodes in
    let grows = c.in_ok-found.ensures.grows in
    record {
      found =
          found_turn s (seen_seats c.args.around.seats.now) (find_name c.args.tables.now) h g c.args.views.now c.loop-view.view-index c.view-item.result c.loop-view.founds.items _ c.in_ok-found.found
          (seen_asks (seen_ways c.loop-view.ways) c.loop-view.asks) (seen_asks (seen_ways c.next_found.new.ways) c.next_found.new.asks) _ grows c.loop-view.invariant.within c.loop-view-test.true c.view-item.is
          c.in_ok-put_found.ensures c.in_ok-found.ensures.found c.in_ok-found.ensures.asks c.loop-view.invariant.found;
      rows =
          (rows_turn s c.args.views.now c.loop-view.view-index c.view-item.result (map (seen_row top) c.loop-view.rows) (seen_row top c.in-Some.row) (map (seen_row top) c.pop.new.self) c.loop-view-test.true c.view-item.is
          (ap (map (seen_row top)) c.in-Some.ensures) c.loop-view.invariant.rows).rest_is;
      within =
          subst (AreFoundIn g) (sym c.in_ok-put_found.ensures)
          (found_behind g c.loop-view.founds.items (option_to_list c.in_ok-found.found) (founds_wider h g grows c.loop-view.founds.items c.loop-view.invariant.within) c.in_ok-found.ensures.within);
      grows = grows_further c.args.nodes.now h g c.loop-view.invariant.grows grows;
      ways = c.in_ok-found.ensures.ways;
      asks = c.in_ok-found.ensures.asked;
    }
