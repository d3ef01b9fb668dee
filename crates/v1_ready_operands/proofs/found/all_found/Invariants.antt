use Rattle.std.proofs.Common.{◌≡◌, ◌++◌, [], ◌∷◌, length, map, drop}
use Rattle.name_numbers.specs.Names.{find_name}
use Rattle.p416_syntax.specs.Declarations.{top_names}
use Rattle.p416_syntax.specs.Calls.{owner}
use Rattle.p416_scopes.specs.Seen.{seen_scope}
use Rattle.p416_typing.specs.Rows.{row_of}
use Rattle.p416_typing.specs.Seen.{seen_row}
use Rattle.v1_ready_forms.specs.Ways.{its_value}
use Rattle.v1_ready_program.specs.Seen.{seen_seats}
use Rattle.v1_ready_program.specs.internal.Coded.{AreWays, seen_ways, seen_asks, AreAsksIn}
use Rattle.v1_ready_program.specs.internal.Passes.{asked}
use Rattle.v1_ready_nodes.specs.Held.{Grows}
use Rattle.v1_ready_operands.specs.internal.Coded.{seen_founds, AreFoundIn}
use Rattle.v1_ready_operands.specs.internal.SourcePasses.{founds}
use Rattle.v1_ready_operands.proofs.found.all_found.Given as goal

abbrev pub invariant-loop-view : goal.invariant-loop-view
invariant-loop-view l = record {
  found : seen_founds l.nodes l.founds.items ++ founds (seen_scope l.around.scope.now) (seen_seats l.around.seats.now) (find_name l.tables) (seen_asks (seen_ways l.ways) l.asks) (drop l.view-index l.views) ≡ founds (seen_scope l.around.scope.now) (seen_seats l.around.seats.now) (find_name l.tables) (asked owner its_value ∷ []) l.views;
  rows : map (seen_row (top_names l.around.scope.now.top.now)) l.rows ≡ map (row_of (seen_scope l.around.scope.now)) (drop l.view-index l.views);
  within : AreFoundIn l.nodes l.founds.items;
  grows : Grows l.fn.nodes l.nodes;
  ways : AreWays l.ways;
  asks : AreAsksIn (length (seen_ways l.ways)) l.asks;
}
