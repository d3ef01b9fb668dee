use Rattle.std.proofs.Common.{◌≡◌}
use Rattle.name_numbers.specs.Names.{find_name}
use Rattle.p416_syntax.specs.Expressions.{argument_count}
use Rattle.p416_scopes.specs.Seen.{seen_scope}
use Rattle.v1_ready_program.specs.Seen.{seen_seats}
use Rattle.v1_ready_nodes.specs.Held.{Grows}
use Rattle.v1_ready_statements.specs.Given.{join_option}
use Rattle.v1_ready_tests.specs.Items.{items_by}
use Rattle.v1_ready_tests.specs.Seen.{seen_arguments, AreArgumentsIn}
use Rattle.v1_ready_tests.proofs.arguments.items_before.Given as goal

abbrev pub invariant-loop-before : goal.invariant-loop-before
invariant-loop-before l = record {
  joined :
      join_option (items_by (seen_scope l.around.scope.now) (seen_seats l.around.seats.now) (find_name l.tables) l.left) (seen_arguments l.nodes l.found)
      ≡ join_option (items_by (seen_scope l.around.scope.now) (seen_seats l.around.seats.now) (find_name l.tables) l.fn.items) (seen_arguments l.fn.nodes l.fn.rest);
  within : AreArgumentsIn l.nodes l.found;
  grows : Grows l.fn.nodes l.nodes;
}

abbrev pub decreases-loop-before : goal.decreases-loop-before
decreases-loop-before l = argument_count l.left
