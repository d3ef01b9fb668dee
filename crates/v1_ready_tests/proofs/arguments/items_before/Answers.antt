use Rattle.std.proofs.Common.{[], ◌∷◌, option_map, sym, ap, ◌∙◌}
use Rattle.name_numbers.specs.Names.{find_name}
use Rattle.p416_syntax.specs.Calls.{any_bits}
use Rattle.p416_scopes.specs.Seen.{seen_scope}
use Rattle.v1_ready_blocks.specs.Arguments.{an_item}
use Rattle.v1_ready_program.specs.Seen.{seen_seats}
use Rattle.v1_ready_nodes.proofs.Growing.{grows_further}
use Rattle.v1_ready_statements.specs.Tested.{ready_test}
use Rattle.v1_ready_statements.specs.Given.{join_option}
use Rattle.v1_ready_tests.specs.Items.{items_by}
use Rattle.v1_ready_tests.specs.Seen.{seen_arguments}
use Rattle.v1_ready_tests.proofs.Arguing.{join_further}
use Rattle.v1_ready_tests.proofs.arguments.items_before.Goals as goal

pub loop-before-preserved : goal.loop-before-preserved
loop-before-preserved c =
    let s = seen_scope c.args.around.scope.now in
    let seats = seen_seats c.args.around.seats.now in
    let tables = find_name c.args.tables.now in
    let before = items_by s seats tables c.in-Argument.before in
    let item = option_map (λ t. an_item t ∷ []) (ready_test s seats tables any_bits c.in-Argument.last) in
    let behind = seen_arguments c.loop-before.nodes c.loop-before.found in
    record {
      joined =
          ap (join_option before) c.in_ok-found.ensures.arguments
          ∙ (sym (join_further before item behind)
          ∙ (ap (λ e. join_option (items_by s seats tables e) behind) (sym c.in-Argument.ensures) ∙ c.loop-before.invariant.joined));
      within = c.in_ok-found.ensures.within;
      grows = grows_further c.args.nodes.now c.loop-before.nodes c.item_before.new.nodes c.loop-before.invariant.grows c.in_ok-found.ensures.grows;
    }
