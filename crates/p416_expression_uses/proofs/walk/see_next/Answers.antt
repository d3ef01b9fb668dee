use Rattle.std.proofs.Common.{◌∙◌}
use Rattle.p416_syntax.specs.Heads.{of_exp_head}
use Rattle.p416_syntax.specs.Declarations.{top_names}
use Rattle.p416_scopes.specs.Seen.{seen_scope}
use Rattle.p416_typing.specs.Seen.{seen_row}
use Rattle.p416_expression_uses.specs.internal.Runs.{seen_spot, seen_spots}
use Rattle.p416_expression_uses.proofs.Running.{run_turn}
use Rattle.p416_expression_uses.proofs.walk.see_next.Goals as goal

pub returns-clause-found : goal.returns-clause-found
returns-clause-found c =
    run_turn (seen_scope c.args.scope.now) (seen_spots (top_names c.args.scope.now.top.now) c.args.spots.now) (seen_spots (top_names c.args.scope.now.top.now) c.take_spot-spot.new.spots)
    (seen_spots (top_names c.args.scope.now.top.now) c.push_parts.new.spots) (seen_spot (top_names c.args.scope.now.top.now) c.take_spot-spot.result)
    (seen_row (top_names c.args.scope.now.top.now) c.take_row-row.result) c.args.view.now (of_exp_head c.head.result) c.args.found.now c.see_itself.new.found
    c.in_ok-push_parts.ensures (c.take_spot-spot.ensures.behind (top_names c.args.scope.now.top.now)) (c.take_spot-spot.ensures.front (top_names c.args.scope.now.top.now))
    c.in_ok-see_itself.ensures c.head.ensures (c.take_row-row.ensures.front (top_names c.args.scope.now.top.now) ∙ c.requires)
