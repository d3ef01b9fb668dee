use Rattle.std.proofs.Common.{ap, ◌∙◌}
use Rattle.p416_syntax.specs.Kinds.{boolean}
use Rattle.p416_syntax.specs.Calls.{value}
use Rattle.p416_scopes.specs.Seen.{seen_scope}
use Rattle.v1_ready_program.specs.Seen.{seen_seats}
use Rattle.v1_ready_statements.specs.Around.{table_found}
use Rattle.v1_ready_statements.specs.Tested.{ready_test}
use Rattle.v1_ready_bodies.proofs.Keeping.{all_wider, branches_kept}
use Rattle.v1_ready_bodies.proofs.joining.make_branches.Goals as goal

pub join_branches-requires-clause-made : goal.join_branches-requires-clause-made
join_branches-requires-clause-made g c = all_wider c.args.nodes.now c.condition.new.nodes c.in_ok-test.ensures.grows c.args.made.now c.requires.made

pub returns-clause-made : goal.returns-clause-made
returns-clause-made g c =
    let tables = table_found (g.S.Singles.block c.args.singles.now) in
    let s = c.args.standing.now in
    let e = c.args.condition.now in
    branches_kept c.args.nodes.now c.condition.new.nodes c.in_ok-test.ensures.grows c.args.made.now _ _ _ c.requires.made
    (c.in_ok-test.ensures.test
    ∙ (ap (λ x. ready_test (seen_scope x) (seen_seats c.around.result.seats.now) tables (value boolean) e) c.around.ensures.scope
    ∙ ap (λ x. ready_test (seen_scope s.scope) (seen_seats x) tables (value boolean) e) c.around.ensures.seats))
    c.in_ok-join_branches.ensures.made
