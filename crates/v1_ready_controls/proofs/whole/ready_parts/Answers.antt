use Rattle.std.proofs.Common.{◌≡◌, map, option_map, ap, subst, ◌∙◌}
use Rattle.std.specs.Prelude.{IfSome}
use Rattle.p416_scopes.specs.Seen.{seen_scope}
use Rattle.v1_ready_program.specs.Seen.{seen_seats}
use Rattle.v1_ready_nodes.proofs.Growing.{grows_further}
use Rattle.v1_ready_statements.specs.Statements.{ready_of_statement}
use Rattle.v1_ready_statements.specs.Blocks.{all_of, body_ready, parameter_slots}
use Rattle.v1_block_run.specs.Blocks.{seen_parameters}
use Rattle.v1_ready_operands.specs.Callees.{seen_action}
use Rattle.v1_ready_bodies.specs.Seen.{seen_statement}
use Rattle.v1_ready_bodies.specs.Variables.{variables_ready}
use Rattle.v1_ready_tables.specs.Seen.{seen_tables}
use Rattle.v1_ready_tables.specs.Tables.{table_by}
use Rattle.v1_ready_locals.specs.Seen.{seen_bodies}
use Rattle.v1_ready_locals.proofs.Joining.{actions_kept, actions_wider, tables_kept, tables_wider, parts_are, tables_here, body_here}
use Rattle.v1_ready_controls.proofs.whole.ready_parts.Goals as goal

pub returns-clause-parts : goal.returns-clause-parts
returns-clause-parts g c =
    let b = g.S.Singles.block c.args.singles.now in
    let s = seen_scope c.args.standing.now.scope in
    let seats = seen_seats c.args.standing.now.seats in
    let own = c.args.own.now in
    let one = c.ready_actions.new.nodes in
    let two = c.within_keys.new.nodes in
    let new = c.whole_body.new.nodes in
    let mid = c.ready_actions.new.standing in
    let ps = map (λ a. parameter_slots b (seen_action a)) own.actions.items in
    let rest = grows_further one two new c.in_ok-tables.ensures.grows c.in_ok-body.ensures.grows in
    c.joined.ensures.parts new ps (subst (λ l. IfSome c.in_ok-actions.actions (λ rows. map seen_parameters rows ≡ map (λ a. parameter_slots b (seen_action a)) l)) c.deref.ensures.value c.in_ok-actions.ensures.parameters)
    ∙ parts_are (option_map (seen_bodies new) c.in_ok-actions.actions) (all_of (λ a. body_ready b s seats (seen_action a)) own.actions.items) ps (option_map (seen_tables new) c.in_ok-tables.tables) (all_of (λ t. table_by c.args.names s seats t.now) own.tables.items) (seen_statement new c.in_ok-body.body)
    (variables_ready b s seats own.variables.items (ready_of_statement b s seats c.args.number c.args.control.now.body))
    (actions_kept c.args.layout.now one new rest c.in_ok-actions.actions c.in_ok-actions.ensures.within ∙ (c.in_ok-actions.ensures.bodies ∙ ap (all_of (λ a. body_ready b s seats (seen_action a))) c.deref.ensures.value))
    (tables_kept two new c.in_ok-body.ensures.grows c.in_ok-tables.tables c.in_ok-tables.ensures.within ∙ tables_here c.args.names (seen_scope mid.scope) s (seen_seats mid.seats) seats own.tables.items _ c.in_ok-actions.ensures.scope c.in_ok-actions.ensures.seats (c.in_ok-tables.ensures.tables ∙ ap (all_of (λ t. table_by c.args.names (seen_scope mid.scope) (seen_seats mid.seats) t.now)) c.deref-2.ensures.value))
    (body_here b (seen_scope mid.scope) s (seen_seats mid.seats) seats own.variables.items c.args.number c.args.control.now.body _ c.in_ok-actions.ensures.scope c.in_ok-actions.ensures.seats c.in_ok-body.ensures.body)

pub returns-clause-within : goal.returns-clause-within
returns-clause-within g c =
    let one = c.ready_actions.new.nodes in
    let two = c.within_keys.new.nodes in
    let new = c.whole_body.new.nodes in
    c.joined.ensures.within new c.args.layout.now (actions_wider c.args.layout.now one new (grows_further one two new c.in_ok-tables.ensures.grows c.in_ok-body.ensures.grows) c.in_ok-actions.actions c.in_ok-actions.ensures.within)
    (tables_wider two new c.in_ok-body.ensures.grows c.in_ok-tables.tables c.in_ok-tables.ensures.within) c.in_ok-body.ensures.within
