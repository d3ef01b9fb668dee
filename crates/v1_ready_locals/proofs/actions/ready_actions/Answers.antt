use Rattle.std.proofs.Common.{◌≡◌, Some, option_map, sym, ap, subst, ◌∙◌}
use Rattle.std.specs.Prelude.{IfSome}
use Rattle.p416_scopes.specs.Seen.{seen_scope}
use Rattle.v1_ready_program.specs.Seen.{seen_seats}
use Rattle.v1_ready_nodes.proofs.Growing.{grows_further}
use Rattle.v1_ready_statements.specs.Blocks.{body_ready, parameter_slots}
use Rattle.v1_ready_operands.specs.Callees.{seen_action}
use Rattle.v1_ready_bodies.proofs.Keeping.{stays_on}
use Rattle.v1_ready_bodies.proofs.Grown.{all_more, grown_more}
use Rattle.v1_ready_locals.specs.Seen.{seen_body, IsActionIn}
use Rattle.v1_ready_locals.proofs.Acting.{body_here, parameters_on}
use Rattle.v1_ready_locals.proofs.Joining.{body_kept, body_wider}
use Rattle.v1_ready_locals.proofs.actions.ready_actions.Goals as goal

pub loop-own-preserved : goal.loop-own-preserved
loop-own-preserved g c =
    let b = g.S.Singles.block c.args.singles.now in
    let s = seen_scope c.args.standing.now.scope in
    let seats = seen_seats c.args.standing.now.seats in
    let l = c.args.layout.now in
    let own = c.own-item.result in
    let old = c.loop-own.nodes in
    let new = c.one_action.new.nodes in
    let at = c.loop-own.standing in
    let inv = c.loop-own.invariant in
    let done = c.in_ok-row.ensures in
    let row = c.in-Some.row in
    let is : Some (seen_body new row) ≡ body_ready b s seats (seen_action own) = body_here b (seen_scope at.scope) s (seen_seats at.seats) seats (seen_action own) (Some (seen_body new row)) inv.scope inv.seats (sym (ap (option_map (seen_body new)) c.in-Some.is) ∙ done.body) in
    let slots : row.parameters ≡ parameter_slots b (seen_action own) = subst (λ v. IfSome v (λ a. a.parameters ≡ parameter_slots b (seen_action own))) c.in-Some.is done.parameters in
    let here : IsActionIn l new row = subst (λ v. IfSome v (IsActionIn l new)) c.in-Some.is done.within in
    record {
      bodies = grown_more seen_body (IsActionIn l) old new (body_kept l old new done.grows) (body_wider l old new done.grows) (λ x. body_ready b s seats (seen_action x)) c.args.actions.now c.loop-own.own-index own c.loop-own-test.true c.own-item.is c.loop-own.rows row _ _ c.in_ok-push-in-Some.ensures.ok inv.within is inv.bodies;
      parameters = parameters_on (λ x. parameter_slots b (seen_action x)) c.args.actions.now c.loop-own.own-index own c.loop-own-test.true c.own-item.is c.loop-own.rows _ row _ c.in_ok-push-in-Some.ensures.ok slots inv.parameters;
      within = all_more seen_body (IsActionIn l) old new (body_kept l old new done.grows) (body_wider l old new done.grows) c.loop-own.rows row _ c.in_ok-push-in-Some.ensures.ok inv.within here;
      grows = grows_further c.args.nodes.now old new inv.grows done.grows;
      scope = done.scope ∙ inv.scope;
      seats = done.seats ∙ inv.seats;
      stays = stays_on c.args.standing.now at c.one_action.new.standing inv.stays done.stays;
    }
