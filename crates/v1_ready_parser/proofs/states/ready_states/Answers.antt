use Rattle.std.proofs.Common.{◌≡◌, Some, option_map, sym, ap, subst, ◌∙◌}
use Rattle.std.specs.Prelude.{IfSome}
use Rattle.p416_scopes.specs.Seen.{seen_scope}
use Rattle.v1_ready_program.specs.Seen.{seen_seats}
use Rattle.v1_ready_nodes.proofs.Growing.{grows_further}
use Rattle.v1_ready_statements.specs.Statements.{number_behind}
use Rattle.v1_ready_bodies.proofs.Keeping.{stays_on}
use Rattle.v1_ready_bodies.proofs.Grown.{all_more, grown_on}
use Rattle.v1_ready_parser.specs.Parsers.{state_ready}
use Rattle.v1_ready_parser.specs.Places.{seen_state, IsStateIn}
use Rattle.v1_ready_parser.proofs.Leading.{state_kept, state_wider, next_state, state_here, number_here}
use Rattle.v1_ready_parser.proofs.states.ready_states.Goals as goal

pub loop-state-preserved : goal.loop-state-preserved
loop-state-preserved g c =
    let b = g.S.Singles.block c.args.singles.now in
    let s = seen_scope c.args.standing.now.scope in
    let seats = seen_seats c.args.standing.now.seats in
    let names = c.args.names.now in
    let x = c.state-item.result in
    let old = c.loop-state.nodes in
    let new = c.ready_state.new.nodes in
    let at = c.loop-state.standing in
    let inv = c.loop-state.invariant in
    let done = c.in_ok-row.ensures in
    let row = c.in-Some.row in
    let is : Some (seen_state new row) ≡ state_ready b s seats at.number names x = state_here b (seen_scope at.scope) s (seen_seats at.seats) seats at.number names x (Some (seen_state new row)) inv.scope inv.seats (sym (ap (option_map (seen_state new)) c.in-Some.is) ∙ done.state) in
    let here : IsStateIn new row = subst (λ v. IfSome v (IsStateIn new)) c.in-Some.is done.within in
    record {
      states =
          number_here b s seats (number_behind s x.body at.number) c.ready_state.new.standing.number names c.args.states.now c.loop-state.state-index _ _ (done.number ∙ ap (λ y. number_behind y x.body at.number) inv.scope)
          (grown_on seen_state IsStateIn old new (state_kept old new done.grows) (state_wider old new done.grows) _ _ _ (next_state b s seats at.number names c.args.states.now c.loop-state.state-index x c.loop-state-test.true c.state-item.is) c.loop-state.rows row _ _ c.in_ok-push-in-Some.ensures.ok inv.within is inv.states);
      within = all_more seen_state IsStateIn old new (state_kept old new done.grows) (state_wider old new done.grows) c.loop-state.rows row _ c.in_ok-push-in-Some.ensures.ok inv.within here;
      grows = grows_further c.args.nodes.now old new inv.grows done.grows;
      scope = done.scope ∙ inv.scope;
      seats = done.seats ∙ inv.seats;
      stays = stays_on c.args.standing.now at c.ready_state.new.standing inv.stays done.stays;
    }
