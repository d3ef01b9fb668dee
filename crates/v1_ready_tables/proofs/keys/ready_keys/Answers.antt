use Rattle.std.proofs.Common.{◌≡◌, ◌<◌, Some, option_map, length, sym, ap, subst, ◌∙◌}
use Rattle.std.specs.Prelude.{IfSome}
use Rattle.p416_scopes.specs.Seen.{seen_scope}
use Rattle.v1_ready_program.specs.Seen.{seen_seats}
use Rattle.v1_ready_nodes.specs.Held.{ready_in}
use Rattle.v1_ready_nodes.proofs.Growing.{grows_further}
use Rattle.v1_ready_tables.specs.Tables.{key_within}
use Rattle.v1_ready_bodies.proofs.Grown.{all_more, grown_more}
use Rattle.v1_ready_tables.proofs.Keeping.{sees_key, IsKeyIn, key_kept, key_wider}
use Rattle.v1_ready_tables.proofs.keys.ready_keys.Goals as goal

pub loop-key-preserved : goal.loop-key-preserved
loop-key-preserved c =
    let h = c.loop-key.nodes in
    let g = c.ready_key.new.nodes in
    let grows = c.in_ok-place.ensures.grows in
    let place = c.in-Some.place in
    let is : Some (sees_key g place) ≡ key_within (seen_scope c.args.around.scope.now) (seen_seats c.args.around.seats.now) c.key-item.result = sym (ap (option_map (sees_key g)) c.in-Some.is) ∙ c.in_ok-place.ensures.ready in
    let here : place < length (ready_in g) = subst (λ v. IfSome v (λ p. p < length (ready_in g))) c.in-Some.is c.in_ok-place.ensures.within in
    record {
      ready = grown_more sees_key IsKeyIn h g (key_kept h g grows) (key_wider h g grows) _ c.args.keys.now c.loop-key.key-index c.key-item.result c.loop-key-test.true c.key-item.is c.loop-key.places place _ _ c.in_ok-push-in-Some.ensures.ok c.loop-key.invariant.within is c.loop-key.invariant.ready;
      within = all_more sees_key IsKeyIn h g (key_kept h g grows) (key_wider h g grows) c.loop-key.places place _ c.in_ok-push-in-Some.ensures.ok c.loop-key.invariant.within here;
      grows = grows_further c.args.nodes.now h g c.loop-key.invariant.grows grows;
    }
