use Rattle.std.proofs.Common.{◌≡◌, ◌+◌, ◌<◌, Some, option_map, map, drop, length, sym, ap, subst, ◌∙◌, arith}
use Rattle.std.specs.Prelude.{IfSome}
use Rattle.std.proofs.lemmas.List.Elements.{All-push}
use Rattle.p416_syntax.specs.Calls.{select_key}
use Rattle.p416_scopes.specs.Seen.{seen_scope}
use Rattle.v1_core.specs.Nodes.{ready_at}
use Rattle.v1_core.specs.Kept.{trees}
use Rattle.v1_ready_forms.specs.Expressions.{ready_of_exp}
use Rattle.v1_ready_program.specs.Seen.{seen_seats}
use Rattle.v1_ready_program.proofs.Valuing.{keeps_more}
use Rattle.v1_ready_selects.specs.Selects.{ArePlaces}
use Rattle.v1_ready_selects.specs.Transitions.{keys_ready}
use Rattle.v1_ready_transitions.specs.internal.Firsts.{in_front}
use Rattle.v1_ready_transitions.proofs.Keys.{count, wider, one_more}
use Rattle.v1_ready_transitions.proofs.transitions.ready_keys.Goals as goal

pub loop-key-preserved : goal.loop-key-preserved
loop-key-preserved c =
    let s = seen_scope c.args.around.scope.now in
    let seats = seen_seats c.args.around.seats.now in
    let keys = c.args.keys.now in
    let i = c.loop-key.key-index in
    let first = c.args.expressions.now in
    let before = c.loop-key.expressions in
    let after = c.ready_expression.new.expressions in
    let old = trees before in
    let new = trees after in
    let places = c.loop-key.places in
    let place = c.in-Some.place in
    let pushed = c.in_ok-push-in-Some.ensures.ok in
    let keeps = c.in_ok-place.ensures.keeps in
    let is : Some (ready_at new place) ≡ ready_of_exp s seats select_key c.key-item.result = sym (ap (option_map (ready_at new)) c.in-Some.is) ∙ (c.in_ok-place.ensures.ready ∙ ap (ready_of_exp s seats select_key) c.view.ensures) in
    let among : place < length after.nodes = subst (λ v. IfSome v (λ p. p < length after.nodes)) c.in-Some.is c.in_ok-place.ensures.within in
    let many : length new ≡ length after.nodes = count after in
    let here : place < length new = omega arith in
    record {
      ready =
          ap (λ ps. in_front (map (ready_at new) ps) (keys_ready s seats (drop (i + 1) keys))) pushed
          ∙ one_more s seats keys i c.key-item.result c.loop-key-test.true c.key-item.is old new places place _ keeps c.loop-key.invariant.within is c.loop-key.invariant.ready;
      within = subst (ArePlaces (length new)) (sym pushed) (All-push (λ p. p < length new) places place (wider (length old) (length new) keeps.grows places c.loop-key.invariant.within) here);
      keeps = keeps_more (trees first) old new c.loop-key.invariant.keeps keeps;
      layout = c.in_ok-place.ensures.layout ∙ c.loop-key.invariant.layout;
    }

pub returns-clause-within : goal.returns-clause-within
returns-clause-within c = subst (λ n. ArePlaces n c.loop-key.places) (count c.loop-key.expressions) c.loop-key.invariant.within
