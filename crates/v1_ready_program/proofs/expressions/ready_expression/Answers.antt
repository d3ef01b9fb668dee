use Rattle.std.proofs.Common.{◌≡◌, [], ◌∷◌, length, map, sym, ap, subst, ◌∙◌}
use Rattle.std.proofs.lemmas.List.{length-map}
use Rattle.p416_syntax.specs.Subtrees.{subexpressions}
use Rattle.p416_calls.specs.Seen.{seen_place}
use Rattle.p416_scopes.specs.Seen.{seen_scope}
use Rattle.v1_core.specs.Kept.{trees}
use Rattle.v1_ready_forms.specs.Ways.{its_value}
use Rattle.v1_ready_forms.specs.Expressions.{ready_of_exp}
use Rattle.v1_ready_program.specs.Seen.{seen_seats}
use Rattle.v1_ready_program.specs.internal.Coded.{seen_plan, seen_value, seen_values, AreValuesIn}
use Rattle.v1_ready_program.specs.internal.Passes.{asked, plans, built}
use Rattle.v1_ready_program.proofs.Building.{builds_whole}
use Rattle.v1_ready_program.proofs.Valuing.{plans_long, value_within}
use Rattle.v1_ready_program.proofs.expressions.ready_expression.Goals as goal

pub build-requires : goal.build-requires
build-requires c =
    let many : length c.in_ok-plans.plans.items ≡ length c.deref.result.now =
    sym (length-map c.in_ok-plans.plans.items seen_plan)
    ∙ (ap length c.in_ok-plans.ensures
    ∙ plans_long (seen_scope c.args.around.scope.now) (seen_seats c.args.around.seats.now) (asked (seen_place c.args.place) its_value ∷ []) c.deref.result.now) in
    ap length c.deref-2.ensures.value ∙ (many ∙ (ap length c.deref.ensures.value ∙ sym (ap length c.deref-3.ensures.value)))

pub returns-in-Some-clause-ready : goal.returns-in-Some-clause-ready
returns-in-Some-clause-ready c =
    let s = seen_scope c.args.around.scope.now in
    let seats = seen_seats c.args.around.seats.now in
    let q = asked (seen_place c.args.place) its_value in
    let es = trees c.build.new.expressions in
    let whole : seen_value es c.in-Some.found ∷ seen_values es c.pop.new.self ≡ ready_of_exp s seats (seen_place c.args.place) c.args.expression.now ∷ [] =
    sym (ap (seen_values es) c.in-Some.ensures)
    ∙ (c.in_ok-values.ensures.values
    ∙ (ap (λ ps. built (map seen_plan ps) c.deref-3.result.now) c.deref-2.ensures.value
    ∙ (ap (built (map seen_plan c.in_ok-plans.plans.items)) (c.deref-3.ensures.value ∙ c.in_ok-views.ensures.views)
    ∙ (ap (λ ps. built ps (subexpressions c.args.expression.now)) (c.in_ok-plans.ensures ∙ ap (plans s seats (q ∷ [])) (c.deref.ensures.value ∙ c.in_ok-views.ensures.views))
    ∙ builds_whole s seats c.args.expression.now q)))) in
    cc whole

pub returns-in-Some-clause-within : goal.returns-in-Some-clause-within
returns-in-Some-clause-within c =
    value_within c.build.new.expressions c.in-Some.found
    (subst (AreValuesIn (length (trees c.build.new.expressions))) c.in-Some.ensures c.in_ok-values.ensures.within).0
