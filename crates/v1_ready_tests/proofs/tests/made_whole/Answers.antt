use Rattle.std.proofs.Common.{◌≡◌, [], ◌∷◌, length, map, sym, ap, ◌∙◌}
use Rattle.std.proofs.lemmas.List.{length-map}
use Rattle.name_numbers.specs.Names.{find_name}
use Rattle.p416_syntax.specs.Subtrees.{subexpressions}
use Rattle.p416_calls.specs.Seen.{seen_place}
use Rattle.p416_scopes.specs.Seen.{seen_scope}
use Rattle.v1_ready_forms.specs.Ways.{its_value}
use Rattle.v1_ready_program.specs.Seen.{seen_seats}
use Rattle.v1_ready_program.specs.internal.Passes.{asked}
use Rattle.v1_ready_tests.specs.internal.Coded.{seen_marked}
use Rattle.v1_ready_tests.specs.internal.Passes.{marked_plans, all_made}
use Rattle.v1_ready_tests.proofs.Building.{builds_whole}
use Rattle.v1_ready_tests.proofs.Turning.{plans_long}
use Rattle.v1_ready_tests.proofs.tests.made_whole.Goals as goal

pub build-requires-clause-many : goal.build-requires-clause-many
build-requires-clause-many c =
    let many : length c.in_ok-plans.plans.items ≡ length c.deref.result.now =
    sym (length-map c.in_ok-plans.plans.items seen_marked)
    ∙ (ap length c.in_ok-plans.ensures
    ∙ plans_long (seen_scope c.args.around.scope.now) (seen_seats c.args.around.seats.now) (asked (seen_place c.args.place) its_value ∷ []) c.deref.result.now) in
    ap length c.deref-2.ensures.value ∙ (many ∙ (ap length c.deref.ensures.value ∙ sym (ap length c.deref-3.ensures.value)))

pub returns-clause-made : goal.returns-clause-made
returns-clause-made c =
    let s = seen_scope c.args.around.scope.now in
    let seats = seen_seats c.args.around.seats.now in
    let tables = find_name c.args.tables.now in
    let q = asked (seen_place c.args.place) its_value in
    c.in_ok-made.ensures.made
    ∙ (ap (λ ps. all_made tables (map seen_marked ps) c.deref-3.result.now) c.deref-2.ensures.value
    ∙ (ap (all_made tables (map seen_marked c.in_ok-plans.plans.items)) (c.deref-3.ensures.value ∙ c.in_ok-views.ensures.views)
    ∙ (ap (λ ps. all_made tables ps (subexpressions c.args.expression.now)) (c.in_ok-plans.ensures ∙ ap (marked_plans s seats (q ∷ [])) (c.deref.ensures.value ∙ c.in_ok-views.ensures.views))
    ∙ builds_whole s seats tables c.args.expression.now q)))
