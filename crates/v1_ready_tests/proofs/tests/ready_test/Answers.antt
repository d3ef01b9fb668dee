use Rattle.std.proofs.Common.{◌≡◌, [], ◌∷◌, sym, ap, ◌∙◌}
use Rattle.name_numbers.specs.Names.{find_name}
use Rattle.p416_calls.specs.Seen.{seen_place}
use Rattle.p416_scopes.specs.Seen.{seen_scope}
use Rattle.v1_ready_forms.specs.Ways.{its_value}
use Rattle.v1_ready_program.specs.Seen.{seen_seats}
use Rattle.v1_ready_program.specs.internal.Passes.{asked}
use Rattle.v1_ready_tests.specs.internal.Coded.{seen_made, seen_all}
use Rattle.v1_ready_tests.specs.internal.Passes.{as_test, made_by}
use Rattle.v1_ready_tests.proofs.Building.{whole_test}
use Rattle.v1_ready_tests.proofs.tests.ready_test.Goals as goal

pub returns-in-Some-clause-test : goal.returns-in-Some-clause-test
returns-in-Some-clause-test c =
    let s = seen_scope c.args.around.scope.now in
    let seats = seen_seats c.args.around.seats.now in
    let tables = find_name c.args.tables.now in
    let q = asked (seen_place c.args.place) its_value in
    let h = c.made_whole.new.nodes in
    let all : seen_made h c.in-Some.made ∷ seen_all h c.pop.new.self ≡ made_by s seats tables q c.args.expression.now ∷ [] = sym (ap (seen_all h) c.in-Some.ensures) ∙ c.in_ok-all.ensures.made in
    let one : seen_made h c.in-Some.made ≡ made_by s seats tables q c.args.expression.now = cc all in
    c.in_ok-test-in-Some.ensures.test ∙ (ap as_test one ∙ whole_test s seats tables q c.args.expression.now)
