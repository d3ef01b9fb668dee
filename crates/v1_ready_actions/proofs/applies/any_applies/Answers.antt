use Rattle.p416_scopes.specs.Seen.{seen_scope}
use Rattle.v1_ready_actions.proofs.Looking.{given_turn, given_found}
use Rattle.v1_ready_actions.proofs.applies.any_applies.Goals as goal

pub loop-expression-preserved : goal.loop-expression-preserved
loop-expression-preserved c = record {
  found = given_turn (seen_scope c.args.scope.now) c.loop-expression.expressions c.pop.new.self c.in-Some.expression c.in_ok-one.one _ c.in-Some.ensures c.in_ok-one.ensures c.loop-expression.invariant.found c.if-one.false;
}

pub returns-then-one : goal.returns-then-one
returns-then-one c =
    given_found (seen_scope c.args.scope.now) c.loop-expression.expressions c.pop.new.self c.in-Some.expression c.in_ok-one.one _ c.in-Some.ensures c.in_ok-one.ensures c.loop-expression.invariant.found c.if-one.true
