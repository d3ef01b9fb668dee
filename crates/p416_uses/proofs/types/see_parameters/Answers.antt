use Rattle.p416_syntax.specs.Declarations.{parameter_uses}
use Rattle.p416_scopes.specs.Seen.{seen_scope}
use Rattle.p416_expression_uses.specs.Seen.{seen_type_place}
use Rattle.p416_uses.proofs.Loops.{flat_on}
use Rattle.p416_uses.proofs.types.see_parameters.Goals as goal

pub loop-parameter-preserved : goal.loop-parameter-preserved
loop-parameter-preserved c = flat_on (parameter_uses (seen_scope c.args.scope.now) (seen_type_place c.args.place)) c.args.parameters.now c.loop-parameter.parameter-index c.parameter-item.result _ _ _ c.loop-parameter-test.true c.parameter-item.is c.in_ok-see_type.ensures c.loop-parameter.invariant
