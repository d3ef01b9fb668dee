use Rattle.p416_syntax.specs.Declarations.{var_uses}
use Rattle.p416_scopes.specs.Seen.{seen_scope}
use Rattle.p416_uses.proofs.Loops.{flat_on}
use Rattle.p416_uses.proofs.bodies.see_vars.Goals as goal

pub loop-var-preserved : goal.loop-var-preserved
loop-var-preserved c = flat_on (var_uses (seen_scope c.args.scope.now)) c.args.vars.now c.loop-var.var-index c.var-item.result _ _ _ c.loop-var-test.true c.var-item.is c.in_ok-see_var.ensures c.loop-var.invariant
