use Rattle.p416_syntax.specs.Declarations.{local_uses}
use Rattle.p416_scopes.specs.Seen.{seen_scope}
use Rattle.p416_uses.proofs.Loops.{scoped_on}
use Rattle.std.proofs.Common.{◌∙◌}
use Rattle.p416_uses.proofs.ControlUses.{part_stays, given_on, given_at}
use Rattle.p416_uses.proofs.controls.see_locals.Goals as goal

pub loop-declared-preserved : goal.loop-declared-preserved
loop-declared-preserved c = record {
  judged =
      scoped_on local_uses (seen_scope c.args.scope.now) (seen_scope c.loop-declared.scope) c.args.locals.now c.loop-declared.declared-index c.declared-item.result _ _ _ c.loop-declared-test.true c.declared-item.is
      c.loop-declared.invariant.scope c.in_ok-see_local.ensures.found c.loop-declared.invariant.judged;
  scope = c.in_ok-see_local.ensures.scope ∙ c.loop-declared.invariant.scope;
  top = c.see_local.ensures.top ∙ c.loop-declared.invariant.top;
  part = part_stays c.loop-declared.scope c.see_local.new.scope c.in_ok-see_local.ensures.scope c.loop-declared.invariant.part;
  given = given_on _ _ _ c.loop-declared.invariant.scope c.in_ok-see_local.ensures.given;
}

pub see_local-requires-clause-given : goal.see_local-requires-clause-given
see_local-requires-clause-given c = given_at _ _ _ c.loop-declared.invariant.scope c.loop-declared.invariant.given
