use Rattle.p416_syntax.specs.Declarations.{state_uses}
use Rattle.p416_scopes.specs.Seen.{seen_scope}
use Rattle.p416_uses.proofs.Loops.{scoped_on}
use Rattle.std.proofs.Common.{◌∙◌}
use Rattle.p416_uses.proofs.parsers.see_states.Goals as goal

pub loop-state-preserved : goal.loop-state-preserved
loop-state-preserved c = record {
  judged =
      scoped_on state_uses (seen_scope c.args.scope.now) (seen_scope c.loop-state.scope) c.args.states.now c.loop-state.state-index c.state-item.result _ _ _ c.loop-state-test.true c.state-item.is
      c.loop-state.invariant.scope c.in_ok-see_state.ensures.found c.loop-state.invariant.judged;
  scope = c.in_ok-see_state.ensures.scope ∙ c.loop-state.invariant.scope;
  top = c.see_state.ensures.top ∙ c.loop-state.invariant.top;
}
