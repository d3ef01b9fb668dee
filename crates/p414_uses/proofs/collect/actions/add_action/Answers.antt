use Rattle.p414_uses.proofs.Adding.{same_calls, onto}
use Rattle.p414_uses.proofs.collect.actions.add_action.Goals as goal

pub returns : goal.returns
returns c = onto _ _ _ _ _ (same_calls c.args.declared.now.parameters c.in_ok-parameters.parameters c.args.declared.now.calls c.in_ok-parameters.ensures) c.add_calls_in.ensures
