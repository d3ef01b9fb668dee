use Rattle.p414_body_check.proofs.Exactly.{c15_result, right_calls}
use Rattle.p414_body_check.proofs.each.breaks_c15.Goals as goal

pub has_bad_action-requires-clause-calls : goal.has_bad_action-requires-clause-calls
has_bad_action-requires-clause-calls c = right_calls c.args.names.now c.requires.calls

pub returns : goal.returns
returns c = c15_result c.args.names.now c.has_bad_action.result c.has_bad_action.ensures
