use Rattle.p414_action_check.proofs.Answering.{known_is}
use Rattle.p414_expanded_check.proofs.expanded.expands_to_wrong_call.Goals as goal

pub is_wrong-requires-clause-known : goal.is_wrong-requires-clause-known
is_wrong-requires-clause-known c = known_is c.args.names.now c.requires.declared c.requires.calls
