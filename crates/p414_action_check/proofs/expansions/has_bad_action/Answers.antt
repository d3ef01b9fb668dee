use Rattle.p414_action_check.proofs.Answering.{known_is}
use Rattle.p414_action_check.proofs.expansions.has_bad_action.Goals as goal

pub is_bad-requires : goal.is_bad-requires
is_bad-requires c = known_is c.args.names.now c.requires.declared c.requires.calls
