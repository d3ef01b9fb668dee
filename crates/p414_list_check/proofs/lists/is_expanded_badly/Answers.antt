use Rattle.p414_list_check.proofs.Deciding.{cyclic_is}
use Rattle.p414_list_check.proofs.Answering.{cycle_there}
use Rattle.p414_list_check.proofs.lists.is_expanded_badly.Goals as goal

pub returns-in-None : goal.returns-in-None
returns-in-None c = cyclic_is c.args.names.now (cycle_there c.args.names.now _ c.in_ok-lengths.field-0 c.in_ok-lengths.ensures (cc c.in-None.is))
