use Rattle.std.proofs.Common.{rules}
use Rattle.p416_state_check.proofs.Idle.{parser_by}
use Rattle.p416_state_check.proofs.states.do_states_break.Goals as goal

pub returns : goal.returns
returns c = parser_by c.args.parser.now c.lead_back.result c.in_ok-nodes.nodes.items (search rules) (search rules) (search rules)
