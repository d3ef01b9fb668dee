use Rattle.lower_expressions.specs.Table.{words_in}
use Rattle.lower_parser.proofs.SameParsers.{states_made}
use Rattle.lower_parser.proofs.parser.states_of.Goals as goal

pub returns : goal.returns
returns c =
    states_made c.args.names.now _ (words_in c.args.table.now) c.args.ready.now.initials _ _ _ c.add_states.new.made c.in_ok-states.ensures c.as_slice.ensures c.new-made.ensures c.in_ok-add_front.ensures c.in_ok-add_states.ensures
