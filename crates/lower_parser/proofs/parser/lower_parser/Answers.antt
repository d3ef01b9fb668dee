use Rattle.lower_expressions.specs.Table.{words_in}
use Rattle.lower_parser.proofs.Holding.{parser_is}
use Rattle.lower_parser.proofs.parser.lower_parser.Goals as goal

pub returns : goal.returns
returns c =
    parser_is c.args.names.now (words_in c.table_of-table.result) c.in_ok-ready.ready c.in_ok-states.states c.in_ok-parser.parser c.table_of-table.ensures c.in_ok-ready.ensures.is c.in_ok-states.ensures c.in_ok-parser.ensures
