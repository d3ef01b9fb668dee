use Rattle.p414_parse_run.proofs.Meaning.{parsed_as}
use Rattle.p414_parse_run.proofs.program.parse14.Goals as goal

pub returns : goal.returns
returns c =
    parsed_as c.args.program.now.decls c.args.state.now c.parse_ready.new.state c.in_ok-parser.parser c.parse_ready.result
    c.requires c.in_ok-parser.ensures.means c.parse_ready.ensures
