use Rattle.std.proofs.Common.{sym}
use Rattle.p416_syntax.specs.Declarations.{top_names}
use Rattle.p416_names.specs.SeenKinds.{seen_kind}
use Rattle.p416_main_check.specs.internal.Seen.{parser_block}
use Rattle.p416_main_check.proofs.Blocks.{too_few, too_many}
use Rattle.p416_main_check.proofs.six.are_of_parser.Goals as goal

pub returns-in_default : goal.returns-in_default
returns-in_default c = sym (too_few (parser_block (seen_kind c.args.of.headers) (seen_kind c.args.of.metadata)).parameters (top_names c.args.top.now) c.args.parameters.now c.in_default.len_below)

pub returns-in_default-2 : goal.returns-in_default-2
returns-in_default-2 c = sym (too_many (parser_block (seen_kind c.args.of.headers) (seen_kind c.args.of.metadata)).parameters (top_names c.args.top.now) c.args.parameters.now c.in_default.len_at_least)
