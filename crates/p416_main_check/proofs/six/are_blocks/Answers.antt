use Rattle.std.proofs.Common.{sym}
use Rattle.p416_syntax.specs.Declarations.{top_names}
use Rattle.p416_syntax.specs.Main.{wanted_blocks}
use Rattle.p416_names.specs.SeenKinds.{seen_kind}
use Rattle.p416_main_check.proofs.Blocks.{too_few_blocks, too_many_blocks}
use Rattle.p416_main_check.proofs.six.are_blocks.Goals as goal

pub returns-in_default : goal.returns-in_default
returns-in_default c = sym (too_few_blocks (top_names c.args.top.now) c.args.top.now (wanted_blocks (seen_kind c.args.of.headers) (seen_kind c.args.of.metadata)) c.args.main.now c.in_default.len_below)

pub returns-in_default-2 : goal.returns-in_default-2
returns-in_default-2 c = sym (too_many_blocks (top_names c.args.top.now) c.args.top.now (wanted_blocks (seen_kind c.args.of.headers) (seen_kind c.args.of.metadata)) c.args.main.now c.in_default.len_at_least)
