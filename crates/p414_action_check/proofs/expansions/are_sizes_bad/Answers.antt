use Rattle.std.proofs.Common.{sym, ◌∙◌}
use Rattle.p414_action_check.proofs.Answering.{too_long_is, short_on}
use Rattle.p414_action_check.proofs.expansions.are_sizes_bad.Goals as goal

pub returns-then-some_too_long : goal.returns-then-some_too_long
returns-then-some_too_long c = too_long_is c.args.names.now c.args.sizes.now c.requires.known c.requires.sizes (sym c.some_too_long.ensures ∙ c.if-some_too_long.true)

pub returns : goal.returns
returns c = short_on c.args.names.now c.args.sizes.now c.requires.known c.requires.sizes (sym c.some_too_long.ensures ∙ c.if-some_too_long.false) c.has_long_tables.result c.has_long_tables.ensures
