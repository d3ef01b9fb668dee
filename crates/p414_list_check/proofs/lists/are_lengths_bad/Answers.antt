use Rattle.std.proofs.Common.{sym, ◌∙◌}
use Rattle.p414_list_check.proofs.Answering.{too_long_is, expanded_on}
use Rattle.p414_list_check.proofs.lists.are_lengths_bad.Goals as goal

pub returns-then-some_too_long : goal.returns-then-some_too_long
returns-then-some_too_long c = too_long_is c.args.names.now c.args.lengths.now c.requires.lengths (sym c.some_too_long.ensures ∙ c.if-some_too_long.true)

pub returns : goal.returns
returns c = expanded_on c.args.names.now c.args.lengths.now c.requires.lengths (sym c.some_too_long.ensures ∙ c.if-some_too_long.false) c.has_bad_input.result c.has_bad_input.ensures
