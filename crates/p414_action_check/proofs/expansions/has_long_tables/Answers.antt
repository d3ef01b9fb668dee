use Rattle.std.proofs.Common.{◌∙◌}
use Rattle.p414_action_check.proofs.Answering.{tables_by}
use Rattle.p414_action_check.proofs.expansions.has_long_tables.Goals as goal

pub returns : goal.returns
returns c = tables_by c.args.names.now c.args.sizes.now c.requires.known c.requires.sizes c.deref.result.now c.are_too_long.result (c.deref.ensures.value ∙ c.in_ok-listed.ensures) c.are_too_long.ensures
