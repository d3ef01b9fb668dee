use Rattle.std.proofs.Common.{sym, ◌∙◌}
use Rattle.p414_preserved_check.proofs.InstanceFields.{field_is}
use Rattle.p414_preserved_check.proofs.asking.is_field.Goals as goal

pub returns-else-is_standard : goal.returns-else-is_standard
returns-else-is_standard c = c.has_width.ensures ∙ field_is c.args.names.now c.args.name.now c.args.field.now (sym c.is_standard.ensures ∙ c.if-is_standard.false)
