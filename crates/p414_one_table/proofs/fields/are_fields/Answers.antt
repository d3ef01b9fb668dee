-- The widths of at most 64 fields are a number of 64 bits together.
use Rattle.std.proofs.Common.{◌∙◌, sym}
use Rattle.p414_one_table.proofs.Judging.{widths_fit}
use Rattle.p414_one_table.proofs.fields.are_fields.Goals as goal

pub total_width-requires : goal.total_width-requires
total_width-requires c =
    widths_fit c.args.fields.now (sym c.is_field_count.ensures ∙ c.if-not-is_field_count.false) (sym c.are_single_fields.ensures ∙ c.if-not-are_single_fields.false)
