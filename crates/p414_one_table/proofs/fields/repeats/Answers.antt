-- No later field has the first one's name.
use Rattle.std.proofs.Common.{◌∙◌}
use Rattle.p414_one_table.proofs.Judging.{repeats_on}
use Rattle.p414_one_table.proofs.fields.repeats.Goals as goal

pub loop-left-preserved : goal.loop-left-preserved
loop-left-preserved c =
    repeats_on _ _ _ _ c.in-len1-up.len_at_least c.first-item.is c.as_slice.ensures c.has_name.ensures c.if-has_name.false ∙ c.loop-left.invariant
