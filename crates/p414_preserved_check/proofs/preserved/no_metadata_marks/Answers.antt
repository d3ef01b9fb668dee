use Rattle.std.proofs.Common.{length, ap, ◌∙◌}
use Rattle.p414_syntax.specs.Preserved.{is_no_metadata_item}
use Rattle.p414_preserved_check.specs.internal.Asking.{no_metadata_by}
use Rattle.p414_preserved_check.proofs.Own.{no_metadata_asks}
use Rattle.p414_preserved_check.proofs.Marking.{own_each}
use Rattle.p414_preserved_check.proofs.preserved.no_metadata_marks.Goals as goal

pub list_marks-requires-clause-own : goal.list_marks-requires-clause-own
list_marks-requires-clause-own c = ap length (c.deref.ensures.value ∙ c.in_ok-own.ensures) ∙ own_each c.args.names.now (no_metadata_by c.args.names.now)

pub returns : goal.returns
returns c = c.in_ok-marks.ensures (is_no_metadata_item c.args.names.now) (no_metadata_by c.args.names.now) (no_metadata_asks c.args.names.now) (c.deref.ensures.value ∙ c.in_ok-own.ensures)
