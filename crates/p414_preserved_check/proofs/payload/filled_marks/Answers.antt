use Rattle.std.proofs.Common.{length, ap, ◌∙◌}
use Rattle.p414_preserved_check.specs.internal.Asking.{is_anything, fills_by}
use Rattle.p414_preserved_check.proofs.Own.{fills_asks}
use Rattle.p414_preserved_check.proofs.Marking.{own_each}
use Rattle.p414_preserved_check.proofs.payload.filled_marks.Goals as goal

pub list_marks-requires-clause-own : goal.list_marks-requires-clause-own
list_marks-requires-clause-own c = ap length (c.deref.ensures.value ∙ c.in_ok-own.ensures) ∙ own_each c.args.names.now (fills_by c.args.names.now)

pub returns : goal.returns
returns c = c.in_ok-marks.ensures (is_anything) (fills_by c.args.names.now) (fills_asks c.args.names.now) (c.deref.ensures.value ∙ c.in_ok-own.ensures)
