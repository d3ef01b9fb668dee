use Rattle.std.proofs.Common.{length, ap, ◌∙◌}
use Rattle.p414_syntax.specs.Payloads.{is_payload}
use Rattle.p414_preserved_check.proofs.Own.{payload_asks}
use Rattle.p414_preserved_check.proofs.Marking.{own_each}
use Rattle.p414_preserved_check.proofs.payload.payload_marks.Goals as goal

pub list_marks-requires-clause-own : goal.list_marks-requires-clause-own
list_marks-requires-clause-own c = ap length (c.deref.ensures.value ∙ c.in_ok-own.ensures) ∙ own_each c.args.names.now (is_payload)

pub returns : goal.returns
returns c = c.in_ok-marks.ensures (is_payload) (is_payload) (payload_asks c.args.names.now) (c.deref.ensures.value ∙ c.in_ok-own.ensures)
