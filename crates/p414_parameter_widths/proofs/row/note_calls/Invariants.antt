use Rattle.std.proofs.Common.{◌≡◌, drop}
use Rattle.p414_parameter_widths.specs.internal.Noting.{noted_calls}
use Rattle.p414_parameter_widths.proofs.row.note_calls.Given as goal

abbrev pub invariant-loop-call : goal.invariant-loop-call
invariant-loop-call l = noted_calls l.names l.rows l.row (drop l.call-index l.calls) ≡ noted_calls l.names l.rows l.fn.row l.calls
