use Rattle.std.proofs.Common.{◌≡◌, [], replicate}
use Rattle.p414_parameter_widths.proofs.widths.blank_rows.Given as goal

abbrev pub invariant-loop : goal.invariant-loop
invariant-loop l = l.rows.items ≡ replicate l.counter []
