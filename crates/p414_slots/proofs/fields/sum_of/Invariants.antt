use Rattle.std.proofs.Common.{◌≡◌, ◌+◌, map, drop}
use Rattle.std.specs.Prelude.{fold, sum}
use Rattle.p414_syntax.specs.Fields.{field_bits}
use Rattle.p414_slots.proofs.fields.sum_of.Given as goal

abbrev pub invariant-loop-field : goal.invariant-loop-field
invariant-loop-field l = fold (λ a x. a + x) l.total (map field_bits (drop l.field-index l.fields)) ≡ sum (map field_bits l.fields)
