use Rattle.std.proofs.Common.{◌≡◌, map, take}
use Rattle.p4x_cmd.specs.internal.Lowering.{lowered_field}
use Rattle.p4x_cmd.proofs.lowering.lower.Given as goal

abbrev pub invariant-loop-field : goal.invariant-loop-field
invariant-loop-field l = l.fields ≡ map lowered_field (take l.field-index l.field-items)
