use Rattle.std.proofs.Common.{◌≡◌, map, take}
use Rattle.p414_one_table.specs.Form as parts
use Rattle.p414_one_table.proofs.parts.plain_fields.Given as goal

abbrev pub invariant-loop-field : goal.invariant-loop-field
invariant-loop-field l = l.fields ≡ map parts.plain_field (take l.field-index l.declared)
