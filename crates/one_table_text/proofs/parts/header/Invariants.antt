use Rattle.std.proofs.Common.{◌≡◌, map, take}
use Rattle.one_table_text.specs.Programs.{bit_field}
use Rattle.one_table_text.proofs.parts.header.Given as goal

abbrev pub invariant-loop-field : goal.invariant-loop-field
invariant-loop-field l = l.fields ≡ map bit_field (take l.field-index l.given)
