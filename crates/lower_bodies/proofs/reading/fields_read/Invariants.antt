use Rattle.std.proofs.Common.{◌≡◌, take, map}
use Rattle.lower_bodies.specs.Reading.{row_parts, slots_parts}
use Rattle.lower_bodies.proofs.reading.fields_read.Given as goal

abbrev pub invariant-loop-row : goal.invariant-loop-row
invariant-loop-row l = map slots_parts l.read.items ≡ map row_parts (take l.row-index l.fn.table.calculations.now)
