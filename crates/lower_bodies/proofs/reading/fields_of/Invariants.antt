use Rattle.std.proofs.Common.{◌≡◌, take, map}
use Rattle.std.specs.Prelude.{flat_map}
use Rattle.lower_bodies.specs.Apart.{number_in}
use Rattle.lower_bodies.specs.Reading.{item_parts}
use Rattle.lower_bodies.proofs.reading.fields_of.Given as goal

abbrev pub invariant-loop-item : goal.invariant-loop-item
invariant-loop-item l = map number_in l.slots.items ≡ flat_map item_parts (take l.item-index l.fn.items)
