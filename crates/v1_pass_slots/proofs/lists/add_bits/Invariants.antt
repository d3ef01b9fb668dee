use Rattle.std.proofs.Common.{◌≡◌, ◌++◌, map, take, drop, All}
use Rattle.v1_pass_slots.specs.Lists.{lists_of}
use Rattle.v1_pass_slots.specs.Found.{IsBits}
use Rattle.v1_pass_slots.proofs.lists.add_bits.Given as goal

abbrev pub invariant-loop-field : goal.invariant-loop-field
invariant-loop-field l = record {
  lists : l.lists.items ++ map lists_of (drop l.field-index l.fields) ≡ l.fn.lists.items ++ map lists_of l.fields;
  bits : All IsBits (take l.field-index l.fields);
}
