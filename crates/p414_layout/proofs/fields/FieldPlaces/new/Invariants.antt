use Rattle.std.proofs.Common.{◌≡◌, map, take}
use Rattle.p414_syntax.specs.Fields.{field_bits}
use Rattle.p414_layout.specs.Placed.{place_width, ArePlaced}
use Rattle.p414_layout.proofs.fields.FieldPlaces.new.Given as goal

abbrev pub invariant-loop-field : goal.invariant-loop-field
invariant-loop-field l = record {
  widths : map place_width l.places.items ≡ map field_bits (take l.field-index l.fields);
  placed : ArePlaced 0 l.places.items l.bits;
}
