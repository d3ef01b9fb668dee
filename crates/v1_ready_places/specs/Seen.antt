-- What a value of code says that an l-value means.
use Rattle.std.specs.Prelude.{option_map}
use Rattle.v1_ready_blocks.specs.Places.{seen_slice}
use Rattle.v1_place_laws.specs.Places as places
use Rattle.v1_ready_program.specs.Seen.{seen_spot}
use Rattle.v1_ready_places.specs.declared.meant.Meant.{Meant}

abbrev pub seen_meant : Meant → places.Meant
seen_meant x = record { spot = seen_spot x.spot; slice = option_map seen_slice x.slice }
