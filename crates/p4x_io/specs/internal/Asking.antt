-- The four things that may be asked of a name go one way through the code: this project's own.
use Rattle.p4x_io.specs.Memory.{Known, with_file, with_room, with_failing_read, with_failing_append}
use Rattle.p4x_io.specs.declared.slot.Ask.{Ask}
use Rattle.p4x_io.specs.declared.slot.Ask.TheVariants.{Put, Room, FailRead, FailAppend}

-- what is known after something was asked
abbrev pub asked : Ask → Known → Known
asked (Put octets) k = with_file octets.now k
asked (Room octets) k = with_room octets k
asked (FailRead n) k = with_failing_read n k
asked (FailAppend n) k = with_failing_append n k
