-- How far the octets of a capture are read.
use Rattle.std.specs.Prelude.{ℕ, ◌<◌, List, length, drop, Option, None, Some}
use Rattle.p4x_fault.specs.declared.Fault.{Fault}
use Rattle.pcap_io.specs.declared.head.Head.{Head}
use Rattle.pcap_io.specs.declared.progress.Progress.{Progress}
use Rattle.pcap_io.specs.declared.records.Record.{Record}
use Rattle.pcap_io.specs.Captures.{Reading}

-- what octets are read as with these records, by how far they are read
abbrev pub held : Progress → List Record → List ℕ → Reading
held progress records octets =
    record { head = progress.head; records = records; left = drop progress.used octets; fault = progress.fault }

-- where no file header is read and none was refused, these octets are too few for one
abbrev pub AwaitsHeader : Option Head → Option Fault → List ℕ → Type 0
AwaitsHeader None None octets = length octets < 24
AwaitsHeader None (Some fault) octets = Unit {0}
AwaitsHeader (Some head) fault octets = Unit {0}
