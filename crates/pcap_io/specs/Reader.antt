-- A reader that is fed a capture in pieces.
use Rattle.std.specs.Prelude.{◌≡◌, ℕ, ◌≤◌, List, ◌++◌, length, drop, Option, None, Some, Result, Ok, Err}
use Rattle.p4x_fault.specs.declared.Fault.{Fault}
use Rattle.pcap_io.specs.declared.head.Head.{Head}
use Rattle.pcap_io.specs.declared.faults.CaptureFault.{CaptureFault}
use Rattle.pcap_io.specs.declared.faults.CaptureFault.TheVariants.{Memory, Refused}
use Rattle.pcap_io.specs.Captures.{Reading, reading_of, records_in, behind}

-- the same where so many of its records were taken
abbrev pub taken_from : ℕ → Reading → Reading
taken_from taken reading = record reading { records = drop taken reading.records }

-- What a reader holds after these octets were fed to it, in pieces of any size, and so many records were taken from it:
-- what the octets are read as, but for these records.
pub record HasRead (octets : List ℕ) (taken : ℕ) (reader : Reading) : Type 0 where
  pub holds : reader ≡ taken_from taken (reading_of octets)
  pub some : taken ≤ length (reading_of octets).records

-- the octets of a file, or those behind its file header
abbrev pub read_on : Option Head → List ℕ → Reading
read_on None octets = reading_of octets
read_on (Some head) octets = records_in head octets 0

-- what a reader with this fault, or without one, holds once a further piece was fed
abbrev pub fed_by : Option Fault → Reading → List ℕ → Reading
fed_by (Some fault) reader piece = reader
fed_by None reader piece = behind reader.records (read_on reader.head (reader.left ++ piece))

-- the same of a reader, which takes no further piece once there is a fault
abbrev pub fed : Reading → List ℕ → Reading
fed reader piece = fed_by reader.fault reader piece

-- what the octets are read as that a reader with this fault, or without one, has left, behind the records that it has
abbrev pub rest_by : Option Fault → Reading → Reading
rest_by (Some fault) reader = reader
rest_by None reader = behind reader.records (read_on reader.head reader.left)

-- the same of a reader that makes its records one by one: what it is to have given once nothing is left to read
abbrev pub rest_of : Reading → Reading
rest_of reader = rest_by reader.fault reader

-- what a call answers that takes no memory
abbrev pub answer : Option Fault → Result (Unit {0}) CaptureFault
answer None = Ok tt
answer (Some fault) = Err (Refused fault)

-- A call refuses exactly where there is a fault, with that fault; or memory ran out.
abbrev pub Answers : {T : Type 0} → Option Fault → Result T CaptureFault → Type 0
Answers fault (Ok value) = fault ≡ None
Answers fault (Err (Refused refusal)) = fault ≡ Some refusal
Answers fault (Err Memory) = Unit {0}

-- the first holds of a call for which memory ran out, the second of any other
abbrev pub ByMemory : {T : Type 0} → Result T CaptureFault → Type 0 → Type 0 → Type 0
ByMemory (Err Memory) wanting done = wanting
ByMemory (Err (Refused refusal)) wanting done = done
ByMemory (Ok value) wanting done = done
