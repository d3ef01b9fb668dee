-- What the octets of a capture are read as. The public standard is the libpcap file format, pcap-savefile(5). The rules
-- K1 to K5, the greatest captured length and the ports of packets are this project's own.
use Rattle.std.specs.Prelude.{◌≡◌, ℕ, ◌+◌, ◌^◌, ◌<◌, ◌≤◌, Bool, ◌&&◌, ◌||◌, ◌==◌, nat_le, nat_lt, if◌then◌else◌, zero, suc, List, [], ◌∷◌, ◌++◌, length, take, drop, slice_get, Option, None, Some, Result, Ok, Err}
use Rattle.std.specs.Option.{option_map, unwrap_or}
use Rattle.p4x_bits.specs.BitLists.{IsOctets}
use Rattle.p4x_fault.specs.declared.Fault.{Fault}
use Rattle.p4x_fault.specs.declared.Rule.TheVariants.{K}
use Rattle.fabric.specs.declared.packets.Arrival.{Arrival}
use Rattle.pcap_io.specs.declared.order.Order.{Order}
use Rattle.pcap_io.specs.declared.order.Order.TheVariants.{Little, Big}
use Rattle.pcap_io.specs.declared.head.Head.{Head}
use Rattle.pcap_io.specs.declared.records.Record.{Record}
use Rattle.pcap_io.specs.Numbers.{half_at, word_at}

-- The file header

-- the magic numbers of files whose fractions are microseconds, and nanoseconds
abbrev pub micro_magic : ℕ
micro_magic = 0xa1b2_c3d4

abbrev pub nano_magic : ℕ
nano_magic = 0xa1b2_3c4d

-- one of the two
abbrev pub is_magic : ℕ → Bool
is_magic word = word == micro_magic || word == nano_magic

-- the order of octets in which the magic number reads right
abbrev pub order_of : List ℕ → Option Order
order_of octets =
    if is_magic (word_at Little 0 octets)
    then Some Little
    else (if is_magic (word_at Big 0 octets) then Some Big else None)

-- a capture is refused as a whole: no place is told
abbrev pub refused : ℕ → Fault
refused rule = record { rule = K rule; place = None }

-- version 2.4
abbrev pub has_version : Order → List ℕ → Bool
has_version order octets = half_at order 4 octets == 2 && half_at order 6 octets == 4

-- What the 24 octets of a file header say: the link type, and the unit of the fractions. K2 is another magic number, K3
-- another version. The three words behind the version are not read.
abbrev pub head_in : List ℕ → Option Order → Result Head Fault
head_in octets None = Err (refused 2)
head_in octets (Some order) =
    if has_version order octets
    then Ok (record { order = order; nano = word_at order 0 octets == nano_magic; link = word_at order 20 octets })
    else Err (refused 3)

-- the same in the order that the magic number tells
unfoldable pub head_of : List ℕ → Result Head Fault
head_of octets = head_in octets (order_of octets)

-- Records

-- the greatest captured length of a record
abbrev pub longest_record : ℕ
longest_record = 65535

-- the captured length in a record header
abbrev pub captured_length : Order → List ℕ → ℕ
captured_length order octets = word_at order 8 octets

-- The octets begin with a record header, and its captured length is over the greatest.
unfoldable pub is_too_long : Order → List ℕ → Bool
is_too_long order octets = nat_le 16 (length octets) && nat_lt longest_record (captured_length order octets)

-- The octets begin with a whole record: a header with a captured length that isn't over the greatest, and as many
-- octets behind it. The original length, which may be greater, is not read.
unfoldable pub is_whole : Order → List ℕ → Bool
is_whole order octets =
    nat_le 16 (length octets)
    && (nat_le (captured_length order octets) longest_record
    && nat_le (16 + captured_length order octets) (length octets))

-- how many octets behind the first belong to the record that the octets begin with
abbrev pub owed_by : Order → List ℕ → ℕ
owed_by order octets = 15 + captured_length order octets

-- the record that the octets begin with
abbrev pub record_of : Order → List ℕ → Record
record_of order octets = record {
  octets = take (captured_length order octets) (drop 16 octets);
  seconds = word_at order 0 octets;
  fraction = word_at order 4 octets;
}

-- Readings

-- what octets are read as
pub record Reading : Type 0 where
  -- what the file header says; None where there is none, or one that K2 or K3 refuses
  pub head : Option Head
  -- the whole records in front of what is refused or not whole
  pub records : List Record
  -- the octets of a file header or a record that isn't whole
  pub left : List ℕ
  -- K2, K3 or K5, which further octets can't mend
  pub fault : Option Fault

-- the same with these records in front
abbrev pub behind : List Record → Reading → Reading
behind records reading = record reading { records = records ++ reading.records }

-- Octets that don't begin with a whole record. K5 is a captured length over the greatest, also where the captured
-- octets aren't there.
abbrev pub ending : Head → List ℕ → Reading
ending head octets =
    if is_too_long head.order octets
    then record { head = Some head; records = []; left = []; fault = Some (refused 5) }
    else record { head = Some head; records = []; left = octets; fault = None }

-- what octets behind a file header are read as, of which the first `owed` ones belong to the record before
unfoldable pub records_in : Head → List ℕ → ℕ → Reading
records_in head [] owed = record { head = Some head; records = []; left = []; fault = None }
records_in head (o ∷ octets) (suc owed) = records_in head octets owed
records_in head (o ∷ octets) zero =
    if is_whole head.order (o ∷ octets)
    then behind (record_of head.order (o ∷ octets) ∷ []) (records_in head octets (owed_by head.order (o ∷ octets)))
    else ending head (o ∷ octets)

-- what a file is read as whose header says this, or is refused by this, with these octets behind it
abbrev pub opened : List ℕ → Result Head Fault → Reading
opened records (Err fault) = record { head = None; records = []; left = []; fault = Some fault }
opened records (Ok head) = records_in head records 0

-- what a file with these octets is read as, or the first octets of one
unfoldable pub reading_of : List ℕ → Reading
reading_of octets =
    if nat_lt (length octets) 24
    then record { head = None; records = []; left = octets; fault = None }
    else opened (drop 24 octets) (head_of octets)

-- The rule that a file breaks whose octets are read as this. K1 is fewer than 24 octets, whatever they are. K4 is a
-- record that isn't whole.
abbrev pub refusal_by : Option Fault → Option Head → List ℕ → Option Fault
refusal_by (Some fault) head left = Some fault
refusal_by None None left = Some (refused 1)
refusal_by None (Some head) [] = None
refusal_by None (Some head) (o ∷ left) = Some (refused 4)

-- the same of a reading
abbrev pub refusal_in : Reading → Option Fault
refusal_in reading = refusal_by reading.fault reading.head reading.left

-- the first of the rules K1 to K5 that a file breaks
abbrev pub refusal : List ℕ → Option Fault
refusal octets = refusal_in (reading_of octets)

-- What is told of a capture

-- the link type; None for fewer than 24 octets and where K2 or K3 refuses them
abbrev pub link_of : Reading → Option ℕ
link_of reading = option_map (λ (head : Head). head.link) reading.head

-- whether fractions are nanoseconds; None where there is no link type
abbrev pub nano_of : Reading → Option Bool
nano_of reading = option_map (λ (head : Head). head.nano) reading.head

-- Packets

-- a record whose numbers are those of the words of a record header
pub record IsRecord (one : Record) : Type 0 where
  pub octets : IsOctets one.octets
  pub size : length one.octets ≤ longest_record
  pub seconds : one.seconds < 2 ^ 32
  pub fraction : one.fraction < 2 ^ 32

-- The packet of a record that comes in on the first of these ports, and on port 0 where there is none.
abbrev pub arrival_of : List ℕ → Record → Arrival
arrival_of ports one = record {
  octets = one.octets;
  port = unwrap_or (slice_get ports 0) 0;
  seconds = one.seconds;
  fraction = one.fraction;
}

-- The packets of records: the i-th record comes in on the i-th port, and on port 0 where there are fewer ports.
abbrev pub arrivals_of : List ℕ → List Record → List Arrival
arrivals_of ports [] = []
arrivals_of ports (one ∷ records) = arrival_of ports one ∷ arrivals_of (drop 1 ports) records

-- The octets are a whole capture with this link type and these packets.
pub record IsCapture (octets ports : List ℕ) (link : ℕ) (nano : Bool) (arrivals : List Arrival) : Type 0 where
  pub whole : refusal octets ≡ None
  pub of_link : link_of (reading_of octets) ≡ Some link
  pub of_unit : nano_of (reading_of octets) ≡ Some nano
  pub of_records : arrivals ≡ arrivals_of ports (reading_of octets).records
