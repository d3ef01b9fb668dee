-- A capture as it is written: the libpcap file format (pcap-savefile(5)) with the lowest octet first.
use Rattle.std.specs.Prelude.{ℕ, ◌%◌, ◌^◌, Bool, true, false, List, ◌++◌, length, slice_get, Option, None, Some}
use Rattle.std.specs.List.{flat_map}
use Rattle.byteorder.specs.Endian.{little_bytes}
use Rattle.fabric.specs.declared.packets.Arrival.{Arrival}
use Rattle.fabric.specs.declared.packets.Sent.{Sent}
use Rattle.pcap_io.specs.Captures.{micro_magic, nano_magic}

-- the magic number of a file with nanoseconds, or with microseconds
abbrev pub magic_of : Bool → ℕ
magic_of true = nano_magic
magic_of false = micro_magic

-- A file header: the magic number, version 2.4, two words that are 0, the greatest length 262,144, and the link type.
unfoldable pub file_header_of : ℕ → Bool → List ℕ
file_header_of link nano =
    little_bytes 4 (magic_of nano) ++ (little_bytes 2 2 ++ (little_bytes 2 4 ++ (little_bytes 4 0 ++ (little_bytes 4 0
    ++ (little_bytes 4 262144 ++ little_bytes 4 link)))))

-- A record header: seconds, fraction, and the length twice, as captured and as original.
unfoldable pub record_header_of : ℕ → ℕ → ℕ → List ℕ
record_header_of seconds fraction size =
    little_bytes 4 seconds ++ (little_bytes 4 fraction ++ (little_bytes 4 size ++ little_bytes 4 size))

-- the record of a packet as it came in
abbrev pub arrival_bytes : Arrival → List ℕ
arrival_bytes arrival = record_header_of arrival.seconds arrival.fraction (length arrival.octets) ++ arrival.octets

-- the seconds of a packet, and 0 where there is none
abbrev pub seconds_of : Option Arrival → ℕ
seconds_of None = 0
seconds_of (Some arrival) = arrival.seconds

-- its fraction, and 0 where there is none
abbrev pub fraction_of : Option Arrival → ℕ
fraction_of None = 0
fraction_of (Some arrival) = arrival.fraction

-- The record of a packet that was sent: it has the times of the packet that it came from, and its length modulo 2^32.
abbrev pub sent_record : List Arrival → Sent → List ℕ
sent_record arrivals packet =
    let origin = slice_get arrivals packet.arrival in
    record_header_of (seconds_of origin) (fraction_of origin) (length packet.octets % 2 ^ 32) ++ packet.octets

-- The file of the packets that were sent, in order: its header tells the link type and the unit of the capture that
-- came in.
abbrev pub sent_bytes_of : ℕ → Bool → List Arrival → List Sent → List ℕ
sent_bytes_of link nano arrivals sent = file_header_of link nano ++ flat_map (sent_record arrivals) sent
