-- Numbers in the words of a capture. A file has one order of octets, in which all its numbers stand (pcap-savefile(5)).
use Rattle.std.specs.Prelude.{ℕ, List, drop}
use Rattle.byteorder.specs.Endian.{big_number, little_number}
use Rattle.pcap_io.specs.declared.order.Order.{Order}
use Rattle.pcap_io.specs.declared.order.Order.TheVariants.{Little, Big}

-- the number in the first octets
abbrev pub number_in : Order → ℕ → List ℕ → ℕ
number_in Little size octets = little_number size octets
number_in Big size octets = big_number size octets

-- the 16-bit number in the two octets from a place on
unfoldable pub half_at : Order → ℕ → List ℕ → ℕ
half_at order place octets = number_in order 2 (drop place octets)

-- the 32-bit number in the four octets from a place on
unfoldable pub word_at : Order → ℕ → List ℕ → ℕ
word_at order place octets = number_in order 4 (drop place octets)
