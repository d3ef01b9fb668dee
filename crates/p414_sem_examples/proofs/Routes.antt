-- What the router does with a frame to 192.168.0.199.
use Rattle.std.proofs.Common.{◌≡◌, ℕ, List, [], ◌∷◌, ◌++◌, Some, None, refl}
use Rattle.p4x_bits.specs.BitLists.{num, bits}
use Rattle.state_store.specs.State.{pair}
use Rattle.p414_sem.specs.Parsing.{parsed}
use Rattle.p414_sem.specs.Signatures.{signature14, parameter_widths}
use Rattle.p414_sem.specs.Passes.{ingress14, egress14}
use Rattle.p414_sem_examples.specs.Routing.{router, routed_packet}

-- the checksum is that of the header with time to live 64, and the one behind it that with 63
abbrev front : List ℕ
front = 0x45 ∷ 0x00 ∷ 0x00 ∷ 0x73 ∷ 0x00 ∷ 0x00 ∷ 0x40 ∷ 0x00 ∷ []

abbrev addresses : List ℕ
addresses = 0xc0 ∷ 0xa8 ∷ 0x00 ∷ 0x01 ∷ 0xc0 ∷ 0xa8 ∷ 0x00 ∷ 0xc7 ∷ []

abbrev ethernet : ℕ → List ℕ
ethernet last = 0x02 ∷ 0 ∷ 0 ∷ 0 ∷ 0 ∷ last ∷ 0x02 ∷ 0 ∷ 0 ∷ 0 ∷ 0 ∷ 0x02 ∷ 0x08 ∷ 0x00 ∷ []

abbrev frame : ℕ → ℕ → ℕ → ℕ → List ℕ
frame last ttl high low = ethernet last ++ front ++ ttl ∷ 0x11 ∷ high ∷ low ∷ addresses

-- it leaves on port 3 with the new address, one less time to live and the new checksum
routes : (routed_packet (frame 1 0x40 0xb8 0x61)).sent ≡ Some (3, frame 7 0x3f 0xb9 0x61)
unfolding num bits parsed signature14 ingress14 egress14
routes = refl

-- the direct counter counted the entry
counts_the_hit : pair (routed_packet (frame 1 0x40 0xb8 0x61)).store 0 0 ≡ (1, 0)
unfolding num bits parsed signature14 ingress14 egress14
counts_the_hit = refl

-- a wrong checksum is dropped, and so is a time to live of 1
refuses_wrong_checksum : (routed_packet (frame 1 0x40 0xb8 0x62)).sent ≡ None
unfolding num bits parsed signature14 ingress14 egress14
refuses_wrong_checksum = refl

-- the width of a port is that of egress_spec, and of an address that of ethernet.dst
widths_of_route : parameter_widths router 0 ≡ 9 ∷ 48 ∷ []
widths_of_route = refl
