-- What the wrong programs send of one packet, beside what the sample sends.
use Rattle.std.proofs.Common.{◌≡◌, ◌<◌, ℕ, zero, suc, All, List, [], ◌∷◌, ◌++◌, length, drop, Some, refl, sym, ◌∙◌, ap, arith}
use Rattle.std.proofs.lemmas.List.Elements.{All-cons}
use Rattle.state_store.specs.State.{Contents}
use Rattle.p416_syntax.specs.declared.program.Syntax16.{Syntax16}
use Rattle.fabric.specs.Numbers.{IsArrival}
use Rattle.fabric.specs.declared.packets.Arrival.{Arrival}
use Rattle.fabric.specs.declared.packets.Sent.{Sent}
use Rattle.p4x_bits.specs.BitLists.{octet_bits, IsOctets}
use Rattle.p4x_cmd.specs.Carries.{Carries}
use Rattle.p4x_cmd.specs.Entries.{no_entries}
use Rattle.p414_one_table.specs.Form.{one_table_of}
use Rattle.one_table_text.specs.Programs.{program16}
use Rattle.p4x_cmd.specs.Headers.{numbers_in, bits_in, octets_in}
use Rattle.p4x_cmd.specs.internal.Lowering.{lowered}
use Rattle.p4x_cmd.specs.Meaning14.{Run14, signature14, widths14}
use Rattle.p4x_cmd.specs.Meaning16.{Run16}
use Rattle.run_stream.specs.Runs.{Ran}
use Rattle.p4x_cmd.proofs.Carrying.{carries_is}
use Rattle.p4x_cmd.proofs.Filling.{no_entries_fit}
use Rattle.p4x_cmd.proofs.HeaderLaws.{whole_again}
use Rattle.refusal_laws.specs.Wrong.{sample, sample_syntax, dropping, next_port, emitting_nothing, not_asking}

pub sample_form : one_table_of sample_syntax ≡ Some sample
sample_form = refl

pub sample_is : Carries sample (program16 (lowered sample))
sample_is = carries_is sample refl

-- so many zero octets
abbrev zeros_of : ℕ → List ℕ
zeros_of zero = []
zeros_of (suc n) = 0 ∷ zeros_of n

all_zeros : (n : ℕ) → IsOctets (zeros_of n)
all_zeros zero = λ k d inside. absurd (omega arith)
all_zeros (suc n) = All-cons (λ o. o < 256) 0 (zeros_of n) (omega arith) (all_zeros n)

-- a packet of zero octets on port 0
abbrev packet : ℕ → Arrival
packet n = record { octets = zeros_of n; port = 0; seconds = 0; fraction = 0 }

arrives : (n : ℕ) → All IsArrival (packet n ∷ [])
arrives n zero d inside = record { octets = all_zeros n; port = omega arith; seconds = omega arith; fraction = omega arith }
arrives n (suc k) d inside = absurd (omega arith)

-- the runs over one packet
abbrev run14 : ℕ → Ran Contents
run14 n = Run14 sample (no_entries (signature14 sample)) 1 (packet n ∷ [])

abbrev run16 : Syntax16 → ℕ → Ran Contents
run16 s n = Run16 s (no_entries (signature14 sample)) 1 (packet n ∷ [])

same_sent : (s : Syntax16) (n : ℕ) → Carries sample s → (run14 n).sent ≡ (run16 s n).sent
same_sent s n carries = (carries.runs (no_entries (signature14 sample)) 1 (packet n ∷ []) (no_entries_fit (signature14 sample)) (omega arith, omega arith) (arrives n)).sent

same_count : (s : Syntax16) (n : ℕ) → Carries sample s → length (run14 n).sent ≡ length (run16 s n).sent
same_count s n carries = ap (λ (l : List Sent). length l) (same_sent s n carries)

one_sent : length (run14 14).sent ≡ 1
unfolding Run14
one_sent = refl

none_sent : length (run14 13).sent ≡ 0
unfolding Run14
none_sent = refl

dropped_all : length (run16 dropping 14).sent ≡ 0
unfolding Run16
dropped_all = refl

pub dropping_not : Carries sample dropping → ⊥
dropping_not carries = let same = same_count dropping 14 carries in omega (arith, one_sent, dropped_all, same)

-- the port of the first packet that is sent
abbrev first_port : List Sent → ℕ
first_port [] = 0
first_port (packet ∷ rest) = packet.port

port_14 : first_port (run14 14).sent ≡ 3
unfolding Run14
port_14 = refl

port_16 : first_port (run16 next_port 14).sent ≡ 4
unfolding Run16
port_16 = refl

pub next_port_not : Carries sample next_port → ⊥
next_port_not carries =
    let same : first_port (run14 14).sent ≡ first_port (run16 next_port 14).sent = ap first_port (same_sent next_port 14 carries) in
    omega (arith, port_14, port_16, same)

-- the octets of the first packet that is sent
abbrev first_octets : List Sent → List ℕ
first_octets [] = []
first_octets (packet ∷ rest) = packet.octets

again : octets_in (bits_in (widths14 sample) (numbers_in (widths14 sample) (octet_bits (zeros_of 14)))) ++ drop 14 (zeros_of 14) ≡ zeros_of 14
again = whole_again (widths14 sample) (zeros_of 14) (all_zeros 14) refl (omega arith)

octets_14 : first_octets (run14 14).sent ≡ octets_in (bits_in (widths14 sample) (numbers_in (widths14 sample) (octet_bits (zeros_of 14)))) ++ drop 14 (zeros_of 14)
unfolding Run14
octets_14 = refl

octets_16 : first_octets (run16 emitting_nothing 14).sent ≡ []
unfolding Run16
octets_16 = refl

pub emitting_nothing_not : Carries sample emitting_nothing → ⊥
emitting_nothing_not carries =
    let same : first_octets (run14 14).sent ≡ first_octets (run16 emitting_nothing 14).sent = ap first_octets (same_sent emitting_nothing 14 carries) in
    let none : length (zeros_of 14) ≡ 0 = ap (λ (l : List ℕ). length l) (sym again ∙ sym octets_14 ∙ same ∙ octets_16) in
    omega (arith, none)

sent_short : length (run16 not_asking 13).sent ≡ 1
unfolding Run16
sent_short = refl

pub not_asking_not : Carries sample not_asking → ⊥
not_asking_not carries = let same = same_count not_asking 13 carries in omega (arith, none_sent, sent_short, same)
