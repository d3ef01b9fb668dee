-- The packets of a capture that was read are such as come in.
use Rattle.std.proofs.Common.{ℕ, suc, All, List, [], ◌∷◌, drop, slice_get, arith}
use Rattle.std.specs.Option.{unwrap_or}
use Rattle.std.proofs.lemmas.List.Elements.{All-cons}
use Rattle.state_store.specs.Ports.{IsPort}
use Rattle.fabric.specs.Numbers.{IsArrival}
use Rattle.pcap_io.specs.declared.records.Record.{Record}
use Rattle.pcap_io.specs.Captures.{arrival_of, arrivals_of, IsRecord}

first_port : (ports : List ℕ) → All IsPort ports → IsPort (unwrap_or (slice_get ports 0) 0)
first_port [] fits = omega arith
first_port (port ∷ ports) fits = fits 0 port (omega arith)

rest_ports : (ports : List ℕ) → All IsPort ports → All IsPort (drop 1 ports)
rest_ports [] fits = fits
rest_ports (port ∷ ports) fits = λ k d inside. fits (suc k) d (omega arith)

pub packets_fit : (ports : List ℕ) (records : List Record) → All IsPort ports → All IsRecord records → All IsArrival (arrivals_of ports records)
packets_fit ports [] fits known = λ k d inside. absurd (omega arith)
packets_fit ports (one ∷ records) fits known =
    All-cons IsArrival (arrival_of ports one) (arrivals_of (drop 1 ports) records) (first (known 0 one (omega arith)))
    (packets_fit (drop 1 ports) records (rest_ports ports fits) (λ k d inside. known (suc k) d (omega arith)))
  where
    first : IsRecord one → IsArrival (arrival_of ports one)
    first r = record { octets = r.octets; port = first_port ports fits; seconds = r.seconds; fraction = r.fraction }
