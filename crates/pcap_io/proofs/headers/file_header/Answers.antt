use Rattle.std.proofs.Common.{ℕ, ◌++◌, List, map, subst, ap, ◌∙◌}
use Rattle.std.specs.Int.{w32, to_le_bytes}
use Rattle.std.specs.List.{flat_map}
use Rattle.fabric.specs.declared.packets.Arrival.{Arrival}
use Rattle.pcap_io.specs.Captures.{IsCapture}
use Rattle.pcap_io.specs.Sent.{arrival_bytes}
use Rattle.pcap_io.proofs.Written.{header_octets, capture_written}
use Rattle.pcap_io.proofs.headers.file_header.Goals as goal

pub returns-clause-read_back : goal.returns-clause-read_back
returns-clause-read_back c = λ arrivals fits short.
    let P : List ℕ → Type 0 = λ header. IsCapture (header ++ flat_map arrival_bytes arrivals) (map (λ (arrival : Arrival). arrival.port) arrivals) c.args.link c.args.nano arrivals in
    subst P (header_octets c.args.link c.args.nano _ _ (c.to_le_bytes.ensures ∙ ap (to_le_bytes w32) c.magic_of-magic.ensures) c.to_le_bytes-2.ensures)
    (capture_written c.args.link c.args.nano arrivals c.ranges.link.fits fits short)
