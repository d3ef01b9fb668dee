use Rattle.std.proofs.Common.{◌≡◌, ◌+◌, ◌≤◌, length, All}
use Rattle.std.specs.Str.Lines.{lines}
use Rattle.state_store.specs.Ports.{IsPort}
use Rattle.pcap_io.specs.Ports.{ports_on}
use Rattle.pcap_io.proofs.Numbered.{in_front}
use Rattle.pcap_io.proofs.ports.read_ports.Given as goal

-- the ports are those so far, and those on the lines that are left
abbrev pub invariant-lines : goal.invariant-lines
invariant-lines l = record {
  so_far : ports_on 1 (lines l.text) ≡ in_front l.list (ports_on l.number (lines l.rest));
  counted : l.number + length l.rest ≤ 1 + length l.text;
  fits : All IsPort l.list;
}

abbrev pub decreases-lines : goal.decreases-lines
decreases-lines l = length l.rest
