use Rattle.std.proofs.Common.{◌≡◌, ◌++◌, length, All}
use Rattle.state_store.specs.Ports.{IsPort}
use Rattle.fabric.specs.Numbers.{IsArrival}
use Rattle.pcap_io.specs.Captures.{arrivals_of, IsRecord}
use Rattle.pcap_io.proofs.arrivals.on_ports.Given as goal

-- the packets are those so far, and those of the records and ports that are left
abbrev pub invariant-records : goal.invariant-records
invariant-records l = record {
  so_far : arrivals_of l.initial.ports l.initial.records.items ≡ l.arrivals ++ arrivals_of l.ports l.records.items;
  ports : All IsPort l.ports;
  records : All IsRecord l.records.items;
  fits : All IsArrival l.arrivals;
}

abbrev pub decreases-records : goal.decreases-records
decreases-records l = length l.records.items
