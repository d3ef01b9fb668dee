use Rattle.std.proofs.Common.{◌≡◌, ◌≤◌, length, take, drop, All}
use Rattle.pcap_io.specs.Captures.{records_in, behind, IsRecord}
use Rattle.pcap_io.proofs.records.take_records.Given as goal

-- the records of the octets are those that were put there, and those of the rest
abbrev pub invariant-records : goal.invariant-records
invariant-records l = record {
  order : l.order ≡ l.fn.head.order;
  so_far : behind l.initial.records.items (records_in l.fn.head l.octets 0) ≡ behind l.records.items (records_in l.fn.head l.rest 0);
  rest : l.rest ≡ drop l.place l.octets;
  within : l.place ≤ length l.octets;
  front : take (length l.initial.records.items) l.records.items ≡ l.initial.records.items;
  fits : All IsRecord l.initial.records.items → All IsRecord l.records.items;
}

abbrev pub decreases-records : goal.decreases-records
decreases-records l = length l.rest
