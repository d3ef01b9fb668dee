use Rattle.std.proofs.Common.{◌≡◌, ◌++◌, ◌∷◌, [], rules}
use Rattle.pcap_io.specs.Captures.{IsRecord}
use Rattle.pcap_io.proofs.Arriving.{one_more_arrival, arrivals_fit, rest_fit, first_fits}
use Rattle.pcap_io.proofs.arrivals.on_ports.Goals as goal

pub records-preserved : goal.records-preserved
records-preserved c =
    let popped : c.records.records.items ≡ c.in-Some.one ∷ c.pop_front.new.self.items = c.in-Some.ensures.items in
    let pushed : c.push.new.self ≡ c.records.arrivals ++ c.arrive-arrival.result.0 ∷ [] = search rules in
    record {
      so_far =
          one_more_arrival _ _ _ _ c.in-Some.one _ _ _ c.arrive-arrival.result.0 c.records.invariant.so_far popped c.arrive-arrival.ensures.is c.arrive-arrival.ensures.behind pushed;
      ports = c.arrive-arrival.ensures.ports;
      records = rest_fit IsRecord 1 _ _ c.records.invariant.records c.pop_front.ensures.rest;
      fits = arrivals_fit _ _ _ c.records.invariant.fits (c.arrive-arrival.ensures.fits (first_fits IsRecord _ _ _ c.records.invariant.records popped)) pushed;
    }
