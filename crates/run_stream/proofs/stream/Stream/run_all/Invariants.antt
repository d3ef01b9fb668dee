use Rattle.std.proofs.Common.{◌≡◌, length, All}
use Rattle.state_store.specs.Ports.{IsPort}
use Rattle.pcap_io.specs.Captures.{IsRecord}
use Rattle.pcap_io.specs.Reader.{rest_of}
use Rattle.run_stream.specs.internal.Streams.{view_of, after_all, drained}
use Rattle.run_stream.proofs.stream.Stream.run_all.Given as goal

-- the packets of the records that are left come to what those of all came to
abbrev pub invariant-records : goal.invariant-records
invariant-records g l = record {
  setting : g.R.Runner.setting l.runner ≡ g.R.Runner.setting l.fn.runner;
  ran : after_all (g.R.Runner.outcome (g.R.Runner.setting l.fn.runner)) (rest_of l.reader).records (view_of l.self (g.R.Runner.store l.runner) (g.R.Runner.done l.runner))
      ≡ after_all (g.R.Runner.outcome (g.R.Runner.setting l.fn.runner)) (rest_of l.fn.reader).records (view_of l.fn.self (g.R.Runner.store l.fn.runner) (g.R.Runner.done l.fn.runner));
  rest : drained (rest_of l.reader) ≡ drained (rest_of l.fn.reader);
  known : All IsRecord (rest_of l.reader).records → All IsRecord (rest_of l.fn.reader).records;
  ports : All IsPort l.self.ports.now;
}

abbrev pub decreases-records : goal.decreases-records
decreases-records g l = length (rest_of l.reader).records
