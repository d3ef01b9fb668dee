use Rattle.std.proofs.Common.{refl, ◌∙◌, arith}
use Rattle.run_stream.specs.internal.Streams.{held_of}
use Rattle.run_stream.proofs.Sending.{written_none, written_next, written_all}
use Rattle.run_stream.proofs.stream.Stream.send_all.Goals as goal

pub loop-out-init : goal.loop-out-init
loop-out-init c = record { written = written_none c.args.arrival.now (held_of c.args.self.now); ports = refl }

pub loop-out-preserved : goal.loop-out-preserved
loop-out-preserved c =
    let so = c.loop-out.invariant in
    record {
      written = written_next c.args.arrival.now c.args.outs.now c.loop-out.out-index c.out-item.result (held_of c.args.self.now) _ _ (omega arith) c.out-item.is so.written c.in_ok-send.ensures.sent;
      ports = c.send.ensures.ports ∙ so.ports;
    }

pub returns-clause-sent : goal.returns-clause-sent
returns-clause-sent c =
    written_all c.args.arrival.now c.args.outs.now c.loop-out.out-index (held_of c.args.self.now) (held_of c.loop-out.self) c.loop-out-test.false c.loop-out.invariant.written
