use Rattle.std.proofs.Common.{sym, ◌∙◌, arith}
use Rattle.v1_parse_run.specs.Made.{made_states}
use Rattle.v1_parse_run.specs.Working.{made_of, moment_of}
use Rattle.v1_parse_run.proofs.Turns.{ends, goes_on}
use Rattle.v1_parse_run.proofs.Passing.{stopped_short}
use Rattle.v1_parse_run.proofs.states.run_states.Goals as goal

pub returns-in-None-clause-moment : goal.returns-in-None-clause-moment
returns-in-None-clause-moment c =
    ends (made_states (made_of c.args.code.now c.args.octets.now) c.args.states.now) c.args.most c.loop.counter c.loop.number
    (moment_of c.loop.frame c.loop.store c.args.octets.now c.loop.machine) _ c.loop-test.true c.loop.invariant.same
    (moment_of c.run_next.new.frame c.run_next.new.store c.args.octets.now c.run_next.new.machine) c.in_ok-next.field-0
    (sym c.is_stopped.ensures ∙ c.if-is_stopped.false) c.in_ok-next.ensures.onward c.in-None.is

pub returns-clause-moment : goal.returns-clause-moment
returns-clause-moment c =
    stopped_short c.loop.frame c.loop.store _ c.loop.machine.run c.stop.new.run (made_states (made_of c.args.code.now c.args.octets.now) c.args.states.now) _ c.loop.number _
    c.stop.ensures (omega (arith, c.loop-test.false)) c.loop.invariant.same

pub loop-preserved : goal.loop-preserved
loop-preserved c = record {
  works = c.in_ok-next.ensures.works;
  same =
      goes_on (made_states (made_of c.args.code.now c.args.octets.now) c.args.states.now) c.args.most c.loop.counter c.loop.number
      (moment_of c.loop.frame c.loop.store c.args.octets.now c.loop.machine) _ c.loop-test.true c.loop.invariant.same c.in-Some.next
      (moment_of c.run_next.new.frame c.run_next.new.store c.args.octets.now c.run_next.new.machine) c.in_ok-next.field-0
      (sym c.is_stopped.ensures ∙ c.if-is_stopped.false) c.in_ok-next.ensures.onward c.in-Some.is;
}
