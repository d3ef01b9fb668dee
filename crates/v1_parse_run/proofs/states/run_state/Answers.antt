use Rattle.std.proofs.Common.{refl, sym, ◌∙◌}
use Rattle.v1_parse_run.specs.Made.{made_state}
use Rattle.v1_parse_run.specs.Working.{made_of, moment_of}
use Rattle.v1_parse_run.proofs.Passing.{state_goes, state_stops, state_works}
use Rattle.v1_parse_run.proofs.states.run_state.Goals as goal

pub returns-then-is_stopped-clause-onward : goal.returns-then-is_stopped-clause-onward
returns-then-is_stopped-clause-onward c =
    state_stops (made_state (made_of c.args.code.now c.args.octets.now) c.args.state.now)
    (moment_of c.args.frame.now c.args.store.now c.args.octets.now c.args.machine.now)
    (moment_of c.run_body.new.frame c.run_body.new.store c.args.octets.now c.run_body.new.machine)
    c.in_ok-run_body.ensures.moment (sym c.is_stopped.ensures ∙ c.if-is_stopped.true)

pub returns-clause-works : goal.returns-clause-works
returns-clause-works c =
    state_works c.run_body.new.frame c.run_body.new.store c.args.octets.now c.run_body.new.machine c.lead.new.machine c.tick.new.run c.follow.new.run c.in_ok-led.led
    c.in_ok-led.ensures.run c.in_ok-led.ensures.parsed c.tick.ensures c.follow.ensures.run c.args.code.now _ c.in_ok-run_body.ensures.works refl refl

pub returns-clause-onward : goal.returns-clause-onward
returns-clause-onward c =
    state_goes c.run_body.new.frame c.run_body.new.store c.args.octets.now c.run_body.new.machine c.lead.new.machine c.tick.new.run c.follow.new.run c.in_ok-led.led
    c.in_ok-led.ensures.run c.in_ok-led.ensures.parsed c.tick.ensures c.follow.ensures.run
    (made_state (made_of c.args.code.now c.args.octets.now) c.args.state.now)
    (moment_of c.args.frame.now c.args.store.now c.args.octets.now c.args.machine.now) c.follow.result
    c.in_ok-run_body.ensures.moment (sym c.is_stopped.ensures ∙ c.if-is_stopped.false) c.in_ok-led.ensures.led c.follow.ensures.next
