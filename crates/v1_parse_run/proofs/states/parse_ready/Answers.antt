use Rattle.std.proofs.Common.{◌+◌, ◌*◌, List, ℕ, length, ap, ◌∙◌}
use Rattle.v1_parse_run.specs.Made.{made_parser}
use Rattle.v1_parse_run.specs.Working.{made_of, moment_of}
use Rattle.v1_parse_run.proofs.Holding.{empties}
use Rattle.v1_parse_run.proofs.Ending.{ends}
use Rattle.v1_parse_run.proofs.Passing.{error_whole, moment_whole, runs_whole}
use Rattle.v1_parse_run.proofs.states.parse_ready.Goals as goal

pub returns-clause-error : goal.returns-clause-error
returns-clause-error c =
    let made = made_of c.args.code.now c.args.octets.now in
    let first = moment_of c.args.frame.now c.args.store.now c.args.octets.now c.args.machine.now in
    let last = moment_of c.run_states.new.frame c.run_states.new.store c.args.octets.now c.run_states.new.machine in
    error_whole (made_parser made c.args.parser.now) first last c.end.result
    (runs_whole made c.args.parser.now c.as_slice-states.result.now first
    (moment_of c.empty.new.frame c.args.store.now c.args.octets.now c.args.machine.now)
    (moment_of c.run_body.new.frame c.run_body.new.store c.args.octets.now c.run_body.new.machine) last c.most_states-most.result
    c.as_slice-states.ensures
    (empties c.args.frame.now c.args.store.now _ c.args.machine.now.run c.args.parser.now.headers c.empty.new.frame c.empty.ensures.is)
    c.in_ok-run_body.ensures.moment
    (c.most_states-most.ensures ∙ ap (λ (u : List ℕ). (length u + 1) * (length c.as_slice-states.result.now + 1)) c.behind.ensures)
    c.in_ok-run_states.ensures.moment)
    c.end.ensures.error

pub returns-clause-moment : goal.returns-clause-moment
returns-clause-moment c =
    let made = made_of c.args.code.now c.args.octets.now in
    let first = moment_of c.args.frame.now c.args.store.now c.args.octets.now c.args.machine.now in
    let last = moment_of c.run_states.new.frame c.run_states.new.store c.args.octets.now c.run_states.new.machine in
    moment_whole (made_parser made c.args.parser.now) first last _
    (runs_whole made c.args.parser.now c.as_slice-states.result.now first
    (moment_of c.empty.new.frame c.args.store.now c.args.octets.now c.args.machine.now)
    (moment_of c.run_body.new.frame c.run_body.new.store c.args.octets.now c.run_body.new.machine) last c.most_states-most.result
    c.as_slice-states.ensures
    (empties c.args.frame.now c.args.store.now _ c.args.machine.now.run c.args.parser.now.headers c.empty.new.frame c.empty.ensures.is)
    c.in_ok-run_body.ensures.moment
    (c.most_states-most.ensures ∙ ap (λ (u : List ℕ). (length u + 1) * (length c.as_slice-states.result.now + 1)) c.behind.ensures)
    c.in_ok-run_states.ensures.moment)
    (ends c.run_states.new.frame c.run_states.new.store _ c.run_states.new.machine.run c.args.parser.now.error c.end.new.frame c.end.new.run c.end.ensures.frame c.end.ensures.run)
