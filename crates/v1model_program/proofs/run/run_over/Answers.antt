use Rattle.v1model_program.proofs.Running.{ran_so}
use Rattle.v1model_program.proofs.run.run_over.Goals as goal

pub returns : goal.returns
returns c =
    ran_so c.in_ok-ready.ready (record { syntax = c.args.program.now; entries = c.args.entries.now }) c.args.bound c.args.arrivals.now c.in_ok-ran.ran
    c.in_ok-ready.ensures c.in_ok-ran.ensures.sent c.in_ok-ran.ensures.store c.in_ok-ran.ensures.cut c.in_ok-ran.ensures.work
