use Rattle.p414_pipe_run.specs.Prepared.{setting_of}
use Rattle.run14_cmd.proofs.Running.{setting_kept, one_stored, one_sent, one_cut, no_work, set_up}
use Rattle.run14_cmd.proofs.runner.Runner14Runner.one.Goals as goal

pub returns-clause-setting : goal.returns-clause-setting
returns-clause-setting c =
    let r = c.args.self.now in
    setting_kept _ _ r.signature.now r.sessions.now r.bound c.in_ok-serve_into.ensures.setting

pub returns-clause-store : goal.returns-clause-store
returns-clause-store c =
    let r = c.args.self.now in
    one_stored c.packed_runs_as_the_program.ensures.packet (set_up (setting_of r.passes.prepared) r.signature.now r.sessions.now r.bound) r.bounded _ _ c.args.arrival.now _ _ c.in_ok-serve_into.ensures.fate

pub returns-clause-work : goal.returns-clause-work
returns-clause-work c =
    let r = c.args.self.now in
    no_work (set_up (setting_of r.passes.prepared) r.signature.now r.sessions.now r.bound) _ c.args.arrival.now

pub returns-clause-sent : goal.returns-clause-sent
returns-clause-sent c =
    let r = c.args.self.now in
    one_sent c.packed_runs_as_the_program.ensures.packet (set_up (setting_of r.passes.prepared) r.signature.now r.sessions.now r.bound) r.bounded _ _ c.args.arrival.now _ _ c.in_ok-serve_into.ensures.fate

pub returns-clause-cut : goal.returns-clause-cut
returns-clause-cut c =
    let r = c.args.self.now in
    one_cut c.packed_runs_as_the_program.ensures.packet (set_up (setting_of r.passes.prepared) r.signature.now r.sessions.now r.bound) r.bounded _ _ c.args.arrival.now _ _ c.in_ok-serve_into.ensures.fate
